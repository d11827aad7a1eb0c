pub mod Encode
pub mod Order
pub mod Worked
