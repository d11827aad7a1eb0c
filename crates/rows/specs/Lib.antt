pub mod Rows
pub mod Emptied
pub mod Blocks
