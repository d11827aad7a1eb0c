pub mod Masks
pub mod Bytes
pub mod Parts
pub mod RowLaws
pub mod BlockLaws
