pub mod Unfolded
pub mod Filling
pub mod UnfoldedLaws
