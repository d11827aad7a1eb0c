pub mod Beside
pub mod GatherLaws
pub mod MergeLaws
pub mod StoreLaws
pub mod TakeLaws
pub mod LeftLaws
pub mod SweepLaws
