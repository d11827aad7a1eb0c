pub mod Packing
pub mod Fields
pub mod Calls
pub mod FitLaws
pub mod Joins
pub mod JudgementLaws
