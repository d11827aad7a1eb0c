pub mod Judging
pub mod Told
pub mod Exactly
pub mod Worked
pub mod Walk
pub mod CaseLaws
pub mod TableLaws
pub mod ExtendLaws
