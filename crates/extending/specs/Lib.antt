pub mod Extending
pub mod Looks
pub mod MarkLaws
pub mod WordLaws
pub mod LookLaws
