pub mod AskedRight
pub mod DecidedLaws
