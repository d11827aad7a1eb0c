pub mod Asking
pub mod Told
pub mod Worked
pub mod Exact
pub mod Demand3
pub mod Given
pub mod AskingLaws
