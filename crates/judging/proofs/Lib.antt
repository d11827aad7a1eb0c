pub mod JudgeLaws
pub mod ModelLaws
pub mod ShownAccepted
pub mod WalkLaws
