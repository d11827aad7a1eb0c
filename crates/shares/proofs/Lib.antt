pub mod TreeLaws
pub mod WayLaws
pub mod JoinLaws
pub mod ConstantLaws
pub mod UnlikeLaws
pub mod TextLaws
