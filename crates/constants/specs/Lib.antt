pub mod FoldLaws
pub mod Stacks
pub mod StackLaws
pub mod FromText
pub mod PairLaws
pub mod StackedLaws
pub mod FromTextLaws
