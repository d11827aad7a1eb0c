pub mod NumberLaws
pub mod PairLaws
pub mod Pairs
pub mod Shown
pub mod ShownLaws
