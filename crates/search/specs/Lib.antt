pub mod Found
pub mod PairLaws
pub mod WideLaws
pub mod TestLaws
pub mod FoundLaws
pub mod WordLaws
