pub mod ReasonLaws
pub mod SecondLaws
pub mod ProblemLaws
pub mod FixedLaws
pub mod SameLaws
pub mod HeightLaws
