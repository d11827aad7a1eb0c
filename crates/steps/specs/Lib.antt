pub mod Tests
pub mod Steps
pub mod TestLaws
pub mod SecondLaws
pub mod StepLaws
