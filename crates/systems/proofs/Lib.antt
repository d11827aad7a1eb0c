pub mod AtomLaws
pub mod Link
pub mod Exact
pub mod Heights
pub mod WorkedRight
pub mod ShownLaws
pub mod PolicyLaws
