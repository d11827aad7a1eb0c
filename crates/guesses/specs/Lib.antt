pub mod Guesses
pub mod GuessLaws
