pub mod Sequence
pub mod Answers
