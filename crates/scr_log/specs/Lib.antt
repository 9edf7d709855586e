pub mod Layout
pub mod Entries
pub mod Progress
pub mod LogRule
pub mod Steps
pub mod Seats
pub mod Passes
pub mod Answers
