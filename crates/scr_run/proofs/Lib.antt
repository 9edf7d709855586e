pub mod Progress
pub mod Ending
pub mod Counts
pub mod Written
pub mod Loading
pub mod Streams
pub mod Codes
pub mod SameOutcome
pub mod ByCommand
pub mod Main
mod Leaving
