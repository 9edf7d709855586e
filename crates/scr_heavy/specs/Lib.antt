pub mod Rows
pub mod Rules
pub mod Step
pub mod Verdicts
