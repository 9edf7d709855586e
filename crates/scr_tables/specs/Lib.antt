pub mod Rules
pub mod Spelling
pub mod Rows
pub mod Held
pub mod Step
pub mod State
pub mod Named
pub mod Index
