pub mod Places
pub mod Ports
pub mod Rows
pub mod Rules
pub mod Step
