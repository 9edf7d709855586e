pub mod Rotating
pub mod Following
pub mod Adding
pub mod WholeLane
