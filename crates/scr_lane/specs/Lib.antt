pub mod Views
pub mod LaneRule
pub mod CountsRule
pub mod Ends
pub mod Messages
