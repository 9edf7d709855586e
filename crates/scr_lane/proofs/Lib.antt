pub mod LastLook
pub mod TwoViews
pub mod CountSteps
pub mod LaneSteps
pub mod Places
