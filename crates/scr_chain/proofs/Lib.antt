pub mod Alike
pub mod Joining
pub mod OwnRows
pub mod Passing
pub mod TheFive
pub mod OverFrames
