pub mod Left
pub mod Source
pub mod Feeding
pub mod Steps
pub mod Made
