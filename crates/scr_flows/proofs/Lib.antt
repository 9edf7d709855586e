pub mod Elements
pub mod Kept
pub mod Leads
pub mod Listed
pub mod Rings
