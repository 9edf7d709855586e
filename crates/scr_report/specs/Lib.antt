pub mod Text
pub mod Outcome
pub mod Grammar
pub mod Parts
pub mod ReadBack
pub mod Memory
