pub mod Arrivals
pub mod Chains
pub mod Five
