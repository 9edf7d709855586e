pub mod Flows
pub mod Order
pub mod Ring
