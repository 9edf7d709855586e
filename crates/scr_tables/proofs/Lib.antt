pub mod Firsts
pub mod Special
pub mod Held
pub mod Cuts
pub mod Parts
pub mod Spelled
pub mod OneReading
pub mod SomeReading
