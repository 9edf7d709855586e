pub mod Folds
pub mod NewEntry
pub mod Choices
pub mod Entering
