pub mod DoorTable
pub mod DoorText
