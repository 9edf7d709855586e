pub mod DoorRules
