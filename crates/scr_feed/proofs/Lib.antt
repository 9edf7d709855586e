pub mod Due
pub mod Feeds
pub mod Tells
pub mod Made
