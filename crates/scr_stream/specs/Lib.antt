pub mod Causes
pub mod Streamed
pub mod Frames
pub mod Tests
pub mod Reading
pub mod Taken
pub mod SameRun
