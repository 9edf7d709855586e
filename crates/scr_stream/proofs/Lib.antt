mod Prompt
mod Putting
mod RowsOfFrames
mod Ranges
mod FrameAdded
mod EntryTests
mod Differing
mod FramesInFront
mod FrameTaken
mod Keeping
mod HeaderRead
mod FrameRead
mod EndRead
mod EntryRead
mod WholeStream
mod Growing
mod RowsWritten
mod FramesWritten
mod EntryStands
pub mod OneReading
pub mod SomeReading
pub mod WrittenRead
mod Reach
