pub mod WordsRead
pub mod RowsRead
pub mod MessagesRead
pub mod Written
pub mod LaneGrows
pub mod Decides
