pub mod AnswerLine
pub mod Counts
pub mod Distances
pub mod DrawnTable
pub mod Frame
pub mod JobLine
pub mod KnownNet
pub mod Reading
