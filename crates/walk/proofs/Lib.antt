pub mod Counted
pub mod Fresh
pub mod Loop
pub mod Marked
pub mod RowsOver
pub mod Viewed
