pub mod Columns
pub mod Entries
pub mod Forms
pub mod Kept
pub mod Marks
