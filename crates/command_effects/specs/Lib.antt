pub mod Edits
pub mod Faults
pub mod Lists
pub mod Marking
pub mod Ranges
pub mod Settings
pub mod Tagging
pub mod Words
