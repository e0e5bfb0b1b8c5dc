pub mod Meanings
pub mod Parts
pub mod Positions
pub mod Ranges
pub mod Values
pub mod Views
pub mod WordRows
pub mod Words
