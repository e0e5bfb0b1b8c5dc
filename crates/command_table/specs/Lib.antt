pub mod Entries
pub mod Numbers
pub mod Reading
pub mod Spelled
pub mod Table
pub mod Words
