pub mod Calls
pub mod Codes
pub mod Handles
pub mod Held
pub mod Room
pub mod State
pub mod Told
pub mod Words
