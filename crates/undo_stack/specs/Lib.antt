pub mod Fits
pub mod History
pub mod Modified
pub mod Rings
