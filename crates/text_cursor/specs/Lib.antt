pub mod Around
pub mod Cursors
pub mod Parts
pub mod Sides
