pub mod Cells
pub mod Keys
pub mod Slots
pub mod TagsGone
pub mod TagsTold
pub mod Told
