pub mod Common
pub mod ListLaws
pub mod MoveLaws
pub mod PlaceLaws
pub mod ViewLaws
