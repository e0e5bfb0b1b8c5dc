pub mod Common
pub mod FrontLaws
pub mod TagLaws
