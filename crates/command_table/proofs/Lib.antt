pub mod Common
pub mod EntryLaws
pub mod NumberLaws
pub mod PlaceLaws
pub mod WordLaws
