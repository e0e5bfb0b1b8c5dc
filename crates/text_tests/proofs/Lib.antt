mod EntryLaws
pub mod WorkedLaws
