pub mod CountLaws
pub mod Counts
pub mod SlotWordLaws
pub mod SlotWords
pub mod ToggleSets
pub mod Toggles
