pub mod Common
pub mod MarkLaws
pub mod OneOffset
pub mod OrderLaws
pub mod RankLaws
pub mod SharedWalk
pub mod ShiftLaws
pub mod StoreLaws
