mod CallLaws
pub mod Common
mod KeptReportSteps
mod KeptSteps
mod ReadLaws
mod RoomLaws
mod ToldLaws
mod Values
mod WordLaws
