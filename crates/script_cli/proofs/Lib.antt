mod HarmlessLaws
pub mod Common
pub mod LineLaws
pub mod RunLaws
mod SameLaws
pub mod SendingLaws
pub mod ToldLaws
pub mod TurnLaws
pub mod WalkSteps
