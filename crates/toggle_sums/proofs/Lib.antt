pub mod Common
pub mod ExchangeLaws
pub mod ToggleLaws
pub mod UsedLaws
pub mod WordSteps
