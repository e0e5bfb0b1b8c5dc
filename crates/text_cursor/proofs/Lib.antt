pub mod AroundLaws
pub mod Common
pub mod CursorLaws
pub mod LookLaws
pub mod RiseLaws
pub mod SideLaws
