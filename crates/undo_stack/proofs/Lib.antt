pub mod BorderLaws
pub mod Common
pub mod CountLaws
pub mod CountRows
pub mod FitsLaws
pub mod GroupLaws
pub mod OriginLaws
pub mod RingLaws
