pub mod Speed
pub mod Cases
