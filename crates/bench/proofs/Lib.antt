pub mod Texts
pub mod Lines
pub mod Routes
pub mod Cases
pub mod Unique
