pub mod Signs
pub mod Differences
pub mod Margins
pub mod Floors
pub mod Bytes
pub mod Unique
pub mod Demands
pub mod Cases
