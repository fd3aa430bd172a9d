pub mod Reduces
pub mod Speeds
pub mod Unique
pub mod Demands
pub mod Cases
