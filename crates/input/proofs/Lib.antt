pub mod Demands
pub mod Unique
