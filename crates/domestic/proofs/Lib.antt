pub mod Words
pub mod Rules
pub mod Limits
pub mod Demands
pub mod Unique
