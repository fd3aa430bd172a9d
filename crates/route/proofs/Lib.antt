pub mod Routes
pub mod Shown
pub mod Single
pub mod Unique
pub mod Withdrawn
pub mod Demands
