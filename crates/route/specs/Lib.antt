pub mod Answers
pub mod Shown
pub mod Withdrawn
pub mod Good
