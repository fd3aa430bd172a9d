pub mod Answers
pub mod Judging
pub mod Shown
pub mod Good
pub mod Cases
