pub mod Firsts
pub mod Deductions
pub mod Limits
pub mod Demands
pub mod Unique
