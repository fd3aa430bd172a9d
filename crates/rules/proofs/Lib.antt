pub mod Rules
pub mod Grants
pub mod Offers
pub mod Rows
pub mod Limits
pub mod Withdrawn
pub mod Demands
pub mod Unique
