pub mod Rules
pub mod Books
pub mod CrossBorder
pub mod Families
pub mod Grants
pub mod Limits
pub mod Withdrawn
