pub mod Accounts
pub mod Ceilings
pub mod Joining
pub mod Answers
pub mod Portions
pub mod Groupings
pub mod Gathering
pub mod Limits
