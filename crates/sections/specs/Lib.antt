pub mod Routes
pub mod Sections
pub mod Gathering
