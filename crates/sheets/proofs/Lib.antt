pub mod Sheets
pub mod Cases
pub mod DomesticCases
pub mod Demands
pub mod Unique
