pub mod Sheets
pub mod Cases
pub mod DomesticCases
