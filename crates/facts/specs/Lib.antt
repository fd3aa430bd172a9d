pub mod Readings
pub mod Engines
pub mod Facts
pub mod Named
pub mod Cases
