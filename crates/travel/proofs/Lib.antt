-- The laws behind the functions' proofs.
pub mod AccountRecords
pub mod Demands
pub mod Unique
pub mod Limits
