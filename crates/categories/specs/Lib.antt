pub mod Categories
pub mod Brakes
pub mod WholeLength
pub mod Limits
