pub mod Commands
pub mod Corollaries
pub mod Faults
pub mod Options
pub mod Private
