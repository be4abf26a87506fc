-- Definitions that only the contracts of private functions cite. A reader of the public clauses can skip them.
pub mod Answers
pub mod Deliveries
pub mod Fetching
pub mod Headroom
pub mod Lines
pub mod Readers
