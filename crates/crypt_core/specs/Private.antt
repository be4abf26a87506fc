-- Definitions that only contracts of private functions use. Readers of the public clauses need none of them.
pub mod Groups
pub mod Messages
pub mod Parts
