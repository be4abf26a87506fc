-- Definitions that only the contracts of private functions cite. To read the contracts of the public functions you need
-- none of them.
pub mod Commands
pub mod Options
