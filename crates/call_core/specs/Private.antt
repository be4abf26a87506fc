-- Definitions that only the contracts of private functions cite. To read the contracts of the calls you need none of
-- them.
pub mod Checks
pub mod Hashes
pub mod Settings
