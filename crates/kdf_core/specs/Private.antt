-- Definitions that only the contracts of private functions cite. To read the public contracts you need none of them.
pub mod Mixing
