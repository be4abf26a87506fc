-- Lemmas for the laws of `Counted` (every digest consists of bytes), and definitions for private items (a block in
-- lanes, and block mixing step by step). To read the public contracts you need none of them.
pub mod Diagonals
pub mod DigestFacts
pub mod Mixing
