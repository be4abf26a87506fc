-- The digest functions on whole messages: MD5 (RFC 1321), SHA-256 and SHA-512 (FIPS 180-4). They are defined in the
-- digest crates `md5` and `sha2`, as are the relations that say which message a running digest holds.
pub use Rattle.md5.specs.Md5.{md5, Holds as HoldsMd5}
pub use Rattle.sha2.specs.Sha256.{sha256}
pub use Rattle.sha2.specs.Sha512.{sha512}
pub use Rattle.sha2.specs.Hashers.{Holds256 as HoldsSha256, Holds512 as HoldsSha512}
-- These lemmas give the length of each digest, for every message.
pub use Rattle.md5.proofs.StandardFacts.{length-md5}
pub use Rattle.sha2.proofs.Facts256.{length-sha256}
pub use Rattle.sha2.proofs.Facts512.{length-sha512}
