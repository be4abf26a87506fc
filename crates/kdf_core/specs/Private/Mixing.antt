-- The memory in which scrypt mixes a part, and the meter after scrypt has run in memory that was counted before.
use Rattle.std.specs.Prelude.{◌≡◌, ℕ, ◌+◌, ◌*◌, ◌^◌, ◌≤◌, List, length}
use Rattle.prims_core.specs.declared.meter.Work.{Work}
use Rattle.kdf_core.specs.Params.{ScryptParams}
use Rattle.kdf_core.specs.ScryptWork.{scrypt_work}

-- part_words r: the number of words of a part, which is 2r blocks of sixteen words.
abbrev pub part_words : ℕ → ℕ
part_words r = 32 * r

-- AreHalves r x y: r is at least 1, and the halves x and y have 2r blocks each.
pub record AreHalves (r : ℕ) (x y : List ℕ) : Type 0 where
  pub some_block : 1 ≤ r
  pub first : length x ≡ part_words r
  pub second : length y ≡ part_words r

-- IsPower rows k: the number of rows is 2 ^ k, and at least 2 and at most 2 ^ 32.
pub record IsPower (rows k : ℕ) : Type 0 where
  pub power : rows ≡ 2 ^ k
  pub above_one : 1 ≤ k
  pub most : k ≤ 32

-- with_derivation counts params password_length salt_length count: the counts of a meter after scrypt has run in memory
-- that was counted before.
abbrev pub with_derivation : Work → ScryptParams → ℕ → ℕ → ℕ → Work
with_derivation counts params password_length salt_length count =
    let work = scrypt_work params password_length salt_length count in
    record counts {
      digests = counts.digests + work.digests;
      bytes = counts.bytes + work.bytes;
      mixes = counts.mixes + work.mixes;
    }
