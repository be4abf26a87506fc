-- The rounds of SHA-crypt (Drepper, "Unix crypt using SHA-256 and SHA-512").
use Rattle.std.specs.Prelude.{◌≡◌, ℕ, Bool, false, min, max}

-- The rounds of a setting: their number, and whether the setting has a `rounds=` field.
pub record Rounds : Type 0 where
  pub count : ℕ
  pub is_written : Bool

-- The rounds of a setting without a `rounds=` field (Drepper, "Unix crypt using SHA-256 and SHA-512").
abbrev pub default_rounds : ℕ
default_rounds = 5000

-- The fewest rounds of SHA-crypt.
abbrev pub min_rounds : ℕ
min_rounds = 1000

-- The most rounds of SHA-crypt.
abbrev pub max_rounds : ℕ
max_rounds = 999999999

-- clamped n: the number from `min_rounds` to `max_rounds` that is nearest to n.
abbrev pub clamped : ℕ → ℕ
clamped n = max min_rounds (min n max_rounds)

-- IsRounds rounds: some setting has these rounds: their number is in range, and without a `rounds=` field it is the
-- default.
abbrev pub IsRounds : Rounds → Type 0
IsRounds rounds = (clamped rounds.count ≡ rounds.count) × (rounds.is_written ≡ false → rounds.count ≡ default_rounds)
