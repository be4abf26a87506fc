-- Whether a scheme's rounds were clamped.
use Rattle.std.specs.Prelude.{◌≢◌, ℕ}
use Rattle.crypt_core.specs.declared.scheme.Scheme.{Scheme}
use Rattle.crypt_core.specs.declared.scheme.Scheme.TheVariants.{Shacrypt}

-- IsClamped scheme rounds: this scheme of SHA-crypt has other rounds than the caller asked for, because SHA-crypt
-- clamped them. For 0, `chosen_rounds` chooses rounds that are never clamped.
abbrev pub IsClamped : Scheme → ℕ → Type 0
IsClamped (Shacrypt sha kept) rounds = (rounds ≢ 0) × (kept.count ≢ rounds)
IsClamped scheme rounds = ⊥
