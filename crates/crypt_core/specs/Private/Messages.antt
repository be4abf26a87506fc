-- What a meter counts for a digested message, and the strings that md5crypt and SHA-crypt digest in all rounds.
use Rattle.std.specs.Prelude.{ℕ, List, length}
use Rattle.prims_core.specs.Meter.{with_work}
use Rattle.prims_core.specs.declared.meter.Work.{Work}

-- with_digest counts message: the meter's counts after digesting this message, if they were `counts` before.
abbrev pub with_digest : Work → List ℕ → Work
with_digest counts message = with_work counts 1 (length message)

-- The strings that stand for the password and the salt in the messages of all rounds.
pub record Strings : Type 0 where
  pub password : List ℕ
  pub salt : List ℕ
