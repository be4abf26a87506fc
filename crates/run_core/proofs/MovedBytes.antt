-- If `MovesBytes` holds for two steps, it holds for both together. The clauses that bound the calls of a device by the
-- bytes that it moved need this: `moves` of `send` and `read_first_line`, `gives` of `LineReader::next_line`, and
-- `runs` of each run. The lemmas only add inequalities.
use Rattle.std.proofs.Common.{ℕ, arith}
use Rattle.run_core.specs.Devices.{Device, MovesBytes}

module _ {T : Type 0} where
  pub MovesBytes-none : (device : Device T) → MovesBytes 0 device device
  MovesBytes-none device = record { idle = omega arith; calls = omega arith }

  pub MovesBytes-trans : (spare : ℕ) (old mid new : Device T) → MovesBytes 0 old mid → MovesBytes spare mid new → MovesBytes spare old new
  MovesBytes-trans spare old mid new before more = record {
    idle = omega (arith, before.idle, more.idle);
    calls = omega (arith, before.calls, more.calls);
  }
