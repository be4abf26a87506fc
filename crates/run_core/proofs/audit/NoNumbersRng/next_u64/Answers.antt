-- Proves the goal of `NoNumbers::next_u64`: it returns 0, as the stream `no_numbers` says.
use Rattle.std.proofs.Common.{refl}
use Rattle.rand_core.specs.Stream.{next_u64}
use Rattle.run_core.proofs.audit.NoNumbersRng.next_u64.Goals as goal

pub returns : goal.returns
unfolding next_u64
returns c = refl
