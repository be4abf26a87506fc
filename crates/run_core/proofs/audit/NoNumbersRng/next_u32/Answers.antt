-- Proves the goal of `NoNumbers::next_u32`: it returns 0, as the stream `no_numbers` says.
use Rattle.std.proofs.Common.{refl}
use Rattle.rand_core.specs.Stream.{next_u32}
use Rattle.run_core.proofs.audit.NoNumbersRng.next_u32.Goals as goal

pub returns : goal.returns
unfolding next_u32
returns c = refl
