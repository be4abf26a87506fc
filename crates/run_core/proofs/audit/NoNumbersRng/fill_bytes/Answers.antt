-- Proves the goal of `NoNumbers::fill_bytes`: it fills the buffer with zeros, as the stream `no_numbers` says.
use Rattle.std.proofs.Common.{rules}
use Rattle.rand_core.specs.Stream.{fill_bytes}
use Rattle.run_core.proofs.audit.NoNumbersRng.fill_bytes.Goals as goal

pub returns : goal.returns
unfolding fill_bytes
returns c = search rules
