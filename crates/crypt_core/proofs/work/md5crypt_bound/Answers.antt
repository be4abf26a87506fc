-- Proves the clause `bound` of `md5crypt_bound`: the numbers that the code adds up are those that `md5crypt_work` adds
-- up.
use Rattle.crypt_core.specs.Messages.{md5crypt_rounds}
use Rattle.std.proofs.Common.{◌≡◌, ◌+◌, ap₂, ◌∙◌, arith}
use Rattle.crypt_core.specs.Work.{digests_alone}
use Rattle.crypt_core.proofs.work.md5crypt_bound.Goals as goal

pub returns-clause-bound : goal.returns-clause-bound
returns-clause-bound c =
    let rounds = c.from-rounds.ensures in
    let all : c.from-rounds.result + 2 ≡ md5crypt_rounds + 2 = omega (arith, rounds) in
    let in_rounds = rw rounds at c.rounds_bytes.ensures.bytes in
    c.digests_alone.ensures
    ∙ ap₂ digests_alone all (omega (arith, c.digit_bytes.ensures.bytes, in_rounds))
