-- Proves the clause `count` of `string_of`: the repeated piece is fed and digested as one message.
use Rattle.std.proofs.Common.{sym}
use Rattle.crypt_core.proofs.CycleLemmas.{length-repeat}
use Rattle.crypt_core.proofs.CountSums.{with_digest-from_counts}
use Rattle.crypt_core.proofs.shacrypt.string_of.Goals as goal

pub returns-clause-count : goal.returns-clause-count
returns-clause-count g c =
    with_digest-from_counts c.args.meter.now c.feed_repeated.new.meter c.finish-digest.new.meter _ _ c.feed_repeated.ensures.count c.finish-digest.ensures.count
    (sym (length-repeat c.args.times c.args.piece.now))
