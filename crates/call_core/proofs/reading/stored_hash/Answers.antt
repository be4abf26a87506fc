-- `stored_hash` returns the setting that the field spells, if it spells one (clause `each_setting`). A text can be read
-- in one way only, so the hash that was read has that setting, and an error contradicts it.
use Rattle.std.proofs.Common.{Ok, Err, rules}
use Rattle.crypt_core.specs.Readings.{IsReadOneWay}
use Rattle.crypt_core.specs.StoredFields.{IsHashOf}
use Rattle.call_core.proofs.reading.stored_hash.Goals as goal

pub returns-in-Ok-Hash-clause-each_setting : goal.returns-in-Ok-Hash-clause-each_setting
unfolding IsReadOneWay
returns-in-Ok-Hash-clause-each_setting c kept spells =
    let stored = c.in-Ok-Hash.stored in
    let reads : IsHashOf c.args.field.now stored = search rules in
    cc (c.in-Ok-Hash.ensures.one_reading (Ok stored.setting) (Ok kept) reads.spells spells)

pub returns-in-Err-clause-each_setting : goal.returns-in-Err-clause-each_setting
unfolding IsReadOneWay
returns-in-Err-clause-each_setting c kept spells =
    absurd (cc (c.in-Err.ensures.one_reading (Err c.in-Err.fault) (Ok kept) c.in-Err.ensures.reading.1 spells))
