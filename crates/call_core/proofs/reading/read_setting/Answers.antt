-- `read_setting` returns the setting that the text spells (`kept`, `spells`), if it spells one (clause `each_setting`),
-- because `Setting::read` does.
use Rattle.call_core.proofs.reading.read_setting.Goals as goal

pub returns-in_err-read-clause-each_setting : goal.returns-in_err-read-clause-each_setting
returns-in_err-read-clause-each_setting c = λ kept spells. absurd (cc (c.in_err-read.ensures.each_setting kept spells))

pub returns-clause-each_setting : goal.returns-clause-each_setting
returns-clause-each_setting c = λ kept spells. cc (c.in_ok-read.ensures.each_setting kept spells)
