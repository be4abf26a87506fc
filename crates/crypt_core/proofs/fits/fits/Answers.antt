-- Proves the clause `below` of `fits`: for every setting that the stored hash spells (`kept`, `spelled`), each count of
-- the hash's work is below `work_limit`. A stored hash with an error spells no setting, and one that was compared
-- spells only the setting whose work `matches` has bounded.
use Rattle.crypt_core.proofs.OneSetting.{setting_unique}
use Rattle.crypt_core.proofs.Refusals.{Spells-not-IsRefused}
use Rattle.crypt_core.proofs.fits.fits.Goals as goal

pub returns-in_err-read-clause-below : goal.returns-in_err-read-clause-below
returns-in_err-read-clause-below c = λ kept spelled.
    absurd (Spells-not-IsRefused c.args.stored.now kept spelled _ c.in_err-read.ensures.refused)

pub returns-in_err-matches-clause-below : goal.returns-in_err-matches-clause-below
returns-in_err-matches-clause-below c = λ kept spelled.
    let one = setting_unique c.args.stored.now _ _ c.in_ok-read.ensures.spelled.spells spelled in
    rw (← one) c.matches.ensures.metered.below

pub returns-clause-below : goal.returns-clause-below
returns-clause-below c = λ kept spelled.
    let one = setting_unique c.args.stored.now _ _ c.in_ok-read.ensures.spelled.spells spelled in
    rw (← one) c.matches.ensures.metered.below
