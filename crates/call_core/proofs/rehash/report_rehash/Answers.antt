-- `report_rehash` reports every outdated hash (clause `replaced`), and a refused method or rounds (clause `rehashes`).
-- A text spells one setting, and a method and rounds make one scheme, so those of an outdated hash are the ones that
-- the call read.
use Rattle.std.proofs.Common.{◌≡◌, ap, true, inl}
use Rattle.crypt_core.specs.MadeSettings.{TakesRounds}
use Rattle.crypt_core.specs.OutdatedSchemes.{is_outdated_by}
use Rattle.call_core.specs.Arguments.{Refuses}
use Rattle.call_core.specs.declared.report.Report.{Report}
use Rattle.call_core.proofs.LoginReports.{is_outdated_by-eq}
use Rattle.call_core.proofs.MadeSchemes.{IsSchemeMade-unique, OnScheme-refused}
use Rattle.call_core.proofs.rehash.report_rehash.Goals as goal

-- The clause `replaced`: if the stored hash is outdated (`is`), the report's `outdated` is 1. The hypothesis `is` holds
-- the setting in the field (`.0`), the scheme of the method and the rounds (`.1`), proofs of these two (`.2`, `.3`),
-- and that the second outdates the first (`.4`).
pub returns-in-Err-clause-replaced : goal.returns-in-Err-clause-replaced
returns-in-Err-clause-replaced c = λ is. absurd (c.in-Err.ensures.each_setting is.0 is.2)

pub returns-in-Ok-scheme_of-clause-replaced : goal.returns-in-Ok-scheme_of-clause-replaced
returns-in-Ok-scheme_of-clause-replaced c = λ is.
    let kept = c.in-Ok.setting in
    let scheme = c.in-Ok-scheme_of.scheme in
    let same : kept ≡ is.0 = c.in-Ok.ensures.each_setting is.0 is.2 in
    let made : scheme ≡ is.1 = IsSchemeMade-unique TakesRounds TakesRounds c.args.method c.args.rounds scheme is.1 c.in-Ok-scheme_of.ensures is.3 in
    let outdated : is_outdated_by kept.scheme scheme ≡ true = is_outdated_by-eq kept is.0 scheme is.1 same made is.4 in
    let reported : c.is_outdated_by.result ≡ true = cc in
    rw reported at (ap (λ (report : Report). report.outdated) c.found.ensures)

pub returns-in-Err-scheme_of-clause-rehashes : goal.returns-in-Err-scheme_of-clause-rehashes
returns-in-Err-scheme_of-clause-rehashes c = inl (
  c.in-Ok.setting,
  c.in-Ok.ensures.spelled,
  OnScheme-refused TakesRounds c.args.method c.args.rounds c.in-Err-scheme_of.reason (Refuses c.from-in-Err-scheme_of.result) _
      c.in-Err-scheme_of.ensures c.from-in-Err-scheme_of.ensures,
)
