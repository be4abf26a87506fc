-- What holds of the rounds that `report_rounds` reports (clause `fitted`): they make the fitted scheme again, the
-- reported cost is that of a new hash with it, and the cost is within the limit. `scheme` is the one that the method
-- and the rounds make (`makes`), and the error is 0 (`positive`). FittedSchemes has the lemmas.
use Rattle.std.proofs.Common.{◌≡◌, ◌≤◌, Some, ap, sym}
use Rattle.std.specs.Prelude.{false}
use Rattle.crypt_core.specs.MadeSettings.{rounds_of}
use Rattle.crypt_core.specs.Policies.{fitted}
use Rattle.crypt_core.specs.OutdatedSchemes.{is_outdated_by}
use Rattle.call_core.specs.Arguments.{IsSchemeMade, TakesNewRounds}
use Rattle.call_core.specs.Limits.{limit_bytes, new_cost}
use Rattle.call_core.specs.declared.report.Report.{Report}
use Rattle.call_core.proofs.FittedSchemes.{IsSchemeMade-fitted}
use Rattle.call_core.proofs.MadeSchemes.{IsSchemeMade-unique}
use Rattle.call_core.proofs.limit.report_rounds.Goals as goal

pub returns-in-Some-clause-fitted : goal.returns-in-Some-clause-fitted
returns-in-Some-clause-fitted c = λ scheme makes positive.
    let number = c.args.method in
    let len = c.args.password_len in
    let policy = c.in-Ok.scheme in
    let own = c.in-Some.fitted in
    let one : policy ≡ scheme = IsSchemeMade-unique TakesNewRounds TakesNewRounds number c.args.rounds policy scheme c.in-Ok.ensures makes in
    let found : fitted policy c.bytes.result len ≡ Some own = sym c.in-Some.ensures.fitted in
    let made : IsSchemeMade TakesNewRounds number (rounds_of own) own =
    IsSchemeMade-fitted number c.args.rounds c.bytes.result len policy own c.in-Ok.ensures found in
    let rounds : c.of_rounds.result.rounds ≡ rounds_of own = cc (ap (λ (r : Report). r.rounds) c.of_rounds.ensures, c.rounds.ensures) in
    let cost : c.of_rounds.result.cost ≡ new_cost own len = cc (ap (λ (r : Report). r.cost) c.of_rounds.ensures, c.new_cost.ensures.cost) in
    let within : new_cost own len ≤ limit_bytes c.args.limit scheme = rw (c.bytes.ensures, one) at c.in-Some.ensures.within in
    let fewer : is_outdated_by scheme own ≡ false = rw one at c.in-Some.ensures.kept in
    record {
      own = own;
      makes = rw rounds made;
      cost = cost;
      within = rw cost within;
      fewer = fewer;
    }
