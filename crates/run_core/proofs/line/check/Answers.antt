-- Proves the goals of `check` at each return after `check_name`, by the lemmas of `LineRules`. The calls before a
-- return have shown what its lemma needs: the line has a good name, it has its parts or lacks one, and its password and
-- its field are valid or refused.
use Rattle.std.proofs.Common.{◌≡◌, Some, sym, ap, true≢false, rules}
use Rattle.std.specs.Prelude.{◌≢◌}
use Rattle.std.proofs.lemmas.Result.{err_from_is_err_and}
use Rattle.run_core.specs.declared.line.Kind.TheVariants.{Audit}
use Rattle.run_core.specs.Makers.{bytes_of}
use Rattle.run_core.specs.Private.Lines.{parts_of}
use Rattle.run_core.proofs.LineRules.{IsEntry_from_IsNamed, refused_field, refused_password, refused_without_parts, IsSound-audit, IsSound-field, IsSound-no_field}
use Rattle.run_core.specs.contracts.line.Kind.{the_type}
use denote.Enum.Bare.{same_true}
use Rattle.run_core.proofs.line.check.Goals as goal

pub returns-in_default-clause-refused : goal.returns-in_default-clause-refused
returns-in_default-clause-refused c = refused_without_parts c.args.kind c.args.line.now c.in_ok-check_name.ensures.named c.in_default.ensures

pub returns-in_err-new-clause-refused : goal.returns-in_err-new-clause-refused
returns-in_err-new-clause-refused c =
    let p = err_from_is_err_and c.from_residual-in_err-new.result c.from_residual-in_err-new.ensures.1 in
    rw (p.1, p.2) (refused_password c.args.kind c.args.line.now (parts_of c.in-Some.parts) _ c.in_ok-check_name.ensures.named c.in-Some.ensures c.in_err-new.ensures.refused)

pub returns-in_err-read-clause-refused : goal.returns-in_err-read-clause-refused
returns-in_err-read-clause-refused c =
    let p = err_from_is_err_and c.from_residual-in_err-read.result c.from_residual-in_err-read.ensures.1 in
    let parts = parts_of c.in-Some.parts in
    let is : parts.field ≡ Some c.in-Some-field.field.now = ap bytes_of c.in-Some-field.is in
    let entry = IsEntry_from_IsNamed c.args.kind c.args.line.now parts c.in_ok-check_name.ensures.named c.in-Some.ensures c.in_ok-new.ensures.ok.1 in
    let unaudited : c.args.kind ≢ Audit = λ same. true≢false (sym (rw same at c.if-eq.ensures)) in
    rw (p.1, p.2) (refused_field c.args.kind c.args.line.now parts c.in-Some-field.field.now _ unaudited entry is c.in_err-read.ensures.reading)

pub returns-clause-sound : goal.returns-clause-sound
returns-clause-sound c =
    let parts = parts_of c.in-Some.parts in
    let is : parts.field ≡ Some c.in-Some-field.field.now = ap bytes_of c.in-Some-field.is in
    let entry = IsEntry_from_IsNamed c.args.kind c.args.line.now parts c.in_ok-check_name.ensures.named c.in-Some.ensures c.in_ok-new.ensures.ok.1 in
    IsSound-field c.args.kind c.args.line.now parts c.in-Some-field.field.now _ entry is c.in_ok-read.ensures.one_reading c.in_ok-read.ensures.reading

pub returns-in_default-field-clause-sound : goal.returns-in_default-field-clause-sound
returns-in_default-field-clause-sound c =
    let parts = parts_of c.in-Some.parts in
    let entry = IsEntry_from_IsNamed c.args.kind c.args.line.now parts c.in_ok-check_name.ensures.named c.in-Some.ensures c.in_ok-new.ensures.ok.1 in
    IsSound-no_field c.args.kind c.args.line.now parts entry (ap bytes_of c.in_default-field.is)

pub returns-then-eq-clause-sound : goal.returns-then-eq-clause-sound
returns-then-eq-clause-sound c =
    let audited : c.args.kind ≡ Audit = same_true the_type (search rules) _ _ (sym c.if-eq.ensures) in
    let parts = parts_of c.in-Some.parts in
    IsSound-audit c.args.kind c.args.line.now parts audited c.in_ok-check_name.ensures.named c.in-Some.ensures
