-- Proves the clause `shows` of `run_methods`. The clause of `show` says this for the bytes of `METHODS` and for the
-- result of `show`. These bytes are `methods_text`, and `Shows-as_tally` replaces the result by one with a tally.
use Rattle.std.proofs.Common.{ℕ, List, Ok, Err, subst}
use Rattle.std.proofs.lemmas.Result.{err_from_is_err_and}
use Rattle.run_core.specs.Methods.{methods_text}
use Rattle.run_core.specs.Output.{Shows}
use Rattle.run_core.proofs.SentTexts.{Shows-as_tally}
use Rattle.run_core.proofs.methods.run_methods.Goals as goal

pub returns-in_err-show-clause-shows : goal.returns-in_err-show-clause-shows
returns-in_err-show-clause-shows g c =
    let p = err_from_is_err_and c.from_residual.result c.from_residual.ensures.1 in
    rw (p.1, p.2) (Shows-as_tally {A = Unit {0}} c.args.turns c.args.out.now c.show.new.out methods_text (Err c.in_err-show.field-0.0)
    (subst (λ (text : List ℕ). Shows {A = Unit {0}} c.args.turns c.args.out.now c.show.new.out text (Err c.in_err-show.field-0.0)) c.as_bytes.ensures.value c.in_err-show.ensures))

pub returns-clause-shows : goal.returns-clause-shows
returns-clause-shows g c =
    subst (λ (text : List ℕ). Shows {A = Unit {0}} c.args.turns c.args.out.now c.show.new.out text (Ok tt)) c.as_bytes.ensures.value c.in_ok-show.ensures
