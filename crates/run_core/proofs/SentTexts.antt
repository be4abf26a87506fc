-- Lemmas for the clauses of `send`. The invariant of its loop is `IsUnderWay`: a prefix of the text was taken, no call
-- failed, and each call took a byte. `IsUnderWay-step` shows that one `give` keeps it. `Takes-trans` and
-- `TakesFront-after` join what an output took in two steps, and the runs use them too. `Shows-as_tally` is for the
-- clause `shows` of `run_methods`, and for the crate mkpasswd, which writes its messages with `show`.
use Rattle.std.proofs.Common.{◌≡◌, ℕ, ◌+◌, ◌<◌, ◌≤◌, List, [], ◌++◌, length, take, drop, arith, refl, sym, ◌∙◌, ap, append_assoc, false, nat_eq, Result, Ok, Err, nat_lt, ◌&&◌, ◌-◌, add-zero}
use Rattle.std.proofs.lemmas.List.{length-append, length-take-le, take-append-drop}
use Rattle.std.specs.Io.KnownBytes.{Appends}
use Rattle.std.proofs.KnownBytes.{Appends-nil, Appends-trans}
use Rattle.std.proofs.lemmas.Bool.Decides.{nat_tests}
use Rattle.run_core.specs.Answers.{tally_of}
use Rattle.run_core.specs.DeviceCalls.{IsUnflushed, as_count}
use Rattle.run_core.specs.Devices.{Device, MovesBytes}
use Rattle.run_core.specs.Output.{Shows, Takes, TakesFront}
use Rattle.run_core.specs.declared.fault.RunFault.{RunFault}
use Rattle.run_core.specs.declared.tally.Tally.{Tally}
use Rattle.run_core.proofs.MovedBytes.{MovesBytes-none, MovesBytes-trans}

module _ {T : Type 0} where
  -- ---- what an output has taken

  pub Takes-nil : (d : Device T) → Takes 0 0 d d []
  Takes-nil d = record { shown = Appends-nil _; counted = omega arith; failed = omega arith; tried = omega arith; flushed = refl }

  pub Takes-trans : {failures : ℕ} (old mid new : Device T) (bytes others : List ℕ) → Takes 0 0 old mid bytes → Takes failures 0 mid new others
      → Takes failures 0 old new (bytes ++ others)
  Takes-trans {failures} old mid new bytes others before more =
      let counted = before.counted in
      let more_counted = more.counted in
      let failed = before.failed in
      let more_failed = more.failed in
      let tried = before.tried in
      let more_tried = more.tried in
      record {
        shown = Appends-trans _ mid.shown _ bytes others before.shown more.shown;
        counted = omega (arith, length-append bytes others, counted, more_counted);
        failed = omega (arith, failed, more_failed);
        tried = omega (arith, tried, more_tried);
        flushed = more.flushed ∙ before.flushed;
      }

  -- If an output took `whole` in one step and a proper prefix of `text` in the next, `TakesFront` holds for both steps
  -- together.
  pub TakesFront-after : {failures : ℕ} (old mid new : Device T) (whole text : List ℕ) → Takes 0 0 old mid whole → TakesFront failures mid new [] text
      → TakesFront failures old new whole text
  TakesFront-after old mid new whole text before front = (
    front.0,
    front.1,
    front.2,
    front.3,
    Takes-trans old mid new whole front.0 before front.4,
  )

  -- ---- writing a text

  -- The loop's invariant: `rest` is what is left of the text. No call failed, and each call took a byte.
  pub record IsUnderWay (old new : Device T) (text rest : List ℕ) (turns left : ℕ) : Type 0 where
    pub sent : List ℕ
    pub split : sent ++ rest ≡ text
    pub takes : Takes 0 0 old new sent
    pub calls : new.calls + left ≡ old.calls + turns
    pub fewer : left ≤ turns
    pub untried : left ≡ turns → rest ≡ text
    pub moves : MovesBytes 0 old new

  -- The invariant is kept when a `give` takes `count` bytes of the rest, and at least one.
  pub IsUnderWay-step : (old mid new : Device T) (text rest next : List ℕ) (turns left count : ℕ)
      → IsUnderWay old mid text rest turns left → 0 < left → 0 < count → count ≤ length rest
      → Appends mid.shown new.shown (take count rest)
      → new.failures ≡ mid.failures + as_count (nat_eq count 0 && nat_lt 0 (length rest))
      → new.calls ≡ mid.calls + 1 → new.bytes ≡ mid.bytes + count → new.idle ≡ mid.idle + as_count (nat_eq count 0 && nat_eq (length rest) 0)
      → IsUnflushed mid new → next ≡ drop count rest
      → IsUnderWay old new text next turns (left - 1)
  IsUnderWay-step old mid new text rest next turns left count before some_left some_taken within appends failures calls bytes idle unflushed next_is =
      let sent = before.sent in
      let took = take count rest in
      let some : nat_eq count 0 ≡ false = grind (arith, nat_tests) in
      let no_failure : new.failures ≡ mid.failures + 0 = rw some at failures in
      let size : length took ≡ count = length-take-le count rest within in
      let no_idle : new.idle ≡ mid.idle = rw some at idle ∙ add-zero mid.idle in
      let were_fewer = before.fewer in
      record {
        sent = sent ++ took;
        split = rw next_is (append_assoc sent took (drop count rest) ∙ (ap (λ l. sent ++ l) (take-append-drop count rest) ∙ before.split));
        takes = Takes-trans old mid new sent took before.takes (record {
          shown = appends;
          counted = omega (arith, size, bytes);
          failed = no_failure;
          tried = unflushed.flushes ∙ sym (add-zero mid.flushes);
          flushed = unflushed.flushed;
        });
        calls = omega (arith, before.calls, calls);
        fewer = omega (arith, were_fewer);
        untried = λ same. absurd (omega (arith, were_fewer, some_left, same));
        moves = MovesBytes-trans 0 old mid new before.moves (record {
          idle = omega (arith, no_idle);
          calls = omega (arith, calls, bytes, no_failure, some_taken);
        });
      }

  pub IsUnderWay-start : (old : Device T) (text : List ℕ) (turns : ℕ) → IsUnderWay old old text text turns turns
  IsUnderWay-start old text turns = record {
    sent = [];
    split = refl;
    takes = Takes-nil old;
    calls = refl;
    fewer = omega arith;
    untried = λ same. refl;
    moves = MovesBytes-none old;
  }

-- ---- the result of a text that was written and flushed

-- as_tally result: the same result, with an empty tally as its value.
abbrev pub as_tally : {A : Type 0} → Result A RunFault → Result Tally RunFault
as_tally (Ok done) = Ok (tally_of [])
as_tally (Err fault) = Err fault

-- `Shows` does not depend on what a successful result holds.
pub Shows-as_tally : {A T : Type 0} (turns : ℕ) (old new : Device T) (text : List ℕ) (result : Result A RunFault)
    → Shows turns old new text result → Shows turns old new text (as_tally result)
Shows-as_tally turns old new text (Ok done) shows = shows
Shows-as_tally turns old new text (Err fault) shows = shows
