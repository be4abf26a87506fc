-- `put_message` writes the message for the reason that has the number. The reason that it found is the only one with
-- that number, since no two reasons have the same number.
use Rattle.std.proofs.Common.{◌≡◌, rules}
use Rattle.call_core.proofs.ReasonNumbers.{reason_numbered-reason_row}
use Rattle.call_core.proofs.message.put_message.Goals as goal

pub returns-in-Some : goal.returns-in-Some
returns-in-Some c = record {
  known = λ reason has.
      let same : c.in-Some.reason ≡ reason = cc (c.in-Some.ensures.numbered, has, reason_numbered-reason_row reason) in
      rw (← same) (search rules);
  unknown = λ none. absurd (none c.in-Some.reason c.in-Some.ensures.known);
}
