-- The numbers of the reasons, for the clause of `put_message`, and for the lemmas on logins and audits in which an
-- error determines the reason. For each reason, the list of all reasons finds it by its number. So no two reasons have
-- the same number, and none has the number 0.
use Rattle.std.proofs.Common.{◌≡◌, ◌≢◌, ◌∙◌, Some, refl, sym, ap}
use Rattle.call_core.specs.Reasons.{reason_numbered, reason_row}
use Rattle.call_core.specs.declared.reason.Reason.{Reason}
use Rattle.call_core.specs.declared.reason.Reason.TheVariants.{PasswordTooLong}

-- `reason_numbered` returns each reason for its own number.
pub reason_numbered-reason_row : (reason : Reason) → reason_numbered ((reason_row reason).0) ≡ Some reason
reason_numbered-reason_row PasswordTooLong = refl
reason_numbered-reason_row reason = refl

Some-unique : (a b : Reason) → (Some a) ≡ (Some b) → a ≡ b
Some-unique a b e = cc e

-- Reasons with the same number are the same.
pub reason_row-unique : (a b : Reason) → (reason_row a).0 ≡ (reason_row b).0 → a ≡ b
reason_row-unique a b e = Some-unique a b (sym (reason_numbered-reason_row a) ∙ ap reason_numbered e ∙ reason_numbered-reason_row b)

-- No reason has the number 0, because `reason_numbered` returns none for it.
pub reason_row-nonzero : (reason : Reason) → (reason_row reason).0 ≢ 0
reason_row-nonzero reason = λ e. absurd (cc (sym (reason_numbered-reason_row reason) ∙ ap reason_numbered e))
