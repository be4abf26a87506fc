-- The clauses of `row_count`: log2 N is at most 22 (`IsBounded-from_IsAccepted`), so the shift doesn't overflow and
-- gives the power of two.
use Rattle.std.proofs.Common.{◌<◌, ◌^◌, ◌∙◌, ap, arith}
use Rattle.std.proofs.lemmas.Nat.{one_shl}
use Rattle.kdf_core.proofs.ScryptBounds.{IsBounded-from_IsAccepted}
use Rattle.kdf_core.proofs.params.Params.row_count.Goals as goal

pub overflow_shl-result : goal.overflow_shl-result
overflow_shl-result c = omega (arith, (IsBounded-from_IsAccepted c.args.self.now c.log_n.ensures.accepted).log, c.log_n.ensures.number)

pub returns-clause-number : goal.returns-clause-number
returns-clause-number c =
    let small : c.log_n.result < 32 = omega (arith, (IsBounded-from_IsAccepted c.args.self.now c.log_n.ensures.accepted).log, c.log_n.ensures.number) in
    one_shl c.log_n.result 32 small ∙ ap (λ k. 2 ^ k) c.log_n.ensures.number

pub returns-clause-bounded : goal.returns-clause-bounded
returns-clause-bounded c = IsBounded-from_IsAccepted c.args.self.now c.log_n.ensures.accepted
