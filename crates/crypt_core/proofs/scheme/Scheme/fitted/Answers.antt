-- Proves the clauses of `Scheme::fitted` for the case that the policy's own scheme costs more than the limit. The
-- clauses then state what FittedRounds shows of `fewer_rounds`.
use Rattle.std.proofs.Common.{◌<◌, Option, Some, None, arith}
use Rattle.std.specs.Prelude.{IfSome}
use Rattle.crypt_core.specs.Policies.{new_cost}
use Rattle.crypt_core.specs.declared.scheme.Scheme.{Scheme}
use Rattle.crypt_core.proofs.FittedRounds.{is_outdated_by-fewer_rounds, fewer_rounds-within_limit, IfNone-fewer_rounds, IsSome-fewer_rounds}
use Rattle.crypt_core.proofs.scheme.Scheme.fitted.Goals as goal

-- If the scheme in an option has two properties, it has the first of them.
IfSome-first : (P Q : Scheme → Type 0) (fewer : Option Scheme) → IfSome fewer (λ s. P s × Q s) → IfSome fewer P
IfSome-first P Q (Some s) both = both.0
IfSome-first P Q None both = tt

-- Likewise for the second of them.
IfSome-second : (P Q : Scheme → Type 0) (fewer : Option Scheme) → IfSome fewer (λ s. P s × Q s) → IfSome fewer Q
IfSome-second P Q (Some s) both = both.1
IfSome-second P Q None both = tt

pub returns-clause-within : goal.returns-clause-within
returns-clause-within c = rw c.fewer_rounds.ensures (IfSome-first _ _ _ (fewer_rounds-within_limit c.args.self.now c.args.limit c.args.password_len))

pub returns-clause-method : goal.returns-clause-method
returns-clause-method c = rw c.fewer_rounds.ensures (IfSome-second _ _ _ (fewer_rounds-within_limit c.args.self.now c.args.limit c.args.password_len))

pub returns-clause-kept : goal.returns-clause-kept
returns-clause-kept c =
    let above : c.args.limit < new_cost c.args.self.now c.args.password_len = omega (arith, c.new_cost.ensures.cost) in
    rw c.fewer_rounds.ensures (is_outdated_by-fewer_rounds c.args.self.now c.args.limit c.args.password_len c.new_cost.ensures.in_range above)

pub returns-clause-none : goal.returns-clause-none
returns-clause-none c =
    let above : c.args.limit < new_cost c.args.self.now c.args.password_len = omega (arith, c.new_cost.ensures.cost) in
    rw c.fewer_rounds.ensures (IfNone-fewer_rounds c.args.self.now c.args.limit c.args.password_len c.new_cost.ensures.in_range above)

-- The clause `policy`: if the limit is at least the policy's own (`least`), some rounds fit.
pub returns-clause-policy : goal.returns-clause-policy
returns-clause-policy c = λ least.
    let above : c.args.limit < new_cost c.args.self.now c.args.password_len = omega (arith, c.new_cost.ensures.cost) in
    rw c.fewer_rounds.ensures
    (IsSome-fewer_rounds c.args.self.now c.args.limit c.args.password_len c.new_cost.ensures.in_range above c.requires least)
