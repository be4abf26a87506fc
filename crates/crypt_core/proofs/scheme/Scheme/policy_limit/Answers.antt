-- Proves the clause `admits` of `Scheme::policy_limit`: the limit covers a check of the empty password against every
-- hash with the scheme (EmptyPasswordCost).
use Rattle.std.proofs.Common.{◌≡◌, ◌≤◌, length, subst}
use Rattle.crypt_core.specs.Policies.{policy_limit}
use Rattle.crypt_core.specs.Work.{cost}
use Rattle.crypt_core.specs.declared.scheme.Scheme.{Scheme}
use Rattle.crypt_core.proofs.EmptyPasswordCost.{empty_password_cost-le-policy_limit}
use Rattle.crypt_core.proofs.scheme.Scheme.policy_limit.Goals as goal

pub returns-clause-admits : goal.returns-clause-admits
returns-clause-admits c kept own short =
    let limit : c.max.result ≡ policy_limit c.args.self.now = cc (c.max.ensures, c.new_cost.ensures.cost) in
    rw limit (subst (λ (scheme : Scheme). cost kept 0 ≤ policy_limit scheme) own (empty_password_cost-le-policy_limit kept.scheme (length kept.salt) short))
