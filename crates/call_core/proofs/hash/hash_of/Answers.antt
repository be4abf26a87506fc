-- The password opens the hash that `hash_of` made (clause `opens`). `hash_within` ensures that the hash spells the
-- setting, is the password's hash with it, and costs at most the budget.
use Rattle.std.proofs.lemmas.Result.{IfOk-weaker}
use Rattle.call_core.proofs.hash.hash_of.Goals as goal

pub returns-clause-opens : goal.returns-clause-opens
returns-clause-opens g c =
    let kept = c.in_ok-setting.setting in
    IfOk-weaker c.hash_within.result _ _
    (λ made is. (c.in_ok-password.ensures.ok.1, (kept, is.0, is.1, is.2)))
    (rw c.in_ok-password.ensures.ok.0 at c.hash_within.ensures.spells)
