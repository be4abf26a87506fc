-- Proves the clause of `Scheme::longest_within`. The cost grows with the length (CostGrowth), so when the binary search
-- ends with `above` right after `within`, exactly the lengths up to `within` cost at most the limit; and if even the
-- empty password costs more, every password does.
use Rattle.std.proofs.Common.{◌≡◌, ℕ, ◌+◌, ◌<◌, ◌≤◌, inl, inr, arith}
use Rattle.std.specs.Prelude.{◌↔◌}
use Rattle.std.proofs.lemmas.Bool.{cases_lt}
use Rattle.crypt_core.specs.Methods.{method_row}
use Rattle.crypt_core.specs.Passwords.{password_limit}
use Rattle.crypt_core.specs.Policies.{new_cost}
use Rattle.crypt_core.specs.Schemes.{IsScheme, method_of}
use Rattle.crypt_core.specs.declared.scheme.Scheme.{Scheme}
use Rattle.crypt_core.proofs.CostGrowth.{cost_by-mono}
use Rattle.crypt_core.proofs.scheme.Scheme.longest_within.Goals as goal

-- A longer password, up to `password_limit`, does not cost less.
new_cost-mono : (scheme : Scheme) (n most : ℕ) → IsScheme scheme → n ≤ most → most ≤ password_limit → new_cost scheme n ≤ new_cost scheme most
new_cost-mono scheme n most in_range less short = cost_by-mono scheme n most (method_row (method_of scheme)).made_salt_length in_range less short

-- Suppose that a new hash of a password of length `within` costs at most the limit, and that one for the next length
-- costs more. Then a new hash costs at most the limit exactly if its password has at most the length `within`.
within-iff_le : (scheme : Scheme) (limit within above : ℕ) → IsScheme scheme → above ≡ within + 1 → within ≤ password_limit
    → new_cost scheme within ≤ limit → (above ≤ password_limit → limit < new_cost scheme above)
    → (len : ℕ) → len ≤ password_limit → (new_cost scheme len ≤ limit ↔ len ≤ within)
within-iff_le scheme limit within above in_range next most low high len short = (
  λ fits. elim (cases_lt within len) [
    | inl longer ↦
        let more = new_cost-mono scheme above len in_range (omega (arith, next, longer)) short in
        let beyond = high (omega (arith, next, longer, short)) in
        absurd (omega (arith, more, beyond, fits))
    | inr less ↦ less
  ],
  λ less. let more = new_cost-mono scheme len within in_range less most in omega (arith, more, low),
)

-- If even the empty password costs more than the limit, so does each password of a valid length (`len`, `short`).
pub returns-then-new_cost-limit : goal.returns-then-new_cost-limit
returns-then-new_cost-limit c = λ len short.
    let more = new_cost-mono c.args.self.now 0 len c.new_cost.ensures.in_range (omega arith) short in
    omega (arith, more, c.new_cost.ensures.cost)

pub returns : goal.returns
returns c =
    let ends = c.lengths.invariant in (
      omega (arith, ends.order, ends.most),
      within-iff_le c.args.self.now c.args.limit c.lengths.within c.lengths.above c.new_cost.ensures.in_range
          (omega (arith, ends.order)) (omega (arith, ends.order, ends.most)) ends.within ends.above,
    )
