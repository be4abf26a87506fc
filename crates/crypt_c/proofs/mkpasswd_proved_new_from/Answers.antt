-- The clauses of `mkpasswd_proved_new_from` follow from those of `put_new_hash`, which gets the limit that the budget
-- stands for and makes the report and `out`, and those of `write_report`, whose result is 1 exactly if the report's
-- error is 0. In `writes`, the policy's limit admits the new hash (`limit_by-policy_limit`), whose cost does not depend
-- on the salt, and `out` has room for it, so only a lack of memory can make the call fail (`HashesAnew-made`).
use Rattle.std.proofs.Common.{◌≡◌, ◌==◌, ◌∙◌, ap, arith, false, inl, inr, length, nat_lt, pos, rules, true}
use Rattle.crypt_core.specs.Crypt.{crypt}
use Rattle.crypt_core.specs.MadeSettings.{salted}
use Rattle.crypt_core.specs.Work.{cost}
use Rattle.call_core.specs.Limits.{limit_of, new_cost}
use Rattle.call_core.proofs.LoginPromises.{limit_of-policy}
use Rattle.call_core.proofs.PolicyLimits.{limit_by-policy_limit, cost-salted}
use Rattle.call_core.proofs.PutNewHashes.{HashesAnew-made}
use Rattle.crypt_c.proofs.mkpasswd_proved_new_from.Goals as goal

pub returns-clause-hashes : goal.returns-clause-hashes
returns-clause-hashes c = rw c.write_report.ensures.reported (rw c.of.ensures at c.put_new_hash.ensures.hashes)

-- The clause `then_current`: if the result is 1 (`one`), the method and the rounds don't outdate the new hash.
pub returns-clause-then_current : goal.returns-clause-then_current
returns-clause-then_current c = λ one.
    let positive : (c.put_new_hash.result).error ≡ 0 = c.write_report.ensures.answers.1.0 (search (rules, one)) in
    rw c.write_report.ensures.reported (c.put_new_hash.ensures.current positive)

-- The clause `locked`: if the result is 0 (`zero`), `out` gets `*0` instead of a hash.
pub returns-clause-locked : goal.returns-clause-locked
returns-clause-locked c = λ zero. c.put_new_hash.ensures.locked (λ positive.
    let none : c.write_report.result ≡ pos 0 = search (rules, zero) in
    absurd (cc (c.write_report.ensures.answers.1.1 positive, none)))

-- The clause `writes`: the method and the rounds make a scheme (`scheme`, `made`), the budget means the policy's limit
-- (`twice`), the password is valid (`is`), its new hash is within that limit (`within`), there are three random numbers
-- (`three`), and `out` has room for the hash (`room`). Then the result is 1, or the error is `OutOfMemory`.
pub returns-clause-writes : goal.returns-clause-writes
returns-clause-writes c = λ scheme made default is within three room.
    let len = length c.args.password.now in
    let limit = limit_of c.args.method c.args.rounds c.args.budget len in
    let admits = limit_by-policy_limit scheme len limit (limit_of-policy c.args.method c.args.rounds c.args.budget len scheme made default) is.0 within in
    let below : nat_lt limit (new_cost scheme len) ≡ false = grind (arith, admits, within) in
    let low : nat_lt limit (cost (salted scheme c.args.numbers.now) len) ≡ false =
    ap (nat_lt limit) (cost-salted scheme c.args.numbers.now len) ∙ below in
    let fits : nat_lt (length (crypt c.args.password.now (salted scheme c.args.numbers.now))) (length c.args.out.now) ≡ true = grind (arith, room) in
    let drawn : (length c.args.numbers.now == 3) ≡ true = grind (arith, three) in
    elim (HashesAnew-made c.args.password.now c.args.method c.args.rounds limit c.args.numbers.now c.args.out.now scheme _ _ made is drawn low fits
    (rw c.of.ensures at c.put_new_hash.ensures.hashes)) [
      | inl positive ↦ inl (search (rules, c.write_report.ensures.answers.1.1 positive))
      | inr lacks ↦ inr (rw c.write_report.ensures.reported lacks)
    ]
