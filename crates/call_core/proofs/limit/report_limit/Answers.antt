-- The limit that `report_limit` reports is the one that a login and a new hash use for every password up to the
-- reported length (clause `used`). A new hash of each such password is within the limit, so `limit_in-limit_bytes`
-- applies. The error is 0 (`positive`), and `len` is at most that length (`short`).
use Rattle.std.proofs.Common.{◌≡◌, ◌≤◌, ap, arith}
use Rattle.crypt_core.specs.Passwords.{password_limit}
use Rattle.call_core.specs.Limits.{limit_bytes, new_cost}
use Rattle.call_core.specs.declared.report.Report.{Report}
use Rattle.call_core.proofs.PolicyLimits.{limit_in-limit_bytes}
use Rattle.call_core.proofs.limit.report_limit.Goals as goal

pub returns-in-Some-clause-used : goal.returns-in-Some-clause-used
returns-in-Some-clause-used c = λ len positive short.
    let scheme = c.in-Ok.scheme in
    let reported = c.of_rounds.ensures in
    let longest : c.of_rounds.result.length ≡ c.in-Some.longest = ap (λ (r : Report). r.length) reported in
    let cost : c.of_rounds.result.cost ≡ c.bytes-limit.result = ap (λ (r : Report). r.cost) reported in
    let below : len ≤ password_limit = omega (arith, short, longest, c.in-Some.ensures.0) in
    let most : new_cost scheme len ≤ c.bytes-limit.result = (c.in-Some.ensures.1 len below).1 (omega (arith, short, longest)) in
    let within : new_cost scheme len ≤ limit_bytes c.args.limit scheme = rw c.bytes-limit.ensures at most in
    rw (cost, c.bytes-limit.ensures) (limit_in-limit_bytes c.args.method c.args.rounds scheme c.args.limit len c.in-Ok.ensures below within)
