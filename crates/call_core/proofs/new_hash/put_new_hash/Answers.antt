-- The clauses `hashes`, `opens` and `current` of `put_new_hash` follow from the clauses of its two steps, `new_hash_of`
-- and `put_hashed`, by the lemmas of PutNewHashes and PutHashes.
use Rattle.std.proofs.Common.{ℕ, List, length}
use Rattle.prims_core.specs.Work.{no_work}
use Rattle.call_core.specs.Checks.{Opens}
use Rattle.call_core.specs.Limits.{limit_in}
use Rattle.call_core.specs.Reports.{found}
use Rattle.call_core.proofs.PutHashes.{IsPut-whole}
use Rattle.call_core.specs.Rehashes.{Rehashes}
use Rattle.call_core.proofs.PutNewHashes.{HashesAnew_from_IsPut}
use Rattle.call_core.proofs.new_hash.put_new_hash.Goals as goal

pub returns-clause-hashes : goal.returns-clause-hashes
returns-clause-hashes g c =
    HashesAnew_from_IsPut c.args.password.now c.args.method c.args.rounds (limit_in c.args.method c.args.rounds c.args.limit (length c.args.password.now)) c.args.numbers.now c.args.out.now c.new_hash_of-hashed.result _
    c.put_hashed.new.out c.new_hash_of-hashed.ensures.makes (rw c.token.ensures at c.put_hashed.ensures.puts)

pub returns-clause-opens : goal.returns-clause-opens
returns-clause-opens g c =
    IsPut-whole (λ (text : List ℕ). Opens c.args.password.now text (limit_in c.args.method c.args.rounds c.args.limit (length c.args.password.now))) (limit_in c.args.method c.args.rounds c.args.limit (length c.args.password.now)) c.token.result.now c.args.out.now _
    c.new_hash_of-hashed.result _ c.put_hashed.new.out c.new_hash_of-hashed.ensures.reported c.put_hashed.ensures.puts
    c.new_hash_of-hashed.ensures.opens

pub returns-clause-current : goal.returns-clause-current
returns-clause-current g c =
    IsPut-whole (λ (text : List ℕ). Rehashes text c.args.method c.args.rounds (found 0 0 no_work)) (limit_in c.args.method c.args.rounds c.args.limit (length c.args.password.now)) c.token.result.now c.args.out.now _
    c.new_hash_of-hashed.result _ c.put_hashed.new.out c.new_hash_of-hashed.ensures.reported c.put_hashed.ensures.puts
    c.new_hash_of-hashed.ensures.current
