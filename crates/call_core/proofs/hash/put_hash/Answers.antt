-- The clauses `hashes` and `opens` of `put_hash` follow from the clauses of its two steps, `hash_of` and `put_hashed`,
-- by the lemmas of PutHashes.
use Rattle.std.proofs.Common.{ℕ, List}
use Rattle.call_core.specs.Checks.{Opens}
use Rattle.call_core.proofs.PutHashes.{IsPut-whole, Hashes_from_IsPut}
use Rattle.call_core.proofs.hash.put_hash.Goals as goal

pub returns-clause-hashes : goal.returns-clause-hashes
returns-clause-hashes g c =
    Hashes_from_IsPut c.args.password.now c.args.text.now c.args.budget c.args.out.now c.hash_of-hashed.result _ c.put_hashed.new.out
    c.hash_of-hashed.ensures.makes (rw c.token.ensures at c.put_hashed.ensures.puts)

pub returns-clause-opens : goal.returns-clause-opens
returns-clause-opens g c =
    IsPut-whole (λ (text : List ℕ). Opens c.args.password.now text c.args.budget) c.args.budget
    c.token.result.now c.args.out.now _ c.hash_of-hashed.result _ c.put_hashed.new.out c.hash_of-hashed.ensures.reported
    c.put_hashed.ensures.puts c.hash_of-hashed.ensures.opens
