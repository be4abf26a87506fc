-- Proves the clause `shut` of `StoredHash::standing`: a dead hash is not whole, so no password matches it.
use Rattle.std.proofs.Common.{◌∙◌, sym, true≢false}
use Rattle.crypt_core.proofs.stored.StoredHash.standing.Goals as goal

pub returns-then-not-is_whole-clause-shut : goal.returns-then-not-is_whole-clause-shut
returns-then-not-is_whole-clause-shut c is = c.is_whole.ensures.dead (λ whole. true≢false (sym whole ∙ c.if-not-is_whole.true))
