-- The clauses of `derived_block`, from its loop over the rounds. The first tag is U_1 (`tag-chain_one`). Each iteration
-- computes the next tag from the one before (`chain-add_one`) and XORs it into the sum (`block-add_one`).
use Rattle.std.proofs.Common.{◌≡◌, ◌≤◌, ℕ, List, [], ◌+◌, ◌++◌, length, sym, ap, ◌∙◌, arith}
use Rattle.prims_core.specs.Meter.{with_work}
use Rattle.prims_core.specs.Words.{xor_lists}
use Rattle.kdf_core.specs.Hmac.{hmac_sha256, tag_bytes}
use Rattle.kdf_core.specs.HmacMessages.{IsKeyOf}
use Rattle.kdf_core.specs.Pbkdf2.{chain, block}
use Rattle.kdf_core.specs.Pbkdf2Messages.{block_bytes}
use Rattle.kdf_core.proofs.AddedWork.{with_work-add}
use Rattle.kdf_core.proofs.Pbkdf2Lemmas.{chain-one, chain-add_one, block-one, block-add_one}
use Rattle.kdf_core.proofs.pbkdf2.derived_block.Goals as goal

-- The first tag is U_1.
tag-chain_one : (c : goal.After-tag-last) (password : List ℕ) → IsKeyOf c.args.key.now password
    → c.tag-last.result ≡ chain password c.args.salt.now c.args.number 1
tag-chain_one c password of_key =
    c.tag-last.ensures.tag password of_key
    ∙ (ap (λ (x : List ℕ). hmac_sha256 password (c.args.salt.now ++ x)) c.number_be.ensures
    ∙ sym (chain-one password c.args.salt.now c.args.number))

pub rounds-init : goal.rounds-init
rounds-init c =
    let salt = c.args.salt.now in
    let number_length : length c.number_be.result ≡ 4 = ap length c.number_be.ensures in
    let bytes : tag_bytes (length salt + length c.number_be.result) ≡ block_bytes (length salt) 1 = omega arith in
    record {
      last = tag-chain_one c;
      sum = λ password of_key. tag-chain_one c password of_key ∙ sym (block-one password salt c.args.number);
      count = c.tag-last.ensures.count ∙ ap (with_work c.args.meter.now 2) bytes;
    }

pub rounds-preserved : goal.rounds-preserved
rounds-preserved c =
    let salt = c.args.salt.now in
    let i = c.args.number in
    let n = c.rounds.counter in
    let before = c.rounds.invariant in
    let one_round : 1 ≤ n = omega arith in
    -- The tag of this iteration is the next U_j.
    let tag_is_next : (password : List ℕ) → IsKeyOf c.args.key.now password → c.tag-last-in-rounds.result ≡ chain password salt i (n + 1) =
    λ password of_key. c.tag-last-in-rounds.ensures.tag password of_key
    ∙ (ap (λ (x : List ℕ). hmac_sha256 password (x ++ [])) (before.last password of_key) ∙ sym (chain-add_one password salt i n)) in
    record {
      last = tag_is_next;
      sum = λ password of_key. c.xor_into.ensures
          ∙ (ap (λ (x : List ℕ). xor_lists x c.tag-last-in-rounds.result) (before.sum password of_key)
          ∙ (ap (λ (x : List ℕ). xor_lists (block password salt n i) x) (tag_is_next password of_key)
          ∙ sym (block-add_one password salt i n one_round)));
      count = with_work-add c.args.meter.now c.rounds.meter c.tag-last-in-rounds.new.meter _ _ _ _ _ _ before.count
          c.tag-last-in-rounds.ensures.count (omega arith) (omega arith);
    }
