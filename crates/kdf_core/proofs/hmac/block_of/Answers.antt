-- The clause `block` of `block_of`, for its two cases: a key longer than a block is replaced by its digest
-- (`key_block-long`), and any other key is copied (`key_block-short`). The rest of the block is zeros, since the code
-- starts with a block of zeros.
use Rattle.std.proofs.Common.{◌≡◌, refl, ap, ◌∙◌, arith}
use Rattle.std.proofs.lemmas.List.{append-nil}
use Rattle.prims_core.specs.Digests.{sha256}
use Rattle.kdf_core.proofs.HmacLemmas.{key_block-long, key_block-short}
use Rattle.kdf_core.proofs.hmac.block_of.Goals as goal

pub returns-then-key-gt-SHA256_BLOCK-clause-block : goal.returns-then-key-gt-SHA256_BLOCK-clause-block
returns-then-key-gt-SHA256_BLOCK-clause-block c =
    let digest = c.sha256_of-digest.result in
    let kept = c.copy_from_slice.new.self in
    let digest_is : digest ≡ sha256 c.args.key.now = c.sha256_of-digest.ensures.digest ∙ ap sha256 (append-nil _ ∙ append-nil _) in
    key_block-long c.args.key.now kept c.if-key-gt-SHA256_BLOCK.true (c.copy_from_slice.ensures.after ∙ digest_is) (omega arith)

pub returns-else-key-gt-SHA256_BLOCK-clause-block : goal.returns-else-key-gt-SHA256_BLOCK-clause-block
returns-else-key-gt-SHA256_BLOCK-clause-block c =
    key_block-short c.args.key.now _ _ c.if-key-gt-SHA256_BLOCK.false c.copy_from_slice-else-key-gt-SHA256_BLOCK.ensures.after refl
