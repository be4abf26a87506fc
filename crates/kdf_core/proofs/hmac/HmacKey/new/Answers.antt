-- The clause `key` of `new`: the block XOR each pad is the padded key of the definition (`padded_key-from_xor`).
use Rattle.kdf_core.proofs.HmacLemmas.{padded_key-from_xor}
use Rattle.kdf_core.proofs.hmac.HmacKey.new.Goals as goal

pub returns-clause-key : goal.returns-clause-key
returns-clause-key c =
    let key = c.args.key.now in
    let block = c.block_of-block.result in
    record {
      inner = padded_key-from_xor key block c.padded.result 0x36 c.block_of-block.ensures.block c.padded.ensures;
      outer = padded_key-from_xor key block c.padded-2.result 0x5c c.block_of-block.ensures.block c.padded-2.ensures;
    }
