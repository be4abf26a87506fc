-- The clauses of `derive`: its calls compose to the scrypt of the definition (`scrypt-from_derivations`), and the meter
-- can count the bytes of the last derivation (`scrypt_bytes-lt`).
use Rattle.std.proofs.Common.{◌≡◌, ◌∙◌, length, arith}
use Rattle.kdf_core.specs.Scrypt.{parts_bytes}
use Rattle.kdf_core.proofs.ScryptBounds.{scrypt_bytes-lt}
use Rattle.kdf_core.proofs.ScryptResult.{bytes-before_last_derivation, scrypt-from_derivations}
use Rattle.kdf_core.proofs.scrypt.derive.Goals as goal

pub pbkdf2-requires-2-clause-bytes_room : goal.pbkdf2-requires-2-clause-bytes_room
pbkdf2-requires-2-clause-bytes_room g c =
    let params = c.args.params.now in
    let length_last : length c.mix_parts.new.parts ≡ parts_bytes params =
    c.mix_parts.auto.parts ∙ (c.pbkdf2.auto.out ∙ c.requires.parts) in
    omega (
      arith,
      bytes-before_last_derivation c.args.meter.now c.new-key.new.meter c.pbkdf2.new.meter c.mix_parts.new.meter _ _ _ _ _
          c.new-key.ensures.count c.pbkdf2.ensures.count c.mix_parts.ensures.count,
      scrypt_bytes-lt c.args.meter.now.bytes (length c.args.password.now) (length c.args.salt.now) (length c.args.out.now)
          (length c.args.parts.now) (length c.mix_parts.new.parts) params c.row_count-row_count.ensures.bounded.accepted c.requires.room.1
          (omega arith) (omega arith) c.requires.few_blocks c.requires.parts length_last,
    )

pub returns-clause-bytes : goal.returns-clause-bytes
returns-clause-bytes g c =
    let password = c.args.password.now in
    scrypt-from_derivations password c.args.salt.now c.args.params.now (length c.args.out.now) c.row_count-row_count.result c.args.parts.now c.args.halves.now
    c.pbkdf2.new.out c.mix_parts.new.parts c.pbkdf2-2.new.out c.row_count-row_count.ensures.number c.requires.parts (omega (arith, c.requires.halves))
    (c.pbkdf2.ensures.bytes password c.new-key.ensures.key) c.mix_parts.ensures.parts
    (c.pbkdf2-2.ensures.bytes password c.new-key.ensures.key)
