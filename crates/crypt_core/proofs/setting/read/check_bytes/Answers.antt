-- Proves the clause `err` of `check_bytes`: a text that is too long fails at the stage `TooLong`, and one that isn't
-- but has a byte that no setting has fails at `BadCharacter` (FirstRefusal).
use Rattle.std.proofs.Common.{All, arith, rules}
use Rattle.crypt_core.specs.Settings.{IsSettingByte}
use Rattle.crypt_core.proofs.FirstRefusal.{refused_bad_character, refused_too_long}
use Rattle.crypt_core.proofs.setting.read.check_bytes.Goals as goal

pub returns-then-text-gt-SETTING_LIMIT-clause-err : goal.returns-then-text-gt-SETTING_LIMIT-clause-err
returns-then-text-gt-SETTING_LIMIT-clause-err c = refused_too_long c.args.text.now (omega arith)

pub returns-then-not-all-clause-err : goal.returns-then-not-all-clause-err
returns-then-not-all-clause-err c =
    let bad : All IsSettingByte c.args.text.now → ⊥ = search rules in
    refused_bad_character c.args.text.now (omega arith) bad
