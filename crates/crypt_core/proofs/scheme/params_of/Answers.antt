-- The `unwrap` of `params_of` can't fail: the parameters for up to 11 rounds are accepted (MadeSettings).
use Rattle.crypt_core.proofs.MadeSettings.{IsAccepted-made_params}
use Rattle.crypt_core.proofs.scheme.params_of.Goals as goal

pub unwrap-requires : goal.unwrap-requires
unwrap-requires c = c.new.ensures.accepted.1 (IsAccepted-made_params c.args.rounds c.requires.to)
