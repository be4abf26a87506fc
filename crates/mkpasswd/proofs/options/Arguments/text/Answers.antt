-- `text` returns the value that the rows hold. `get_str` reads the value from `clap`'s matches, and the rows have the
-- same texts as the matches.
use Rattle.std.proofs.Common.{◌∙◌, ap}
use Rattle.clap.specs.Words.{first_of, found_of}
use Rattle.clap.proofs.WalkLemmas.{first_value-rows}
use Rattle.mkpasswd.proofs.options.Arguments.text.Goals as goal

pub returns : goal.returns
returns c =
    c.get_str.ensures ∙ first_value-rows (found_of c.self.inside.matches) c.args.id.now ∙ ap (first_of c.args.id.now) c.self.view_is
