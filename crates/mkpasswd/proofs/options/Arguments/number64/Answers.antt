-- `number64` returns the number that the rows hold. `get_one` reads the number from `clap`'s matches (ReadNumbers), and
-- the rows have the same texts as the matches.
use Rattle.std.proofs.Common.{◌∙◌, ap}
use Rattle.std.specs.Option.{option_map}
use Rattle.clap.specs.Words.{found_of}
use Rattle.clap.proofs.WalkLemmas.{one_text-rows}
use Rattle.mkpasswd.specs.Options.{number_in}
use Rattle.mkpasswd.proofs.ReadNumbers.{number_of, one_text-number_of}
use Rattle.mkpasswd.proofs.options.Arguments.number64.Goals as goal

pub returns : goal.returns
returns c =
    one_text-number_of 64 c.self.inside.matches c.args.id.now c.requires c.self.invariant c.get_one.result c.get_one.ensures.none c.get_one.ensures.value
    ∙ ap (option_map number_of) (one_text-rows (found_of c.self.inside.matches) c.args.id.now)
    ∙ ap (number_in c.args.id.now) c.self.view_is
