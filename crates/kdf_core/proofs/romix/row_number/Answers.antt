-- The clause of `row_number`: the word that it reads is the first word of the last block in row order too
-- (`first_word-in_rows`), and modulo N it decides Integerify (`integerify-mod`).
use Rattle.std.proofs.Common.{◌%◌, ◌-◌, ◌≤◌, sym, ap, ◌∙◌, length, get_or, arith}
use Rattle.prims_core.specs.Diagonals.{in_rows}
use Rattle.prims_core.proofs.BlockFacts.{length-in_rows}
use Rattle.kdf_core.specs.Scrypt.{integerify}
use Rattle.kdf_core.proofs.Integerify.{first_word-in_rows, integerify-mod}
use Rattle.kdf_core.proofs.romix.row_number.Goals as goal

pub returns : goal.returns
returns c =
    let words = c.args.words.now in
    let rows = in_rows words in
    let blocks = c.requires.some_block in
    let power = c.requires.power.1 in
    let one_block : 16 ≤ length rows = omega (arith, length-in_rows words, blocks.1, blocks.2) in
    ap (λ n. n % c.args.row_count) (sym (first_word-in_rows words blocks.0 blocks.1 blocks.2))
    ∙ ap (λ n. get_or rows (length rows - 16) 0 % n) power.power
    ∙ (sym (integerify-mod rows c.requires.power.0 one_block power.most)
    ∙ ap (λ n. integerify rows % n) (sym power.power))
