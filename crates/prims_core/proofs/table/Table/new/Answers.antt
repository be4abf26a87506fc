-- The clause `zeros` of `new`: a new table reads as zeros. Its vector is empty or filled with zeros; the padded list is
-- all zeros in both cases (`padded-append_zeros`).
use Rattle.std.proofs.Common.{◌≡◌, ℕ, ◌-◌, ◌*◌, List, [], ◌++◌, length, replicate, Vec, Global, ap, ◌∙◌, arith}
use Rattle.prims_core.specs.Memory.{rows_of, padded}
use Rattle.prims_core.proofs.TableFacts.{rows_of-replicate, padded-append_zeros}
use Rattle.prims_core.proofs.table.Table.new.Goals as goal
use Rattle.prims_core.proofs.table.Table.new.Goals.{then-row_words-gt1024, else-row_words-gt1024}

pub returns-clause-zeros : goal.returns-clause-zeros
returns-clause-zeros c =
    let n : ℕ = c.args.rows * c.args.row_words in
    let empty : c.in_ok-words.words.items ≡ [] = c.in_ok-words.ensures.items in
    let padded_nil : padded n [] ≡ replicate n 0 = ap (λ (k : ℕ). replicate k 0) (omega arith) in
    let zeros : padded n c.if-row_words-gt1024.words.items ≡ replicate n 0 =
    elim c.if-row_words-gt1024.branch [
      | then-row_words-gt1024 w ↦
          ap (λ (words : Vec ℕ Global). padded n words.items) w.words-is
          ∙ ap (padded n) (w.fill.ensures.zeros ∙ ap (λ (xs : List ℕ). xs ++ replicate (n - length xs) 0) empty)
          ∙ padded-append_zeros n n [] (omega arith)
      | else-row_words-gt1024 w ↦ ap (λ (words : Vec ℕ Global). padded n words.items) w.words-is ∙ ap (padded n) empty
    ] ∙ padded_nil in
    ap (rows_of c.args.rows c.args.row_words) zeros ∙ rows_of-replicate c.args.rows c.args.row_words
