-- A lemma for `shacrypt_at` in src/setting/read.rt: what `strip_prefix` finds, as an equation on lists.
use Rattle.std.proofs.Common.{◌≡◌, ℕ, ◌+◌, true, List, ◌++◌, length, take, drop, eqb, Some}
use Rattle.std.specs.Borrow.{Bor}
use Rattle.std.specs.Cmp.Lexicographic.{pointwise}
use Rattle.std.proofs.lemmas.Bool.Decides.{Decides-eqb}
use Rattle.std.proofs.lemmas.Slice.Eq.{strip_prefix_is}

-- If `strip_prefix` finds the front, the text is the front followed by what `strip_prefix` returns.
pub strip_prefix-some : (text front : List ℕ) (x : Bor (List ℕ)) → (pointwise eqb (take (length front) text) front ≡ true) × (x.now ≡ drop (length front) text) × (length x.now + length front ≡ length text) → text ≡ front ++ x.now
strip_prefix-some text front x h = strip_prefix_is Decides-eqb text front (Some x) h
