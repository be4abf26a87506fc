-- Proves the clauses `whole` and `dead` of `StoredHash::is_whole`. A text that begins with its canonical setting and a
-- `$` is whole exactly if the rest is a packed digest. A text that doesn't is not whole. No password matches a text
-- that is not whole (WholeHashes).
use Rattle.std.proofs.Common.{◌≡◌, ◌∷◌, ◌++◌, ◌∙◌, List, [], ℕ, Some, None, ap}
use Rattle.std.specs.Cmp.{unsigned_Decides}
use Rattle.std.proofs.lemmas.Slice.Eq.{strip_prefix_is}
use Rattle.crypt_core.specs.Settings.{canonical_text, dollar}
use Rattle.crypt_core.proofs.WholeHashes.{not_whole-without_front, not_whole-fits_none, IsWhole-iff_packed}
use Rattle.crypt_core.proofs.stored.StoredHash.is_whole.Goals as goal

pub returns-in-Some-clause-whole : goal.returns-in-Some-clause-whole
returns-in-Some-clause-whole c =
    let text = c.self.inside.text.now in
    let kept = c.self.inside.setting in
    let front : c.as_slice.result.now ≡ canonical_text kept ++ dollar ∷ [] =
    c.as_slice.ensures.value ∙ c.push.ensures.items ∙ ap (λ (x : List ℕ). x ++ dollar ∷ []) c.text-front.ensures.canonical in
    rw (← c.self.view_is)
    (IsWhole-iff_packed text c.as_slice.result.now c.in-Some.packed.now kept c.is_packed.result front
    (strip_prefix_is unsigned_Decides text c.as_slice.result.now (Some c.in-Some.packed) c.in-Some.ensures.cases)
    (rw c.method.ensures at c.is_packed.ensures))

pub returns-in-Some-clause-dead : goal.returns-in-Some-clause-dead
returns-in-Some-clause-dead c =
    let text = c.self.inside.text.now in
    let whole = rw (← c.self.view_is) at (returns-in-Some-clause-whole c) in
    rw (← c.self.view_is) (not_whole-fits_none c.is_packed.result text c.self.inside.setting c.self.invariant whole)

pub returns-in-None-clause-whole : goal.returns-in-None-clause-whole
returns-in-None-clause-whole c =
    let text = c.self.inside.text.now in
    let kept = c.self.inside.setting in
    let front : c.as_slice.result.now ≡ canonical_text kept ++ dollar ∷ [] =
    c.as_slice.ensures.value ∙ c.push.ensures.items ∙ ap (λ (x : List ℕ). x ++ dollar ∷ []) c.text-front.ensures.canonical in
    let lacks = strip_prefix_is unsigned_Decides text c.as_slice.result.now None c.in-None.ensures.cases in
    rw (← c.self.view_is) ((λ e. absurd (cc e)), λ whole. absurd (not_whole-without_front text c.as_slice.result.now kept front lacks whole))

pub returns-in-None-clause-dead : goal.returns-in-None-clause-dead
returns-in-None-clause-dead c =
    let text = c.self.inside.text.now in
    let whole = rw (← c.self.view_is) at (returns-in-None-clause-whole c) in
    rw (← c.self.view_is) (not_whole-fits_none _ text c.self.inside.setting c.self.invariant whole)
