-- Facts on the first broken rule of a list, for the clauses `refused` and `each_refusal` of `Setting::read` and
-- `Setting::make`, and for those of run_core's lines. Each goes by induction over the list: the rule of the first error
-- is broken, there is only one first error, and mapping the errors keeps it the first.
use Rattle.std.proofs.Common.{◌≡◌, inl, inr, List, [], ◌∷◌, ◌++◌, map, ap, sym, subst, ◌∙◌}
use Rattle.crypt_core.specs.Rules.{IsFirstBroken}

-- If an error is the first of the list whose rule is broken, its rule is broken.
pub first_breaks : {F : Type 0} (faults : List F) (breaks : F → Type 0) (fault : F) → IsFirstBroken faults breaks fault → breaks fault
first_breaks [] breaks fault first = absurd first
first_breaks (f ∷ fs) breaks fault (inl here) = subst breaks (sym here.0) here.1
first_breaks (f ∷ fs) breaks fault (inr later) = first_breaks fs breaks fault later.1

-- At most one error is the first of a list whose rule is broken.
pub first_unique : {F : Type 0} (faults : List F) (breaks : F → Type 0) (a b : F) → IsFirstBroken faults breaks a → IsFirstBroken faults breaks b → a ≡ b
first_unique [] breaks a b first other = absurd first
first_unique (f ∷ fs) breaks a b (inl here) (inl there) = here.0 ∙ sym there.0
first_unique (f ∷ fs) breaks a b (inl here) (inr later) = absurd (later.0 here.1)
first_unique (f ∷ fs) breaks a b (inr later) (inl here) = absurd (later.0 here.1)
first_unique (f ∷ fs) breaks a b (inr later) (inr other) = first_unique fs breaks a b later.1 other.1

-- Let a list begin with the errors `make f` for the f of another list, where the rule of `make f` is broken exactly if
-- that of f is broken. If f is the first error of the other list whose rule is broken, `make f` is the first of this
-- one.
pub first_mapped : {A F : Type 0} (make : A → F) (faults : List A) (others : List F) (breaks : F → Type 0) (own : A → Type 0)
    → ((f : A) → own f → breaks (make f)) → ((f : A) → breaks (make f) → own f)
    → (fault : A) → IsFirstBroken faults own fault → IsFirstBroken (map make faults ++ others) breaks (make fault)
first_mapped make [] others breaks own to from fault first = absurd first
first_mapped make (f ∷ fs) others breaks own to from fault (inl here) = inl (ap make here.0, to f here.1)
first_mapped make (f ∷ fs) others breaks own to from fault (inr later) =
    inr ((λ broken. later.0 (from f broken)), first_mapped make fs others breaks own to from fault later.1)
