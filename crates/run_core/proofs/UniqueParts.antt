-- A text can be cut at its first colon in only one way, so a line has one name and one list of parts. `LineRules`,
-- `LineOutcomes` and `ForeseenChecks` need this, since their statements begin with "there are parts". The main lemma is
-- `append-colon-unique`. It is shown by induction over both texts before the colon: if one of them ended earlier, the
-- other would contain a colon.
use Rattle.std.proofs.Common.{◌≡◌, ℕ, List, [], ◌∷◌, ◌++◌, Contains, Option, Some, inl, inr, refl, sym, ap, subst, ◌∙◌, arith}
use Rattle.std.proofs.lemmas.List.Elements.{Contains-append_right}
use Rattle.run_core.specs.Lines.{HasFront, HasParts, IsCut, Parts}
use Rattle.run_core.specs.Texts.{colon}
use Rattle.run_core.specs.declared.line.Kind.{Kind}
use Rattle.run_core.specs.declared.line.Kind.TheVariants.{Batch, Check, Audit}

-- ---- cuts

Contains-colon-cons : (b : ℕ) (bytes : List ℕ) → b ≡ colon → Contains (b ∷ bytes) colon
Contains-colon-cons b bytes is = (0, omega arith, is)

-- If `f`, a colon and `b` are the same text as `g`, a colon and `d`, and neither `f` nor `g` contains a colon, then `f`
-- is `g` and `b` is `d`.
append-colon-unique : (f g b d : List ℕ) → ¬ Contains f colon → ¬ Contains g colon → f ++ colon ∷ b ≡ g ++ colon ∷ d → (f ≡ g) × (b ≡ d)
append-colon-unique [] [] b d no_f no_g e = (refl, cc)
append-colon-unique [] (y ∷ g) b d no_f no_g e = absurd (no_g (Contains-colon-cons y g (cc)))
append-colon-unique (x ∷ f) [] b d no_f no_g e = absurd (no_f (Contains-colon-cons x f (cc)))
append-colon-unique (x ∷ f) (y ∷ g) b d no_f no_g e =
    let heads : x ≡ y = cc in
    let tails : f ++ colon ∷ b ≡ g ++ colon ∷ d = cc in
    let rest = append-colon-unique f g b d (λ h. no_f (Contains-append_right (x ∷ []) f colon h)) (λ h. no_g (Contains-append_right (y ∷ []) g colon h)) tails in
    ((cc (heads, rest.0)), rest.1)

pub cut_unique : {text f g b d : List ℕ} → IsCut text f b → IsCut text g d → (f ≡ g) × (b ≡ d)
cut_unique {text} {f} {g} {b} {d} one two = append-colon-unique f g b d one.1 two.1 (sym one.0 ∙ two.0)

pub cut_has_colon : (text front back : List ℕ) → IsCut text front back → Contains text colon
cut_has_colon text front back cut =
    subst (λ (bytes : List ℕ). Contains bytes colon) (sym cut.0) (Contains-append_right front (colon ∷ back) colon (Contains-colon-cons colon back refl))

-- ---- names

pub name_unique : (line name other : List ℕ) → HasFront line name → HasFront line other → name ≡ other
name_unique line name other (inl cut) (inl again) = (cut_unique cut.1 again.1).0
name_unique line name other (inl cut) (inr whole) =
    absurd (whole.1 (subst (λ (bytes : List ℕ). Contains bytes colon) whole.0 (cut_has_colon line name cut.0 cut.1)))
name_unique line name other (inr whole) (inl cut) =
    absurd (whole.1 (subst (λ (bytes : List ℕ). Contains bytes colon) whole.0 (cut_has_colon line other cut.0 cut.1)))
name_unique line name other (inr whole) (inr again) = sym whole.0 ∙ again.0

-- ---- parts

-- Two `Parts` are the same if they have the same name, field and password.
Parts-eq : (p q : Parts) → p.name ≡ q.name → p.field ≡ q.field → p.password ≡ q.password → p ≡ q
Parts-eq p q names fields passwords =
    joined p.name q.name p.field q.field p.password q.password names fields passwords
  where
    joined : (n m : List ℕ) (f g : Option (List ℕ)) (v w : List ℕ) → n ≡ m → f ≡ g → v ≡ w
        → ◌≡◌ {A = Parts} (record { name = n; field = f; password = v }) (record { name = m; field = g; password = w })
    joined n m f g v w names fields passwords = cc

pub parts_unique : (kind : Kind) (line : List ℕ) (p q : Parts) → HasParts kind line p → HasParts kind line q → p ≡ q
parts_unique Batch line p q one two =
    let cut = cut_unique one.0 two.0 in
    Parts-eq p q cut.0 (one.1 ∙ sym two.1) cut.1
parts_unique Check line p q one two =
    let cut = cut_unique one.2 two.2 in
    let behind = cut_unique one.3 (subst (λ (back : List ℕ). IsCut back two.0 q.password) (sym cut.1) two.3) in
    Parts-eq p q cut.0 (one.4 ∙ (ap Some behind.0 ∙ sym two.4)) behind.1
parts_unique Audit line p q one two =
    let cut = cut_unique one.2 two.2 in
    let front = name_unique one.1 one.0 two.0 one.3 (subst (λ (back : List ℕ). HasFront back two.0) (sym cut.1) two.3) in
    Parts-eq p q cut.0 (one.4 ∙ (ap Some front ∙ sym two.4)) (one.5 ∙ sym two.5)
