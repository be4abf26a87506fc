-- What `clap` makes of the arguments `-m TYPE -S SALT PASSWORD`, if none of the three texts is an option: it accepts
-- them, and finds the three texts and nothing else. PrintedHash needs this for the clause `prints` of `run_command`.
--
-- The proof follows `clap` through the five words. Each word leads from one known state to the next without an error.
-- For TYPE, SALT and PASSWORD this does not depend on the text, because `clap`'s tests for options fail on each of
-- them.
use Rattle.std.proofs.Common.{◌≡◌, ◌==◌, ℕ, false, refl, ap, List, [], ◌∷◌, codes, Some, None, inl, inr}
use Rattle.std.proofs.lemmas.Bool.{ne_eqb}
use Rattle.std.specs.List.{fold}
use Rattle.std.specs.Str.{bytes_eq}
use Rattle.clap.specs.Faults.{defaults_fault, turn_fault, walk_fault}
use Rattle.clap.specs.Lexer.{long_of, short_of}
use Rattle.clap.specs.Simple.{built}
use Rattle.clap.specs.Walk.{Row, Walk, Waiting, finished, idle, nothing_held, option, used, walk_from, walked}
use Rattle.clap.specs.Words.{Shape, Text, fault_of, first_of, matches_of}
use Rattle.clap.proofs.OnLiterals.{clap_on_literals}
use Rattle.mkpasswd.specs.Corollaries.{IsNoOption, hash_arguments}
use Rattle.mkpasswd.specs.Options.{command, rounds_of, given_salt, is_set, mode_count, option_rule, type_of}

-- ---- A word that is no option

-- None of `clap`'s three tests takes this word for an option.
record FailsOptionTests (word : Text) : Type 0 where
  pub no_end : bytes_eq word (45 ∷ 45 ∷ []) ≡ false
  pub no_long : long_of word ≡ None
  pub no_short : short_of word ≡ None

-- On a word that is no option, `clap`'s three tests for options fail.
FailsOptionTests_from_IsNoOption : (word : Text) → IsNoOption word → FailsOptionTests word
FailsOptionTests_from_IsNoOption word (inl hyphen) = rw hyphen (record { no_end = refl; no_long = refl; no_short = refl })
FailsOptionTests_from_IsNoOption [] (inr none) = record { no_end = refl; no_long = refl; no_short = refl }
FailsOptionTests_from_IsNoOption (b ∷ bs) (inr none) =
    let other : (b == 45) ≡ false = ne_eqb b 45 (λ same. none (bs, ap (λ n. n ∷ bs) same)) in
    record { no_end = rw other; no_long = rw other; no_short = rw other }

-- ---- One word after another

-- The command as `clap` builds it.
shape : Shape
shape = (built command).top

-- Goes w word v: this word takes `clap` from the state `w` to the state `v` of its walk over the arguments, without an
-- error.
record Goes (w : Walk) (word : Text) (v : Walk) : Type 0 where
  pub goes : walked shape.rules [] w word ≡ v
  pub faultless : turn_fault shape [] w word ≡ []

-- GoesOn w words v: these words, one after another, take `clap` from the state `w` to the state `v` without an error.
data GoesOn : Walk → List Text → Walk → Type 0 where
  stays : {w : Walk} → GoesOn w [] w
  first : {w v u : Walk} {word : Text} {rest : List Text} → Goes w word v → GoesOn v rest u → GoesOn w (word ∷ rest) u

-- If words take `clap` from the state `w` to the state `u`, its walk over them ends in `u`.
GoesOn-fold : (w u : Walk) (arguments : List Text) → GoesOn w arguments u → fold (walked shape.rules []) w arguments ≡ u
GoesOn-fold w u arguments stays = refl
GoesOn-fold w u arguments (first one others) = rw one.goes (GoesOn-fold _ u _ others)

-- If words take `clap` from one state to another (`GoesOn`), `clap` finds no error in them.
GoesOn-faultless : (w u : Walk) (arguments : List Text) → GoesOn w arguments u → walk_fault shape [] w arguments ≡ []
unfolding walk_fault
GoesOn-faultless w u arguments stays = refl
GoesOn-faultless w u arguments (first one others) = rw (one.faultless, one.goes) (GoesOn-faultless _ u _ others)

-- ---- The five arguments

-- A state of the walk between two words: `clap` has read these values of the argument `id`, but has made no row of them
-- yet.
abbrev walk_with_pending : List Row → Text → List Text → Waiting → ℕ → Walk
walk_with_pending rows id values waiting position = record {
  held = record { rows = rows; pending = Some (id, values); skip = 0 };
  waiting = waiting;
  position = position;
  is_trailing = false;
  stopped = None;
}

-- The states before the first word and after each of the five words, in order. `type_row` and `salt_row` are the rows
-- that `clap` has made by then: of the type, and of the type and the salt.
abbrev start : Walk
start = walk_from nothing_held

abbrev after_method_option : Walk
after_method_option = walk_with_pending [] (codes "method") [] (option (codes "method")) 1

abbrev after_type : Text → Walk
after_type name = walk_with_pending [] (codes "method") (name ∷ []) idle 1

abbrev type_row : Text → List Row
type_row name = used (option_rule (codes "method") (Some 109)) (name ∷ []) []

abbrev after_salt_option : Text → Walk
after_salt_option name = walk_with_pending (type_row name) (codes "salt") [] (option (codes "salt")) 1

abbrev after_salt : Text → Text → Walk
after_salt name salt = walk_with_pending (type_row name) (codes "salt") (salt ∷ []) idle 1

abbrev salt_row : Text → Text → List Row
salt_row name salt = used (option_rule (codes "salt") (Some 83)) (salt ∷ []) (type_row name)

abbrev after_password : Text → Text → Text → Walk
after_password name salt password = walk_with_pending (salt_row name salt) (codes "password") (password ∷ []) idle 2

-- Each of the five words takes `clap` from the state before it to the state after it.
Goes-method_option : Goes start (codes "-m") after_method_option
unfolding shape command clap_on_literals
Goes-method_option = record { goes = refl; faultless = refl }

Goes-type : (name : Text) → FailsOptionTests name → Goes after_method_option name (after_type name)
unfolding shape command walked
Goes-type name p = record {
  goes = rw (p.no_end, p.no_long, p.no_short);
  faultless = rw (p.no_end, p.no_long, p.no_short);
}

Goes-salt_option : (name : Text) → Goes (after_type name) (codes "-S") (after_salt_option name)
unfolding shape command clap_on_literals
Goes-salt_option name = record { goes = refl; faultless = refl }

Goes-salt : (name salt : Text) → FailsOptionTests salt → Goes (after_salt_option name) salt (after_salt name salt)
unfolding shape command walked
Goes-salt name salt p = record {
  goes = rw (p.no_end, p.no_long, p.no_short);
  faultless = rw (p.no_end, p.no_long, p.no_short);
}

Goes-password : (name salt password : Text) → FailsOptionTests password
    → Goes (after_salt name salt) password (after_password name salt password)
unfolding shape command walked
Goes-password name salt password p = record {
  goes = rw (p.no_end, p.no_long, p.no_short);
  faultless = rw (p.no_end, p.no_long, p.no_short);
}

-- The five words together take `clap` from the first state to the last one.
GoesOn-hash_arguments : (name salt password : Text) → IsNoOption name → IsNoOption salt → IsNoOption password
    → GoesOn start (hash_arguments name salt password) (after_password name salt password)
GoesOn-hash_arguments name salt password n s p =
    first Goes-method_option (first (Goes-type name (FailsOptionTests_from_IsNoOption name n)) (first (Goes-salt_option name)
    (first (Goes-salt name salt (FailsOptionTests_from_IsNoOption salt s))
    (first (Goes-password name salt password (FailsOptionTests_from_IsNoOption password p)) stays))))

-- ---- What the command makes of them

-- `clap` accepts the arguments `-m TYPE -S SALT PASSWORD`, if none of the three texts is an option.
pub fault_of-hash_arguments : (name salt password : Text) → IsNoOption name → IsNoOption salt → IsNoOption password
    → fault_of command (hash_arguments name salt password) ≡ []
unfolding shape command defaults_fault
fault_of-hash_arguments name salt password n s p =
    let on = GoesOn-hash_arguments name salt password n s p in
    rw (GoesOn-faultless _ _ _ on, GoesOn-fold _ _ _ on)

-- IsGiven name salt password rows: the rows hold these three texts, and say that nothing else is given.
pub record IsGiven (name salt password : Text) (rows : List Row) : Type 0 where
  pub type : type_of rows ≡ name
  pub salt_is : given_salt rows ≡ Some salt
  pub rounds : rounds_of rows ≡ 0
  pub word : first_of (codes "password") rows ≡ Some password
  pub stdin : is_set (codes "stdin") rows ≡ false
  pub batch : is_set (codes "batch") rows ≡ false
  pub check : is_set (codes "check") rows ≡ false
  pub audit : is_set (codes "audit") rows ≡ false
  pub work : is_set (codes "work") rows ≡ false
  pub modes : mode_count rows ≡ 1

-- The rows that `clap` makes of the state after the password.
abbrev rows_after_password : Text → Text → Text → List Row
rows_after_password name salt password = finished shape.rules (after_password name salt password).held

-- These rows hold the three texts and nothing else.
IsGiven-rows_after_password : (name salt password : Text) → IsGiven name salt password (rows_after_password name salt password)
unfolding shape command
IsGiven-rows_after_password name salt password = record { type = refl; salt_is = refl; rounds = refl; word = refl; stdin = refl; batch = refl; check = refl; audit = refl; work = refl; modes = refl }

-- The rows that `clap` finds for these arguments are those of the state after the password.
matches_of-hash_arguments : (name salt password : Text) → IsNoOption name → IsNoOption salt → IsNoOption password
    → matches_of command (hash_arguments name salt password) ≡ rows_after_password name salt password
unfolding shape command
matches_of-hash_arguments name salt password n s p =
    ap (λ (w : Walk). finished shape.rules w.held) (GoesOn-fold _ _ _ (GoesOn-hash_arguments name salt password n s p))

-- The rows that `clap` finds for `-m TYPE -S SALT PASSWORD` hold the three texts and nothing else.
pub IsGiven-hash_arguments : (name salt password : Text) (arguments : List Text) → arguments ≡ hash_arguments name salt password
    → IsNoOption name → IsNoOption salt → IsNoOption password → IsGiven name salt password (matches_of command arguments)
IsGiven-hash_arguments name salt password arguments are n s p =
    rw (are, matches_of-hash_arguments name salt password n s p) (IsGiven-rows_after_password name salt password)
