-- The clauses of `value_of`, for each arm of its match. In the arm of a range, the byte is the character of the value
-- (`character_of-dot_to_nine` and the lemmas on the other ranges), and no other value has that character. A byte of the
-- last arm is in one of the four gaps around the three ranges, so it is outside the alphabet.
use Rattle.std.proofs.Common.{◌≡◌, ℕ, ◌+◌, ◌-◌, ◌<◌, arith, refl, sym, ◌∙◌, ap, inl, inr, Some}
use Rattle.prims_core.specs.Alphabet.{character_of}
use Rattle.prims_core.proofs.AlphabetFacts.{character_of-dot_to_nine, character_of-upper_case, character_of-lower_case, character_of-injective, Contains-character_of, IsOutside, Contains-not_outside, character_of-not_outside}
use Rattle.prims_core.proofs.alphabet.value_of.Goals as goal

pub returns-in-46-to-57 : goal.returns-in-46-to-57
returns-in-46-to-57 c =
    let byte : ℕ = c.args.character in
    let value : ℕ = byte - 46 in
    let below : value < 64 = omega arith in
    let spells_byte : character_of value ≡ byte = character_of-dot_to_nine (byte - 46) (omega arith) ∙ omega arith in
    record {
      accepts = ((λ _. Contains-character_of byte value below spells_byte), λ _. refl);
      value = (below, spells_byte);
      inverse = λ v vs same. ap Some (character_of-injective value v below vs (spells_byte ∙ sym same));
    }

pub returns-in-65-to-90 : goal.returns-in-65-to-90
returns-in-65-to-90 c =
    let byte : ℕ = c.args.character in
    let value : ℕ = byte - 65 + 12 in
    let below : value < 64 = omega arith in
    let spells_byte : character_of value ≡ byte = character_of-upper_case (byte - 65) (omega arith) ∙ omega arith in
    record {
      accepts = ((λ _. Contains-character_of byte value below spells_byte), λ _. refl);
      value = (below, spells_byte);
      inverse = λ v vs same. ap Some (character_of-injective value v below vs (spells_byte ∙ sym same));
    }

pub returns-in-97-to-122 : goal.returns-in-97-to-122
returns-in-97-to-122 c =
    let byte : ℕ = c.args.character in
    let value : ℕ = byte - 97 + 38 in
    let below : value < 64 = omega arith in
    let spells_byte : character_of value ≡ byte = character_of-lower_case (byte - 97) (omega arith) ∙ omega arith in
    record {
      accepts = ((λ _. Contains-character_of byte value below spells_byte), λ _. refl);
      value = (below, spells_byte);
      inverse = λ v vs same. ap Some (character_of-injective value v below vs (spells_byte ∙ sym same));
    }

pub returns-in_default : goal.returns-in_default
returns-in_default c =
    let outside : IsOutside c.args.character = inl (omega arith) in
    record {
      accepts = ((λ some. cc), λ has. absurd (Contains-not_outside c.args.character outside has));
      value = tt;
      inverse = λ v vs same. absurd (character_of-not_outside c.args.character outside v vs same);
    }

pub returns-in_default-2 : goal.returns-in_default-2
returns-in_default-2 c =
    let outside : IsOutside c.args.character = inr (inl (omega arith, omega arith)) in
    record {
      accepts = ((λ some. cc), λ has. absurd (Contains-not_outside c.args.character outside has));
      value = tt;
      inverse = λ v vs same. absurd (character_of-not_outside c.args.character outside v vs same);
    }

pub returns-in_default-3 : goal.returns-in_default-3
returns-in_default-3 c =
    let outside : IsOutside c.args.character = inr (inr (inl (omega arith, omega arith))) in
    record {
      accepts = ((λ some. cc), λ has. absurd (Contains-not_outside c.args.character outside has));
      value = tt;
      inverse = λ v vs same. absurd (character_of-not_outside c.args.character outside v vs same);
    }

pub returns-in_default-4 : goal.returns-in_default-4
returns-in_default-4 c =
    let outside : IsOutside c.args.character = inr (inr (inr (omega arith))) in
    record {
      accepts = ((λ some. cc), λ has. absurd (Contains-not_outside c.args.character outside has));
      value = tt;
      inverse = λ v vs same. absurd (character_of-not_outside c.args.character outside v vs same);
    }
