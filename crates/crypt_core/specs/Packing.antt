-- The packed form of a digest in crypt(5): the digest's bytes in groups, in an order that the method fixes, and each
-- group as a number in base 64.
use Rattle.std.specs.Prelude.{◌≡◌, ℕ, ◌+◌, ◌*◌, ◌<◌, List, [], ◌∷◌, ◌++◌, length, fold, map, slice_index, flat_map, All}
use Rattle.std.specs.List.{range_with_len}
use Rattle.prims_core.specs.Alphabet.{numerals}
use Rattle.crypt_core.specs.declared.method.Method.{Method}
use Rattle.crypt_core.specs.declared.method.Method.TheVariants.{Md5crypt, Sha256crypt, Sha512crypt, Scrypt}
use Rattle.crypt_core.specs.Methods.{method_row}

-- group_number digest places: the bytes at these indices of the digest, read as one number, whose highest byte is at
-- the first index.
abbrev pub group_number : List ℕ → List ℕ → ℕ
group_number digest places = fold (λ number place. number * 256 + slice_index digest place) 0 places

-- packed_group digest places: the group's number in base 64, which has one character more than the group has bytes.
abbrev pub packed_group : List ℕ → List ℕ → List ℕ
packed_group digest places = numerals (length places + 1) (group_number digest places)

-- groups_of method: the groups of the method's digest, as lists of indices.
--   md5crypt    those of FreeBSD's md5crypt
--   SHA-crypt   those of Drepper, "Unix crypt using SHA-256 and SHA-512", step 22
--   scrypt      the bytes in order, three to a group, with the first one as the number's lowest byte
abbrev pub groups_of : Method → List (List ℕ)
groups_of Md5crypt = (0 ∷ 6 ∷ 12 ∷ []) ∷ (1 ∷ 7 ∷ 13 ∷ []) ∷ (2 ∷ 8 ∷ 14 ∷ []) ∷ (3 ∷ 9 ∷ 15 ∷ []) ∷ (4 ∷ 10 ∷ 5 ∷ []) ∷ (11 ∷ []) ∷ []
groups_of Sha256crypt =
    (0 ∷ 10 ∷ 20 ∷ []) ∷ (21 ∷ 1 ∷ 11 ∷ []) ∷ (12 ∷ 22 ∷ 2 ∷ []) ∷ (3 ∷ 13 ∷ 23 ∷ []) ∷ (24 ∷ 4 ∷ 14 ∷ []) ∷ (15 ∷ 25 ∷ 5 ∷ [])
    ∷ (6 ∷ 16 ∷ 26 ∷ []) ∷ (27 ∷ 7 ∷ 17 ∷ []) ∷ (18 ∷ 28 ∷ 8 ∷ []) ∷ (9 ∷ 19 ∷ 29 ∷ []) ∷ (31 ∷ 30 ∷ []) ∷ []
groups_of Sha512crypt =
    (0 ∷ 21 ∷ 42 ∷ []) ∷ (22 ∷ 43 ∷ 1 ∷ []) ∷ (44 ∷ 2 ∷ 23 ∷ []) ∷ (3 ∷ 24 ∷ 45 ∷ []) ∷ (25 ∷ 46 ∷ 4 ∷ []) ∷ (47 ∷ 5 ∷ 26 ∷ [])
    ∷ (6 ∷ 27 ∷ 48 ∷ []) ∷ (28 ∷ 49 ∷ 7 ∷ []) ∷ (50 ∷ 8 ∷ 29 ∷ []) ∷ (9 ∷ 30 ∷ 51 ∷ []) ∷ (31 ∷ 52 ∷ 10 ∷ []) ∷ (53 ∷ 11 ∷ 32 ∷ [])
    ∷ (12 ∷ 33 ∷ 54 ∷ []) ∷ (34 ∷ 55 ∷ 13 ∷ []) ∷ (56 ∷ 14 ∷ 35 ∷ []) ∷ (15 ∷ 36 ∷ 57 ∷ []) ∷ (37 ∷ 58 ∷ 16 ∷ []) ∷ (59 ∷ 17 ∷ 38 ∷ [])
    ∷ (18 ∷ 39 ∷ 60 ∷ []) ∷ (40 ∷ 61 ∷ 19 ∷ []) ∷ (62 ∷ 20 ∷ 41 ∷ []) ∷ (63 ∷ []) ∷ []
groups_of Scrypt = map (λ i. (3 * i + 2) ∷ (3 * i + 1) ∷ (3 * i) ∷ []) (range_with_len 0 10) ++ (31 ∷ 30 ∷ []) ∷ []

-- packed method digest: the packed form of a method's digest, group by group.
unfoldable pub packed : Method → List ℕ → List ℕ
packed method digest = flat_map (packed_group digest) (groups_of method)

-- IsDigest method digest: these are bytes, as many as a digest of the method has.
abbrev pub IsDigest : Method → List ℕ → Type 0
IsDigest method digest = (length digest ≡ (method_row method).digest_len) × All (λ b. b < 256) digest

-- IsPacked method text: the text is the packed form of some digest of the method.
abbrev pub IsPacked : Method → List ℕ → Type 0
IsPacked method text = (digest : List ℕ) × IsDigest method digest × (text ≡ packed method digest)
