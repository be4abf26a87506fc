-- The schemes of crypt(5) that mkpasswd doesn't hash. A field has one of them by its form alone; it needn't be a valid
-- hash.
use Rattle.std.specs.Prelude.{◌≡◌, ◌⊎◌, ◌==◌, ℕ, List, [], ◌∷◌, Option, IsTrue, length, All, Contains, codes, find, nat_eq}
use Rattle.std.specs.List.{starts_with}
use Rattle.prims_core.specs.Alphabet.{alphabet}
use Rattle.crypt_core.specs.declared.other_scheme.OtherScheme.{OtherScheme}
use Rattle.crypt_core.specs.declared.other_scheme.OtherScheme.TheVariants.{Yescrypt, GostYescrypt, Bcrypt, Nt, Sha1crypt, SunMd5, Bsdicrypt, Descrypt}

-- HasFront field front: the field begins with these bytes. This is a test that can be computed; `BeginsWith` states the
-- same as a proposition.
abbrev pub HasFront : List ℕ → List ℕ → Type 0
HasFront field front = IsTrue (starts_with nat_eq field front)

-- IsOf other field: the field has the form of this scheme (crypt(5)): its prefix, or for descrypt, which has no prefix,
-- its length and characters.
abbrev pub IsOf : OtherScheme → List ℕ → Type 0
IsOf Yescrypt field = HasFront field (codes "$y$")
IsOf GostYescrypt field = HasFront field (codes "$gy$")
IsOf Bcrypt field = HasFront field (codes "$2a$") ⊎ (HasFront field (codes "$2b$") ⊎ HasFront field (codes "$2y$"))
IsOf Nt field = HasFront field (codes "$3$")
IsOf Sha1crypt field = HasFront field (codes "$sha1$")
IsOf SunMd5 field = HasFront field (codes "$md5")
IsOf Bsdicrypt field = HasFront field (codes "_")
IsOf Descrypt field = (length field ≡ 13) × All (Contains alphabet) field

-- other_scheme_row other: the scheme's number in the C interface, and its name in crypt(5). No method has such a
-- number.
abbrev pub other_scheme_row : OtherScheme → ℕ × List ℕ
other_scheme_row Yescrypt = (101, codes "yescrypt")
other_scheme_row GostYescrypt = (102, codes "gost-yescrypt")
other_scheme_row Bcrypt = (103, codes "bcrypt")
other_scheme_row Nt = (104, codes "NT")
other_scheme_row Sha1crypt = (105, codes "sha1crypt")
other_scheme_row SunMd5 = (106, codes "SunMD5")
other_scheme_row Bsdicrypt = (107, codes "bsdicrypt")
other_scheme_row Descrypt = (108, codes "descrypt")

-- All schemes of crypt(5) that mkpasswd doesn't hash, in the order of their numbers.
abbrev pub other_schemes : List OtherScheme
other_schemes = Yescrypt ∷ GostYescrypt ∷ Bcrypt ∷ Nt ∷ Sha1crypt ∷ SunMd5 ∷ Bsdicrypt ∷ Descrypt ∷ []

-- other_scheme_numbered number: the other scheme with this number, or none.
abbrev pub other_scheme_numbered : ℕ → Option OtherScheme
other_scheme_numbered number = find (λ other. number == (other_scheme_row other).0) other_schemes
