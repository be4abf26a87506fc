-- Every digest consists of bytes, for every message: this is the law `digest_bytes` of `Counted`, for MD5, SHA-256 and
-- SHA-512. A digest is the words of a state, one after another, as bytes. The proofs go by induction over the words,
-- and over the bytes of a word.
use Rattle.std.proofs.Common.{ℕ, zero, suc, ◌<◌, List, [], ◌∷◌, arith}
use Rattle.std.specs.Prelude.{All, slice_index}
use Rattle.std.specs.Int.{byte_at, bytes_low_first, bytes_high_first}
use Rattle.std.proofs.lemmas.List.Elements.{All-append}
use Rattle.md5.specs.Md5 as M5
use Rattle.sha2.specs.Sha256 as S256
use Rattle.sha2.specs.Sha512 as S512

-- AreBytes xs: each number of the list is a byte.
abbrev pub AreBytes : List ℕ → Type 0
AreBytes = All (λ b. b < 256)

AreBytes-nil : AreBytes []
AreBytes-nil k d inside = absurd (omega arith)

AreBytes-cons : (x : ℕ) (xs : List ℕ) → x < 256 → AreBytes xs → AreBytes (x ∷ xs)
AreBytes-cons x xs first rest zero d inside = first
AreBytes-cons x xs first rest (suc k) d inside = rest k d (omega arith)

byte_at-lt : (i n : ℕ) → byte_at i n < 256
byte_at-lt zero n = omega arith
byte_at-lt (suc i) n = omega arith

low_first : (i k n : ℕ) → AreBytes (bytes_low_first i k n)
low_first i zero n = AreBytes-nil
low_first i (suc k) n = AreBytes-cons (byte_at i n) (bytes_low_first (suc i) k n) (byte_at-lt i n) (low_first (suc i) k n)

high_first : (k n : ℕ) → AreBytes (bytes_high_first k n)
high_first zero n = AreBytes-nil
high_first (suc k) n = AreBytes-cons (byte_at k n) (bytes_high_first k n) (byte_at-lt k n) (high_first k n)

md5_words : (h : List ℕ) (n : ℕ) → AreBytes (M5.digest_bytes h n)
unfolding M5.digest_bytes
md5_words h zero = AreBytes-nil
md5_words h (suc n) = All-append (λ b. b < 256) _ _ (md5_words h n) (low_first 0 4 (slice_index h n))

sha256_words : (h : List ℕ) (n : ℕ) → AreBytes (S256.digest_bytes h n)
unfolding S256.digest_bytes
sha256_words h zero = AreBytes-nil
sha256_words h (suc n) = All-append (λ b. b < 256) _ _ (sha256_words h n) (high_first 4 (slice_index h n))

sha512_words : (h : List ℕ) (n : ℕ) → AreBytes (S512.digest_bytes h n)
unfolding S512.digest_bytes
sha512_words h zero = AreBytes-nil
sha512_words h (suc n) = All-append (λ b. b < 256) _ _ (sha512_words h n) (high_first 8 (slice_index h n))

pub md5_bytes : (m : List ℕ) → AreBytes (M5.md5 m)
unfolding M5.md5
md5_bytes m = md5_words _ 4

pub sha256_bytes : (m : List ℕ) → AreBytes (S256.sha256 m)
unfolding S256.sha256
sha256_bytes m = sha256_words _ 8

pub sha512_bytes : (m : List ℕ) → AreBytes (S512.sha512 m)
unfolding S512.sha512
sha512_bytes m = sha512_words _ 8
