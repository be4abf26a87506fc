-- Salts generated from three random 64-bit numbers, and the random stream that gives these numbers.
use Rattle.std.specs.Prelude.{ℕ, ◌*◌, ◌/◌, ◌%◌, ◌^◌, List, [], ◌∷◌, map, slice_index}
use Rattle.std.specs.List.{range_with_len}
use Rattle.rand_core.specs.Stream.{Stream, next_u64}
use Rattle.prims_core.specs.Alphabet.{character_of}

-- made_salt numbers len: the salt of `len` characters that the numbers give. Each number gives up to ten characters of
-- six bits, lowest bits first.
unfoldable pub made_salt : List ℕ → ℕ → List ℕ
made_salt numbers len = map (λ i. character_of (slice_index numbers (i / 10) / 2 ^ (6 * (i % 10)) % 64)) (range_with_len 0 len)

-- three_words stream: the next three numbers of the stream, and the stream after them.
abbrev pub three_words : Stream → List ℕ × Stream
three_words stream =
    let first = next_u64 stream in let second = next_u64 first.1 in let third = next_u64 second.1 in
    (first.0 ∷ second.0 ∷ third.0 ∷ [], third.1)
