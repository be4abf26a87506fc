-- Numbers as bytes, bytes as words, and the XOR of two lists of bytes or words.
use Rattle.std.specs.Prelude.{ℕ, ◌*◌, ◌/◌, List, length, take, drop, map, bit_xor}
use Rattle.std.specs.List.{flat_map, range_with_len}
use Rattle.std.specs.Simd.Lanes.{zip2}
-- big_bytes count number: the lowest `count` bytes of a number, highest byte first.
-- little_bytes count number: the lowest `count` bytes of a number, lowest byte first.
-- little_number count bytes: the number that `count` bytes encode, lowest byte first.
pub use Rattle.byteorder.specs.Endian.{big_bytes, little_bytes, little_number}

-- xor_lists xs ys: the XOR of two lists of the same length, item by item. The items are bytes or words.
unfoldable pub xor_lists : List ℕ → List ℕ → List ℕ
xor_lists xs ys = zip2 bit_xor xs ys

-- chunks_exact items size: the list cut into pieces of `size` items. Like `chunks_exact` of a slice, it drops a rest of
-- fewer items.
unfoldable pub chunks_exact : List ℕ → ℕ → List (List ℕ)
chunks_exact items size =
    map (λ i. take size (drop (size * i) items)) (range_with_len 0 (length items / size))

-- words_of bytes: the 32-bit words that the bytes encode, four bytes for each word, lowest byte first (RFC 7914,
-- section 3).
unfoldable pub words_of : List ℕ → List ℕ
words_of bytes = map (little_number 4) (chunks_exact bytes 4)

-- bytes_of_words words: the bytes of 32-bit words, four for each word, lowest byte first.
unfoldable pub bytes_of_words : List ℕ → List ℕ
bytes_of_words words = flat_map (little_bytes 4) words
