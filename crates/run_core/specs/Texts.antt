-- The bytes that separate parts and end lines.
use Rattle.std.specs.Prelude.{ℕ, List, [], ◌∷◌, ◌++◌, Contains}

-- line_feed is the byte that ends a line.
abbrev pub line_feed : ℕ
line_feed = 10

-- HasNoLineFeed bytes: none of the bytes is a line feed.
abbrev pub HasNoLineFeed : List ℕ → Type 0
HasNoLineFeed bytes = ¬ Contains bytes line_feed

-- colon is the byte between the parts of a line.
abbrev pub colon : ℕ
colon = 58

-- slash is the byte between the numbers N, r and p of scrypt in the output of an audit.
abbrev pub slash : ℕ
slash = 47

-- as_line text is the text with a line feed after it.
abbrev pub as_line : List ℕ → List ℕ
as_line text = text ++ line_feed ∷ []
