-- Document 01, "a column or list is a byte slice of eight-byte little-endian numbers". Assumes nothing.
use Rattle.std.specs.Prelude.{ℕ, zero, suc, ◌+◌, ◌*◌, ◌/◌, ◌%◌, List, [], ◌∷◌, ◌++◌, length, take, drop}
use Rattle.lists.specs.Tables.{list_to}

-- the number whose digits to the base 256 are given, lowest first
unfoldable pub number : List ℕ → ℕ
number [] = 0
number (d ∷ ds) = d + 256 * number ds

-- the k lowest digits of a number, lowest first
unfoldable pub little_endian : ℕ → ℕ → List ℕ
little_endian zero v = []
little_endian (suc k) v = (v % 256) ∷ little_endian k (v / 256)

-- the number in the i-th eight bytes
unfoldable pub word_at : List ℕ → ℕ → ℕ
word_at bytes i = number (take 8 (drop (8 * i) bytes))

-- the bytes with v in the i-th eight, all others kept
unfoldable pub with_word : List ℕ → ℕ → ℕ → List ℕ
with_word bytes i v = take (8 * i) bytes ++ little_endian 8 v ++ drop (8 * i + 8) bytes

-- as many entries as there are whole eight bytes
unfoldable pub entries : List ℕ → ℕ
entries bytes = length bytes / 8

-- the numbers of a column
unfoldable pub decode : List ℕ → List ℕ
decode bytes = list_to (entries bytes) (word_at bytes)

-- the bytes of a list of numbers
unfoldable pub encode : List ℕ → List ℕ
encode [] = []
encode (x ∷ xs) = little_endian 8 x ++ encode xs
