-- Reading what was written gives it back. Assumes nothing.
use mathlib.Core.Path.{◌≡◌, refl, sym, ap, ◌∙◌}
use mathlib.Core.List.{List, [], ◌∷◌, ◌++◌, append_assoc, append-nil}
use Prim.Native.Nat.{ℕ, zero, suc, ◌+◌, ◌*◌, ◌/◌, ◌≤◌, ◌<◌, ◌^◌}
use native.Mathlib.Omega.{arith}
use lib.ListN.{length, get_or, take, drop}
use lib.Seq.{ext_get_or, drop-nil, take_at, drop-append-add, length-take-le, drop_at}
use Rattle.lists.specs.Tables.{Each, list_to, front}
use Rattle.lists.proofs.Entries.{each_at}
use Rattle.lists.proofs.Tables.{length_to, get_or-to}
use Rattle.words.specs.Words.{number, little_endian, word_at, with_word, entries, decode, encode}
use Rattle.words.proofs.Encoded.{length-little_endian, length-encode}

-- a number is that of its digits, where they are enough
number-little_endian : (k v : ℕ) → v < 256 ^ k → number (little_endian k v) ≡ v
unfolding number little_endian
number-little_endian zero v h = omega arith
number-little_endian (suc k) v h = omega (arith, number-little_endian k (v / 256) (omega arith))

-- the i-th eight bytes are the digits of the i-th number
eight-at : (xs rest : List ℕ) (i : ℕ) → i < length xs → take 8 (drop (8 * i) (encode xs ++ rest)) ≡ little_endian 8 (get_or xs i 0)
unfolding encode
eight-at [] rest i h = absurd (omega arith)
eight-at (x ∷ xs) rest zero h = rw append_assoc (take_at (little_endian 8 x) (encode xs ++ rest) 8 (length-little_endian 8 x))
eight-at (x ∷ xs) rest (suc i) h =
    let next : 8 * suc i ≡ length (little_endian 8 x) + 8 * i = omega (arith, length-little_endian 8 x) in
    rw (append_assoc, next, drop-append-add (little_endian 8 x) (encode xs ++ rest) (8 * i)) (eight-at xs rest i (omega arith))

-- a list written at the front is read back number by number
pub read_back : (xs old : List ℕ) → Each (λ x. x < 2 ^ 64) xs → (i : ℕ) → i < length xs → word_at (front (encode xs) old) i ≡ get_or xs i 0
unfolding word_at front
read_back xs old e i h = rw (eight-at xs (drop (length (encode xs)) old) i h) (number-little_endian 8 (get_or xs i 0) (each_at _ 0 xs e i h))

-- and as a column
pub decode-encode : (xs : List ℕ) → Each (λ x. x < 2 ^ 64) xs → decode (encode xs) ≡ xs
unfolding decode entries
decode-encode xs e =
    let n = length xs in
    let f = word_at (encode xs) in
    let many : length (encode xs) / 8 ≡ n = omega (arith, length-encode xs) in
    let whole : encode xs ≡ front (encode xs) [] = unfold front in rw drop-nil (sym (append-nil (encode xs))) in
    rw many
    (ext_get_or 0 (list_to n f) xs (length_to n f)
    (λ i h.
    let l : i < n = omega (arith, length_to n f) in
    get_or-to n f i 0 l ∙ ap (λ (b : List ℕ). word_at b i) whole ∙ read_back xs [] e i l))

-- one number written is read back
pub word_back : (bytes : List ℕ) (i v : ℕ) → 8 * i + 8 ≤ length bytes → v < 2 ^ 64 → word_at (with_word bytes i v) i ≡ v
unfolding word_at with_word
word_back bytes i v h l =
    let at : length (take (8 * i) bytes) ≡ 8 * i = length-take-le (8 * i) bytes (omega arith) in
    rw (append_assoc, drop_at (take (8 * i) bytes) _ (8 * i) at, take_at (little_endian 8 v) _ 8 (length-little_endian 8 v)) (number-little_endian 8 v l)

-- a computed case: the first byte is the lowest digit
pub first_lowest : word_at (1 ∷ 2 ∷ 0 ∷ 0 ∷ 0 ∷ 0 ∷ 0 ∷ 0 ∷ []) 0 ≡ 513
unfolding word_at number
first_lowest = refl
