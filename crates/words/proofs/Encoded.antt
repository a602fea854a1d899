-- Numbers written at the front of a list of bytes, one after another. Assumes nothing.
use mathlib.Core.Path.{◌≡◌, refl, sym, ◌∙◌}
use mathlib.Core.List.{List, [], ◌∷◌, ◌++◌, append_assoc, append-nil}
use Prim.Native.Nat.{ℕ, zero, suc, ◌+◌, ◌*◌, ◌/◌, ◌<◌}
use native.Mathlib.Numerals.{add-one}
use native.Mathlib.Omega.{arith}
use lib.ListN.{length, get_or, take, drop, length-append}
use lib.Seq.{take_at, drop-append-add, drop-drop, length-take-le, take-suc}
use Rattle.lists.specs.Tables.{front}
use Rattle.words.specs.Words.{little_endian, with_word, encode}

pub length-little_endian : (k v : ℕ) → length (little_endian k v) ≡ k
unfolding little_endian
length-little_endian zero v = refl
length-little_endian (suc k) v = omega (arith, length-little_endian k (v / 256))

pub length-encode : (xs : List ℕ) → length (encode xs) ≡ 8 * length xs
unfolding encode
length-encode [] = refl
length-encode (x ∷ xs) = omega (arith, length-append (little_endian 8 x) (encode xs), length-little_endian 8 x, length-encode xs)

encode_snoc : (xs : List ℕ) (v : ℕ) → encode (xs ++ v ∷ []) ≡ encode xs ++ little_endian 8 v
unfolding encode
encode_snoc [] v = append-nil (little_endian 8 v)
encode_snoc (x ∷ xs) v = rw (encode_snoc xs v) (sym (append_assoc (little_endian 8 x) (encode xs) (little_endian 8 v)))

-- one more number after those written
pub word_more : (xs old : List ℕ) (v : ℕ) → with_word (front (encode xs) old) (length xs) v ≡ front (encode (xs ++ v ∷ [])) old
unfolding with_word front
word_more xs old v =
    let n = length (encode xs) in
    let long : length (encode xs ++ little_endian 8 v) ≡ n + 8 = omega (arith, length-append (encode xs) (little_endian 8 v), length-little_endian 8 v) in
    rw (← length-encode xs, encode_snoc xs v, long, take_at (encode xs) (drop n old) n refl, drop-append-add (encode xs) (drop n old) 8, drop-drop 8 n old)

-- the first i + 1 numbers, when the first i are written
pub encoded_more : (numbers old so_far after : List ℕ) (i : ℕ) → i < length numbers → so_far ≡ front (encode (take i numbers)) old
    → after ≡ with_word so_far i (get_or numbers i 0) → after ≡ front (encode (take (i + 1) numbers)) old
encoded_more numbers old so_far after i h e w =
    let more : take (i + 1) numbers ≡ take i numbers ++ get_or numbers i 0 ∷ [] = rw add-one (take-suc numbers i 0 h) in
    let at : length (take i numbers) ≡ i = length-take-le i numbers (omega arith) in
    w ∙ rw (e, more) (rw at at (word_more (take i numbers) old (get_or numbers i 0)))

pub encoded_none : (numbers old : List ℕ) → old ≡ front (encode (take 0 numbers)) old
unfolding front encode
encoded_none numbers old = refl

-- two numbers, one after the other
pub encoded_two : (a b : ℕ) (old first second : List ℕ) → first ≡ with_word old 0 a → second ≡ with_word first 1 b → second ≡ front (encode (a ∷ b ∷ [])) old
encoded_two a b old first second e f =
    let both = a ∷ b ∷ [] in
    encoded_more both old first second 1 (omega arith) (encoded_more both old old first 0 (omega arith) (encoded_none both old) e) f
