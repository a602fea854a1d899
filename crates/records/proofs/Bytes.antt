-- Bytes and the numbers that they hold: the bytes of what was read are those that were there, and the words of a record are those of its list. Assumes nothing.
use mathlib.Core.Path.{◌≡◌, refl, sym, ap, ◌∙◌}
use mathlib.Core.List.{List, [], ◌∷◌, ◌++◌, append_assoc, append-nil}
use Prim.Native.Nat.{ℕ, zero, suc, ◌+◌, ◌-◌, ◌*◌, ◌/◌, ◌%◌, ◌≤◌, ◌<◌}
use native.Mathlib.Omega.{arith}
use lib.ListN.{length, take, drop, length-drop, take-append-drop}
use lib.Seq.{drop_at, take-take, take-add, take_all, drop-drop, length-take-le}
use Rattle.lists.specs.Tables.{Each, list_to}
use Rattle.lists.proofs.Entries.{each-parts}
use Rattle.words.specs.Words.{number, little_endian, word_at, entries, decode, encode}

-- numbers that one byte holds
abbrev pub Bytes : List ℕ → Type 0
Bytes xs = Each (λ x. x < 256) xs

-- digits are those of their number
digits-back : (ds : List ℕ) → Bytes ds → little_endian (length ds) (number ds) ≡ ds
unfolding number little_endian
digits-back [] h = refl
digits-back (d ∷ ds) h =
    let low : (d + 256 * number ds) % 256 ≡ d = omega (arith, h.0) in
    let high : (d + 256 * number ds) / 256 ≡ number ds = omega (arith, h.0) in
    rw (low, high, digits-back ds h.1)

pub encode-append : (xs ys : List ℕ) → encode (xs ++ ys) ≡ encode xs ++ encode ys
unfolding encode
encode-append [] ys = refl
encode-append (x ∷ xs) ys = rw (encode-append xs ys) (sym (append_assoc (little_endian 8 x) (encode xs) (encode ys)))

-- a part of bytes
pub bytes_take : (n : ℕ) (xs : List ℕ) → Bytes xs → Bytes (take n xs)
bytes_take n xs h = (each-parts (λ x. x < 256) (take n xs) (drop n xs) (rw (take-append-drop n xs) h)).0

pub bytes_drop : (n : ℕ) (xs : List ℕ) → Bytes xs → Bytes (drop n xs)
bytes_drop n xs h = (each-parts (λ x. x < 256) (take n xs) (drop n xs) (rw (take-append-drop n xs) h)).1

-- so many entries from a place on
pub length_part : {A : Type 0} (at n : ℕ) (xs : List A) → at + n ≤ length xs → length (take n (drop at xs)) ≡ n
length_part at n xs h = length-take-le n (drop at xs) (omega (arith, length-drop at xs))

-- a part of a part
pub part-part : {A : Type 0} (at m n k : ℕ) (xs : List A) → at + n ≤ length xs → m + k ≤ n → take k (drop m (take n (drop at xs))) ≡ take k (drop (at + m) xs)
part-part at m n k xs h l =
    let ys = drop at xs in
    let more : n ≡ m + (n - m) = omega arith in
    let long : length (take m ys) ≡ m = length-take-le m ys (omega (arith, length-drop at xs)) in
    ap (λ (x : ℕ). take k (drop m (take x ys))) more
    ∙ rw (take-add m (n - m) ys, drop_at (take m ys) (take (n - m) (drop m ys)) m long, take-take k (n - m) (drop m ys) (omega arith), drop-drop m at xs)

-- the digits of the number in the i-th eight bytes are these
eight-back : (bytes : List ℕ) (i : ℕ) → Bytes bytes → 8 * i + 8 ≤ length bytes → little_endian 8 (word_at bytes i) ≡ take 8 (drop (8 * i) bytes)
unfolding word_at
eight-back bytes i b h =
    let part = take 8 (drop (8 * i) bytes) in
    rw (length_part (8 * i) 8 bytes h) at (digits-back part (bytes_take 8 (drop (8 * i) bytes) (bytes_drop (8 * i) bytes b)))

-- numbers that were read of bytes have these bytes
encode_words : (n : ℕ) (bytes : List ℕ) → Bytes bytes → 8 * n ≤ length bytes → encode (list_to n (word_at bytes)) ≡ take (8 * n) bytes
unfolding list_to encode
encode_words zero bytes b h = refl
encode_words (suc n) bytes b h =
    let more : 8 * suc n ≡ 8 * n + 8 = omega arith in
    rw (encode-append (list_to n (word_at bytes)) (word_at bytes n ∷ []), append-nil, encode_words n bytes b (omega arith))
    (rw (eight-back bytes n b (omega arith), more, take-add (8 * n) 8 bytes))

pub encode-decode : (n : ℕ) (bytes : List ℕ) → Bytes bytes → length bytes ≡ 8 * n → encode (decode bytes) ≡ bytes
unfolding decode entries
encode-decode n bytes b e =
    let many : length bytes / 8 ≡ n = omega arith in
    rw many (encode_words n bytes b (omega arith) ∙ take_all (8 * n) bytes (omega arith))
