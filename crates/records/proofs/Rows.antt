-- The rows of a list of records: each by its own bytes, and all of them as bytes again. Assumes nothing.
use mathlib.Core.Path.{◌≡◌, refl, sym, ap, ◌∙◌}
use mathlib.Core.List.{List, [], ◌∷◌, ◌++◌, append_assoc, append-nil}
use Prim.Native.Nat.{ℕ, zero, suc, ◌+◌, ◌*◌, ◌/◌, ◌≤◌, ◌<◌}
use native.Mathlib.Omega.{arith}
use lib.ListN.{length, get_or, take, drop, length-append, take-append-drop}
use lib.Seq.{take-add, drop_at, length-take-le}
use Rattle.lists.specs.Tables.{list_to, front}
use Rattle.lists.proofs.Tables.{length_to, get_or-to}
use Rattle.holding.specs.Holding.{numbers_of}
use Rattle.holding.specs.declared.Row.{Row}
use Rattle.holding.proofs.Rows.{numbers-back}
use Rattle.words.specs.Words.{word_at, entries, decode, encode}
use Rattle.words.proofs.Encoded.{length-encode}
use Rattle.records.specs.Records.{records_in, record_at, row_at, rows_in, encode_rows}
use Rattle.records.proofs.Bytes.{Bytes, bytes_take, bytes_drop, length_part, part-part, encode-decode}

-- a record that the list has is 56 bytes, and seven numbers
pub length_record : (bytes : List ℕ) (k : ℕ) → 56 * k + 56 ≤ length bytes → length (record_at bytes k) ≡ 56
unfolding record_at
length_record bytes k h = length_part (56 * k) 56 bytes h

length-numbers : (bytes : List ℕ) (k : ℕ) → 56 * k + 56 ≤ length bytes → length (decode (record_at bytes k)) ≡ 7
unfolding decode entries
length-numbers bytes k h = length_to (length (record_at bytes k) / 8) (word_at (record_at bytes k)) ∙ omega (arith, length_record bytes k h)

-- its numbers stand one after another in the list
number_at_lem : (bytes : List ℕ) (k j : ℕ) → 56 * k + 56 ≤ length bytes → j < 7 → word_at bytes (7 * k + j) ≡ get_or (decode (record_at bytes k)) j 0
unfolding decode entries word_at record_at
number_at_lem bytes k j h l =
    let many : length (take 56 (drop (56 * k) bytes)) / 8 ≡ 7 = omega (arith, length_part (56 * k) 56 bytes h) in
    let at : 8 * (7 * k + j) ≡ 56 * k + 8 * j = omega arith in
    rw many (rw (get_or-to 7 (word_at (take 56 (drop (56 * k) bytes))) j 0 l) (rw (part-part (56 * k) (8 * j) 56 8 bytes h (omega arith), at)))

-- a row whose numbers were read there
module _ (bytes : List ℕ) (i w : ℕ) (h : 56 * i + 56 ≤ length bytes) (s : w ≡ 7 * i) where
  word_read : {v n : ℕ} (j : ℕ) → j < 7 → v ≡ word_at bytes n → n ≡ w + j → v ≡ get_or (decode (record_at bytes i)) j 0
  word_read j l p q = p ∙ ap (word_at bytes) (q ∙ ap (◌+ j) s) ∙ number_at_lem bytes i j h l

  pub row_read : {a b c d e f g : ℕ} → a ≡ word_at bytes w → b ≡ word_at bytes (w + 1) → c ≡ word_at bytes (w + 2) → d ≡ word_at bytes (w + 3)
      → e ≡ word_at bytes (w + 4) → f ≡ word_at bytes (w + 5) → g ≡ word_at bytes (w + 6)
      → record { side = a; kind = b; issuer = c; maturity = d; value = e; currency = f; rating = g } ≡ row_at bytes i
  unfolding row_at
  row_read a b c d e f g =
      let first = word_read 0 (omega arith) a (omega arith) in
      let second = word_read 1 (omega arith) b refl in
      let third = word_read 2 (omega arith) c refl in
      let fourth = word_read 3 (omega arith) d refl in
      let fifth = word_read 4 (omega arith) e refl in
      let sixth = word_read 5 (omega arith) f refl in
      let seventh = word_read 6 (omega arith) g refl in
      λ t. record { side = first t; kind = second t; issuer = third t; maturity = fourth t; value = fifth t; currency = sixth t; rating = seventh t }

-- the bytes of rows, one after another
pub encode_rows-append : (xs ys : List Row) → encode_rows (xs ++ ys) ≡ encode_rows xs ++ encode_rows ys
unfolding encode_rows
encode_rows-append [] ys = refl
encode_rows-append (x ∷ xs) ys = rw (encode_rows-append xs ys) (sym (append_assoc (encode (numbers_of x)) (encode_rows xs) (encode_rows ys)))

pub length-row : (r : Row) → length (encode (numbers_of r)) ≡ 56
unfolding numbers_of
length-row r = length-encode _

pub length-encode_rows : (xs : List Row) → length (encode_rows xs) ≡ 56 * length xs
unfolding encode_rows
length-encode_rows [] = refl
length-encode_rows (x ∷ xs) = length-append (encode (numbers_of x)) (encode_rows xs) ∙ omega (arith, length-row x, length-encode_rows xs)

-- the bytes of a row that was read are those of its record
encode-row : (bytes : List ℕ) (k : ℕ) → Bytes bytes → 56 * k + 56 ≤ length bytes → encode (numbers_of (row_at bytes k)) ≡ record_at bytes k
unfolding row_at
encode-row bytes k b h =
    let own : Bytes (record_at bytes k) = unfold record_at in bytes_take 56 (drop (56 * k) bytes) (bytes_drop (56 * k) bytes b) in
    rw (numbers-back (decode (record_at bytes k)) (length-numbers bytes k h)) (encode-decode 7 (record_at bytes k) own (length_record bytes k h))

encode_rows-to : (n : ℕ) (bytes : List ℕ) → Bytes bytes → 56 * n ≤ length bytes → encode_rows (list_to n (row_at bytes)) ≡ take (56 * n) bytes
unfolding list_to encode_rows
encode_rows-to zero bytes b h = refl
encode_rows-to (suc n) bytes b h =
    let more : 56 * suc n ≡ 56 * n + 56 = omega arith in
    let last : encode (numbers_of (row_at bytes n)) ≡ take 56 (drop (56 * n) bytes) = unfold record_at in encode-row bytes n b (omega arith) in
    rw (encode_rows-append (list_to n (row_at bytes)) (row_at bytes n ∷ []), append-nil, encode_rows-to n bytes b (omega arith), last, more, take-add (56 * n) 56 bytes)

pub length-rows : (bytes : List ℕ) → length (rows_in bytes) ≡ records_in bytes
unfolding rows_in
length-rows bytes = length_to (records_in bytes) (row_at bytes)

-- so many records are whole
pub whole : (bytes : List ℕ) (k : ℕ) → k < records_in bytes → 56 * k + 56 ≤ length bytes
unfolding records_in
whole bytes k h = omega arith

module _ (bytes : List ℕ) (b : Bytes bytes) where
  abbrev tail : List ℕ
  tail = drop (56 * records_in bytes) bytes

  -- all rows of a list, and the bytes past the last record, are its bytes
  pub rows_back : encode_rows (rows_in bytes) ++ tail ≡ bytes
  unfolding rows_in records_in
  rows_back = rw (encode_rows-to (records_in bytes) bytes b (omega arith)) (take-append-drop (56 * records_in bytes) bytes)

  -- rows at the front of them are bytes at the front of these
  pub front-rows : (hs : List Row) → length hs ≤ records_in bytes → encode_rows (front hs (rows_in bytes)) ++ tail ≡ front (encode_rows hs) bytes
  unfolding front
  front-rows hs l =
      let n = length hs in
      let rows = rows_in bytes in
      let first = encode_rows (take n rows) in
      let later = encode_rows (drop n rows) in
      let long : length first ≡ 56 * n = length-encode_rows (take n rows) ∙ ap (56 *◌) (length-take-le n rows (omega (arith, length-rows bytes))) in
      let both : first ++ later ≡ encode_rows rows = sym (encode_rows-append (take n rows) (drop n rows)) ∙ ap encode_rows (take-append-drop n rows) in
      let parts : first ++ (later ++ tail) ≡ bytes = sym (append_assoc first later tail) ∙ ap (◌++ tail) both ∙ rows_back in
      let past : drop (56 * n) bytes ≡ later ++ tail = ap (drop (56 * n)) (sym parts) ∙ drop_at first (later ++ tail) (56 * n) long in
      rw (encode_rows-append hs (drop n rows), append_assoc (encode_rows hs), length-encode_rows hs, past)
