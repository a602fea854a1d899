-- An entry is written into a table one value after another: each changes its own column and no other. Assumes nothing.
use mathlib.Core.Path.{◌≡◌, refl, sym, ap, ◌∙◌}
use mathlib.Core.Logic.{◌≢◌}
use mathlib.Core.List.{List, ◌++◌, append_assoc}
use Prim.Native.Nat.{ℕ, ◌+◌, ◌*◌, ◌-◌, ◌≤◌, ◌<◌}
use native.Mathlib.Nat.{mul-le-mul_left}
use native.Mathlib.Omega.{arith}
use lib.ListN.{length, get_or, take, drop, length-append, length-drop, take-append-drop}
use lib.Seq.{length-take-le, take_at, drop_at, take-append-le, drop-append-le, take-append-add, drop-append-add}
use Rattle.lists.proofs.Tests.{by_end, same_or_not}
use Rattle.words.specs.Words.{with_word}
use Rattle.words.proofs.Encoded.{length-little_endian}
use Rattle.columns.specs.Columns.{column_in, EntryRoom, EntryPut}
use Rattle.columns.proofs.Tables.{column-long}

-- a number written into the first of two lists, and into the second
module _ (xs ys : List ℕ) (k v : ℕ) where
  in_first : 8 * k + 8 ≤ length xs → with_word (xs ++ ys) k v ≡ with_word xs k v ++ ys
  unfolding with_word
  in_first h = rw (take-append-le (8 * k) xs ys (omega arith), drop-append-le (8 * k + 8) xs ys h) (simp append_assoc)

  in_second : (c : ℕ) → length xs ≡ 8 * c → with_word (xs ++ ys) (c + k) v ≡ xs ++ with_word ys k v
  unfolding with_word
  in_second c e =
      let here : 8 * (c + k) ≡ length xs + 8 * k = omega (arith, e) in
      let past : length xs + 8 * k + 8 ≡ length xs + (8 * k + 8) = omega arith in
      rw (here, past, take-append-add xs ys (8 * k), drop-append-add xs ys (8 * k + 8)) (simp append_assoc)

length-with_word : (bytes : List ℕ) (k v : ℕ) → 8 * k + 8 ≤ length bytes → length (with_word bytes k v) ≡ length bytes
unfolding with_word
length-with_word bytes k v h = simp (length-append, length-drop, length-little_endian) (omega (arith, length-take-le (8 * k) bytes (omega arith)))

-- what stands between two lists is a column, where it has the length of one and what is before it that of those before
between : (rows j : ℕ) (before here after : List ℕ) → length before ≡ 8 * (rows * j) → length here ≡ 8 * rows → column_in rows rows (before ++ (here ++ after)) j ≡ here
unfolding column_in
between rows j before here after e h = rw (drop_at before (here ++ after) (8 * (rows * j)) e) (take_at here after (8 * rows) h)

-- a column of a table, and what is before and after it
module _ (rows : ℕ) (table : List ℕ) (j : ℕ) (there : 8 * (rows * j + rows) ≤ length table) where
  abbrev before : List ℕ
  before = take (8 * (rows * j)) table

  abbrev here : List ℕ
  here = column_in rows rows table j

  abbrev after : List ℕ
  after = drop (8 * rows) (drop (8 * (rows * j)) table)

  parted : table ≡ before ++ (here ++ after)
  unfolding column_in
  parted = sym (rw (take-append-drop (8 * rows) (drop (8 * (rows * j)) table)) (take-append-drop (8 * (rows * j)) table))

  before-long : length before ≡ 8 * (rows * j)
  before-long = length-take-le (8 * (rows * j)) table (omega arith)

  here-long : length here ≡ 8 * rows
  here-long = column-long rows rows j table there

  -- a number that is written into it, into a column after it, and into one before
  module _ (k v : ℕ) where
    into_parts : (m : ℕ) → with_word table m v ≡ with_word (before ++ (here ++ after)) m v
    into_parts m = ap (λ (t : List ℕ). with_word t m v) parted

    written-here : k < rows → column_in rows rows (with_word table (rows * j + k) v) j ≡ with_word here k v
    written-here h =
        let room : 8 * k + 8 ≤ length here = omega (arith, here-long) in
        rw (into_parts (rows * j + k), in_second before (here ++ after) k v (rows * j) before-long, in_first here after k v room)
        (between rows j before (with_word here k v) after before-long (length-with_word here k v room ∙ here-long))

    written_after : column_in rows rows (with_word table (rows * j + (rows + k)) v) j ≡ here
    written_after =
        rw (into_parts (rows * j + (rows + k)), in_second before (here ++ after) (rows + k) v (rows * j) before-long, in_second here after k v rows here-long)
        (between rows j before here (with_word after k v) before-long here-long)

    written-before : k < rows * j → column_in rows rows (with_word table k v) j ≡ here
    written-before h =
        let room : 8 * k + 8 ≤ length before = omega (arith, before-long) in
        rw (into_parts k, in_first before (here ++ after) k v room)
        (between rows j (with_word before k v) here after (length-with_word before k v room ∙ before-long) here-long)

-- the first j values of an entry are written, and the columns after those are as they were: at the start, after one more, and at the end
pub record Putting (count rows k : ℕ) (values old : List ℕ) (j : ℕ) (now : List ℕ) : Type 0 where
  pub within : j ≤ count
  pub put : EntryPut j rows k values old now
  pub rest : (i : ℕ) → j ≤ i → i < count → column_in rows rows now i ≡ column_in rows rows old i

pub putting_none : (count rows k : ℕ) (values old : List ℕ) → Putting count rows k values old 0 old
putting_none count rows k values old = record { within = omega arith; put = record { long = refl; each = λ i h. absurd (omega arith) }; rest = λ i _ _. refl }

pub putting_all : (count rows k j : ℕ) (values old now : List ℕ) → count ≤ j → Putting count rows k values old j now → EntryPut count rows k values old now
putting_all count rows k j values old now h p =
    let all : j ≡ count = omega arith in
    rw all at p.put

module _ {count rows k j : ℕ} {values old so_far : List ℕ} (many : count ≡ length values) (room : EntryRoom rows k values old) (below : j < count) (p : Putting count rows k values old j so_far) where
  column-there : (i : ℕ) → i < count → 8 * (rows * i + rows) ≤ length so_far
  column-there i h = omega (arith, p.put.long, room.whole, mul-le-mul_left rows (rw many at h))

  pub value_there : 8 * (rows * j + k) + 8 ≤ length so_far
  value_there = omega (arith, room.within, column-there j below)

  abbrev value : ℕ
  value = get_or values j 0

  abbrev next : List ℕ
  next = with_word so_far (rows * j + k) value

  -- the value is in its column, and every other column is as it was
  this_column : column_in rows rows next j ≡ with_word (column_in rows rows old j) k value
  this_column = rw (← p.rest j (omega arith) below) (written-here rows so_far j (column-there j below) k value room.within)

  other-column : (i : ℕ) → i < count → i ≢ j → column_in rows rows next i ≡ column_in rows rows so_far i
  other-column =
      by_end (λ (i : ℕ). i < count → i ≢ j → column_in rows rows next i ≡ column_in rows rows so_far i) j
      (λ i l h d.
      let far : ℕ = rows * j + k - (rows * i + rows) in
      let past : rows * j + k ≡ rows * i + (rows + far) = omega (arith, mul-le-mul_left rows l) in
      rw past (written_after rows so_far i (column-there i h) far value))
      (λ i l h d.
      let m : j < i = omega arith in
      written-before rows so_far i (column-there i h) (rows * j + k) value (omega (arith, room.within, mul-le-mul_left rows m)))

  next-put : EntryPut (j + 1) rows k values old next
  next-put = record {
    long = length-with_word so_far (rows * j + k) value value_there ∙ p.put.long;
    each = λ i h. same_or_not i j (λ e. rw e this_column) (λ d. other-column i (omega arith) d ∙ p.put.each i (omega arith));
  }

  pub putting_more : (now : List ℕ) → now ≡ next → Putting count rows k values old (j + 1) now
  putting_more now e =
      rw e record { within = omega arith; put = next-put; rest = λ i h l. other-column i l (omega arith) ∙ p.rest i (omega arith) l }
