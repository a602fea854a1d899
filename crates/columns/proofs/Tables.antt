-- Entries that stand in a table, its columns, and the lists that they are copied to. Assumes nothing.
use mathlib.Core.Path.{◌≡◌, refl, sym, ap, ◌∙◌}
use mathlib.Core.List.{List, [], ◌∷◌, ◌++◌, map, map-append, map-map}
use Prim.Native.Nat.{ℕ, suc, ◌+◌, ◌*◌, ◌≤◌, ◌<◌}
use native.Mathlib.Omega.{arith}
use lib.ListN.{length, get_or, take, drop, length-append, length-drop, length-map}
use lib.Seq.{length-take-le, take-take}
use Rattle.lists.specs.Tables.{list_to, front}
use Rattle.lists.proofs.Tables.{to_back}
use Rattle.holding.specs.Holding.{numbers_of}
use Rattle.holding.specs.declared.Head.{Head}
use Rattle.proposal.specs.Submission.{line_numbers, line_by, priced_row, row_price}
use Rattle.words.specs.Words.{encode}
use Rattle.words.proofs.Encoded.{word_more}
use Rattle.columns.specs.Columns.{Columns, make_columns, column, filled_from, filled, column_in, Entered, EntryPut, copied}
use Rattle.columns.proofs.ReadBack.{nth, cut_numbers}

-- the first entries of a column have eight bytes each
pub column-long : (rows n j : ℕ) (table : List ℕ) → 8 * (rows * j + n) ≤ length table → length (column_in rows n table j) ≡ 8 * n
unfolding column_in
column-long rows n j table h = length-take-le (8 * n) (drop (8 * (rows * j)) table) (omega (arith, length-drop (8 * (rows * j)) table))

-- no entry, and one entry more
pub entered-none : (count rows : ℕ) (table : List ℕ) → Entered count rows [] table table
unfolding column front encode
entered-none count rows table = record { few = omega arith; long = refl; each = λ j h. refl }

pub entered-more : {count rows : ℕ} {numbers : List (List ℕ)} {values old so_far now : List ℕ} → Entered count rows numbers old so_far
    → EntryPut count rows (length numbers) values so_far now → length numbers < rows → Entered count rows (numbers ++ (values ∷ [])) old now
unfolding column
entered-more {rows = rows} {numbers = numbers} {values = values} {old = old} e p h = record {
  few = simp length-append (omega arith);
  long = p.long ∙ e.long;
  each = λ j l.
      let more = word_more (map (nth j) numbers) (column_in rows rows old j) (nth j values) in
      p.each j l ∙ rw (e.each j l, map-append (nth j)) (rw (length-map numbers (nth j)) at more);
}

-- n entries in a table
module _ {count rows n : ℕ} {numbers : List (List ℕ)} {old now : List ℕ} (e : Entered count rows numbers old now) (many : length numbers ≡ n) where
  -- the first n of a column are the bytes of the numbers alone
  pub entered-column : (j : ℕ) → j < count → column_in rows n now j ≡ encode (map (nth j) numbers)
  unfolding column_in
  entered-column j h =
      let cut : take (8 * n) (column_in rows rows now j) ≡ column_in rows n now j = take-take (8 * n) (8 * rows) (drop (8 * (rows * j)) now) (omega (arith, e.few)) in
      sym cut ∙ ap (take (8 * n)) (e.each j h) ∙ rw many at (cut_numbers numbers j (column_in rows rows old j))

  -- copied, they fill the lists
  pub entered-copied : (j : ℕ) (olds : List (List ℕ)) → j + length olds ≤ count → copied rows n now j olds ≡ filled_from j numbers olds
  unfolding copied filled_from column
  entered-copied j [] h = refl
  entered-copied j (list ∷ lists) h = λ i. front (entered-column j (omega arith) i) list ∷ entered-copied (suc j) lists (omega arith) i

-- the columns of a table of holdings, where the price's is the sixth, and of a table of lines
abbrev pub by_tables : List (List ℕ) → List (List ℕ) → Columns
by_tables book lines = make_columns (take 5 book ++ drop 6 book) (get_or book 5 []) lines

-- what is submitted by values fills them as the values fill the tables
pub filled-values : (h : Head) (held lined book lines : List (List ℕ)) → length book ≡ 8 → length lines ≡ 3
    → filled (record { head = h; rows = map priced_row held; prices = map row_price held; lines = map line_by lined }) (by_tables book lines)
    ≡ by_tables (filled_from 0 held book) (filled_from 0 lined lines)
unfolding filled filled_from numbers_of line_numbers list_to
filled-values h held lined book lines e f = rw (← to_back 8 book [] e, ← to_back 3 lines [] f) (simp map-map)
