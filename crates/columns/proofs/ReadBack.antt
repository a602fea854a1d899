-- What is written into columns is read back at each entry, and as a whole where nothing is lent past it. Assumes nothing.
use mathlib.Core.Path.{◌≡◌, refl, sym, ap, ◌∙◌}
use mathlib.Core.List.{List, [], ◌∷◌, map, append-nil}
use Prim.Native.Nat.{ℕ, suc, ◌+◌, ◌*◌, ◌<◌, ◌^◌}
use native.Mathlib.Omega.{arith}
use lib.ListN.{length, get_or, take, drop, replicate, length-map, drop_of_length-le}
use lib.Seq.{drop-nil, drop-cons, take_at}
use Rattle.lists.specs.Tables.{Each, list_to, front}
use Rattle.lists.proofs.Entries.{each_so, each_map, each_read}
use Rattle.lists.proofs.Tables.{to_eq, to_back, get_or-map_in}
use Rattle.holding.specs.Holding.{head_numbers, numbers_of, row_by}
use Rattle.holding.specs.declared.Row.{Row}
use Rattle.holding.proofs.Rows.{row_back}
use Rattle.pairing.specs.declared.Line.{Line}
use Rattle.proposal.specs.Submission.{Submission, no_row, no_line, line_numbers, line_by}
use Rattle.proposal.proofs.PricedBooks.{line-back}
use Rattle.words.specs.Words.{word_at, entries, decode, encode}
use Rattle.words.proofs.Encoded.{length-encode}
use Rattle.words.proofs.ReadBack.{read_back, decode-encode}
use Rattle.columns.specs.Columns.{Columns, make_columns, count_in, numbers_at, rows_in, lines_in, submission, RowAt, LineAt, column, filled_from, filled}
use Rattle.columns.proofs.Submitted.{row_at, line_at}

-- numbers that eight bytes hold
abbrev pub Fits : List ℕ → Type 0
Fits xs = Each (λ x. x < 2 ^ 64) xs

-- written into a column, they are read back
pub column-read : (xs old : List ℕ) → Fits xs → (k : ℕ) → k < length xs → word_at (column xs old) k ≡ get_or xs k 0
unfolding column
column-read xs old fit k h = read_back xs old fit k h

-- the bytes of the numbers alone, which are those of a column that held nothing
pub cut_column : (xs old : List ℕ) → take (8 * length xs) (column xs old) ≡ encode xs
unfolding column front
cut_column xs old = take_at (encode xs) _ (8 * length xs) (length-encode xs)

pub bare-column : (xs : List ℕ) → column xs [] ≡ encode xs
unfolding column front
bare-column xs = rw drop-nil (append-nil (encode xs))

-- number j of an entry
abbrev pub nth : ℕ → List ℕ → ℕ
nth j xs = get_or xs j 0

-- the numbers of each entry, from number j on
module _ (ns : List (List ℕ)) where
  numbers-read : Each Fits ns → (k : ℕ) → k < length ns → (j : ℕ) (olds : List (List ℕ)) → length (get_or ns k []) ≡ j + length olds
      → numbers_at (filled_from j ns olds) k ≡ drop j (get_or ns k [])
  unfolding numbers_at filled_from
  numbers-read fit k h j [] e = sym (drop_of_length-le (get_or ns k []) {i = j} (omega (arith, e)))
  numbers-read fit k h j (old ∷ olds) e =
      let each = each_map _ (nth j) ns (each_so Fits (λ xs. nth j xs < 2 ^ 64) (λ xs f. each_read (λ x. x < 2 ^ 64) 0 (omega arith) xs f j) ns fit) in
      let first = column-read (map (nth j) ns) old each k (omega (arith, length-map ns (nth j))) ∙ get_or-map_in (nth j) ns k [] 0 h in
      rw (drop-cons (get_or ns k []) j 0 (omega (arith, e))) (λ i. first i ∷ numbers-read fit k h (suc j) olds (omega (arith, e)) i)

  -- cut behind them, a column has the bytes of the numbers alone
  pub cut_numbers : (j : ℕ) (old : List ℕ) → take (8 * length ns) (column (map (nth j) ns) old) ≡ encode (map (nth j) ns)
  cut_numbers j old = rw (length-map ns (nth j)) at (cut_column (map (nth j) ns) old)

  -- in columns that held nothing there are no others
  count-filled : (olds : List (List ℕ)) → count_in (filled_from 0 ns ([] ∷ olds)) ≡ length ns
  unfolding count_in entries filled_from
  count-filled olds = rw (bare-column (map (nth 0) ns)) (omega (arith, length-encode (map (nth 0) ns), length-map ns (nth 0)))

-- entries of m + 1 numbers, that the numbers make again
module _ {A : Type 0} (numbers : A → List ℕ) (by : List ℕ → A) (back : (x : A) → by (numbers x) ≡ x) (m : ℕ) (many : (x : A) → length (numbers x) ≡ suc m) (none : A) (xs : List A)
    (fit : Each (λ x. Fits (numbers x)) xs) where
  -- each is read back
  entry_read : (k : ℕ) → k < length xs → (olds : List (List ℕ)) → length olds ≡ suc m → get_or xs k none ≡ by (numbers_at (filled_from 0 (map numbers xs) olds) k)
  entry_read k h olds e =
      let at : get_or (map numbers xs) k [] ≡ numbers (get_or xs k none) = get_or-map_in numbers xs k none [] h in
      let read = numbers-read (map numbers xs) (each_map Fits numbers xs fit) k (omega (arith, length-map xs numbers)) 0 olds (rw at (omega (arith, many (get_or xs k none), e))) in
      sym (back (get_or xs k none)) ∙ ap by (sym (read ∙ at))

  -- and so are all, of columns that held nothing
  entries-read : (olds : List (List ℕ)) → length ([] ∷ olds) ≡ suc m
      → list_to (count_in (filled_from 0 (map numbers xs) ([] ∷ olds))) (λ k. by (numbers_at (filled_from 0 (map numbers xs) ([] ∷ olds)) k)) ≡ xs
  entries-read olds e =
      rw (count-filled (map numbers xs) olds, length-map xs numbers)
      (to_eq (length xs) _ _ (λ k h. sym (entry_read k h ([] ∷ olds) e)) ∙ to_back (length xs) xs none refl)

seven : (r : Row) → length (numbers_of r) ≡ 7
unfolding numbers_of
seven r = refl

three : (l : Line) → length (line_numbers l) ≡ 3
unfolding line_numbers
three l = refl

-- holdings, and lines, that were written are read back
pub rows-read : (rows : List Row) → Each (λ r. Fits (numbers_of r)) rows → (k : ℕ) → k < length rows → (columns : List (List ℕ)) → length columns ≡ 7
    → RowAt (filled_from 0 (map numbers_of rows) columns) k (get_or rows k no_row)
rows-read rows fit k h columns e = row_at _ k _ (entry_read numbers_of row_by row_back 6 seven no_row rows fit k h columns e)

pub lines-read : (lines : List Line) → Each (λ l. Fits (line_numbers l)) lines → (k : ℕ) → k < length lines → (columns : List (List ℕ)) → length columns ≡ 3
    → LineAt (filled_from 0 (map line_numbers lines) columns) k (get_or lines k no_line)
lines-read lines fit k h columns e = line_at _ k _ (entry_read line_numbers line_by line-back 2 three no_line lines fit k h columns e)

-- what is submitted in numbers that eight bytes hold
pub record SubmissionFits (s : Submission) : Type 0 where
  pub head : Fits (head_numbers s.head)
  pub rows : Each (λ r. Fits (numbers_of r)) s.rows
  pub prices : Fits s.prices
  pub lines : Each (λ l. Fits (line_numbers l)) s.lines

-- columns that hold nothing
abbrev pub bare : Columns
bare = make_columns (replicate 7 []) [] (replicate 3 [])

pub submission-filled : (s : Submission) → SubmissionFits s → submission s.head (filled s bare) ≡ s
unfolding submission rows_in lines_in filled
submission-filled s fit =
    let rows = entries-read numbers_of row_by row_back 6 seven no_row s.rows fit.rows (replicate 6 []) refl in
    let prices : decode (column s.prices []) ≡ s.prices = rw (bare-column s.prices) (decode-encode s.prices fit.prices) in
    let lines = entries-read line_numbers line_by line-back 2 three no_line s.lines fit.lines (replicate 2 []) refl in
    λ i. record { head = s.head; rows = rows i; prices = prices i; lines = lines i }
