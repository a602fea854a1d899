-- Document 01, "A book or proposal has as many holdings or lines as its columns have entries": columns, held and filled. Assumes nothing.
use mathlib.Core.{Path.◌≡◌, List.List, List.[], List.◌∷◌, List.◌++◌, List.map}
use Rattle.std.specs.Prelude.{ℕ, suc, ◌*◌, ◌/◌, ◌≤◌, ◌<◌, length, get_or, take, drop}
use Rattle.lists.specs.Tables.{Each, list_to, front}
use Rattle.holding.specs.Holding.{numbers_of, row_by}
use Rattle.holding.specs.declared.{Head.Head, Row.Row}
use Rattle.pairing.specs.declared.Line.{Line}
use Rattle.proposal.specs.Submission.{Submission, no_row, no_line, line_numbers, line_by}
use Rattle.words.specs.Words.{word_at, with_word, entries, decode, encode}

-- the columns of the holdings, side, kind, issuer, maturity, value, currency, rating; of their prices; and of the lines, long, short, amount
pub record Columns : Type 0 where
  pub holdings : List (List ℕ)
  pub price : List ℕ
  pub lines : List (List ℕ)

abbrev pub make_columns : List (List ℕ) → List ℕ → List (List ℕ) → Columns
make_columns holdings price lines = record { holdings = holdings; price = price; lines = lines }

-- one of several columns, and how many entries they have, by the first
abbrev pub column_at : List (List ℕ) → ℕ → List ℕ
column_at columns j = get_or columns j []

unfoldable pub count_in : List (List ℕ) → ℕ
count_in columns = entries (column_at columns 0)

-- the numbers at an entry, one of each column
unfoldable pub numbers_at : List (List ℕ) → ℕ → List ℕ
numbers_at columns k = map (λ c. word_at c k) columns

-- what the columns hold: as many holdings, or lines, as they have entries
unfoldable pub rows_in : List (List ℕ) → List Row
rows_in columns = list_to (count_in columns) (λ k. row_by (numbers_at columns k))

unfoldable pub lines_in : List (List ℕ) → List Line
lines_in columns = list_to (count_in columns) (λ k. line_by (numbers_at columns k))

-- what is submitted by a head and columns
unfoldable pub submission : Head → Columns → Submission
submission h c = record { head = h; rows = rows_in c.holdings; prices = decode c.price; lines = lines_in c.lines }

-- their byte lengths: of the holdings' columns and the price's, and of the lines'
unfoldable pub holding_sizes : Columns → List ℕ
holding_sizes c = map length (c.holdings ++ (c.price ∷ []))

unfoldable pub line_sizes : Columns → List ℕ
line_sizes c = map length c.lines

-- what the columns are to hold of a submission: an entry for each of its holdings, or of its lines, beside the bytes that are lent
unfoldable pub lists_of : Submission → Columns → List (ℕ × ℕ)
lists_of s c = map (λ size. (length s.rows, size)) (holding_sizes c) ++ map (λ size. (length s.lines, size)) (line_sizes c)

-- the numbers of a holding, and of a line, are those at an entry of the columns
pub record RowAt (columns : List (List ℕ)) (k : ℕ) (row : Row) : Type 0 where
  pub side : row.side ≡ word_at (column_at columns 0) k
  pub kind : row.kind ≡ word_at (column_at columns 1) k
  pub issuer : row.issuer ≡ word_at (column_at columns 2) k
  pub maturity : row.maturity ≡ word_at (column_at columns 3) k
  pub value : row.value ≡ word_at (column_at columns 4) k
  pub currency : row.currency ≡ word_at (column_at columns 5) k
  pub rating : row.rating ≡ word_at (column_at columns 6) k

pub record LineAt (columns : List (List ℕ)) (k : ℕ) (line : Line) : Type 0 where
  pub long : line.long ≡ word_at (column_at columns 0) k
  pub short : line.short ≡ word_at (column_at columns 1) k
  pub amount : line.amount ≡ word_at (column_at columns 2) k

-- a book or proposal has as many holdings or lines as its columns have entries, each with the numbers that stand there, a price for each entry of its column, and its head
pub record ColumnEntries (h : Head) (c : Columns) : Type 0 where
  pub head : (submission h c).head ≡ h
  pub holdings : length (submission h c).rows ≡ length (column_at c.holdings 0) / 8
  pub lines : length (submission h c).lines ≡ length (column_at c.lines 0) / 8
  pub holding : (k : ℕ) → k < length (column_at c.holdings 0) / 8 → RowAt c.holdings k (get_or (submission h c).rows k no_row)
  pub price : (k : ℕ) → k < length c.price / 8 → get_or (submission h c).prices k 0 ≡ word_at c.price k
  pub line : (k : ℕ) → k < length (column_at c.lines 0) / 8 → LineAt c.lines k (get_or (submission h c).lines k no_line)

-- numbers at the front of a column of bytes; what the column held past them is kept
unfoldable pub column : List ℕ → List ℕ → List ℕ
column numbers old = front (encode numbers) old

-- the numbers of each entry, number j into column j
unfoldable pub filled_from : ℕ → List (List ℕ) → List (List ℕ) → List (List ℕ)
filled_from j numbers [] = []
filled_from j numbers (old ∷ olds) = column (map (λ ns. get_or ns j 0) numbers) old ∷ filled_from (suc j) numbers olds

-- the columns when what is submitted was written into them
unfoldable pub filled : Submission → Columns → Columns
filled s old = record {
  holdings = filled_from 0 (map numbers_of s.rows) old.holdings;
  price = column s.prices old.price;
  lines = filled_from 0 (map line_numbers s.lines) old.lines;
}

-- a table: columns of so many rows that stand one after another in a list of bytes; the first n entries of column j
unfoldable pub column_in : ℕ → ℕ → List ℕ → ℕ → List ℕ
column_in rows n table j = take (8 * n) (drop (8 * (rows * j)) table)

-- entries in a table, no more than it has rows: number j of each in column j, for as many columns as are counted, and all else as it was
pub record Entered (count rows : ℕ) (numbers : List (List ℕ)) (old now : List ℕ) : Type 0 where
  pub few : length numbers ≤ rows
  pub long : length now ≡ length old
  pub each : (j : ℕ) → j < count → column_in rows rows now j ≡ column (map (λ ns. get_or ns j 0) numbers) (column_in rows rows old j)

-- what writing an entry asks: the table has a column for each value and no more, and the entry is within them
pub record EntryRoom (rows k : ℕ) (values table : List ℕ) : Type 0 where
  pub whole : length table ≡ 8 * (rows * length values)
  pub within : k < rows

-- an entry that was written: value j in column j, and all else as it was
pub record EntryPut (count rows k : ℕ) (values old now : List ℕ) : Type 0 where
  pub long : length now ≡ length old
  pub each : (j : ℕ) → j < count → column_in rows rows now j ≡ with_word (column_in rows rows old j) k (get_or values j 0)

-- the first n entries of column j, of the next, and so on, each at the front of a list
unfoldable pub copied : ℕ → ℕ → List ℕ → ℕ → List (List ℕ) → List (List ℕ)
copied rows n table j [] = []
copied rows n table j (old ∷ olds) = front (column_in rows n table j) old ∷ copied rows n table (suc j) olds

-- what that asks: so many columns, and room in each list
pub record CopyRoom (rows n : ℕ) (table : List ℕ) (lists : List (List ℕ)) : Type 0 where
  pub few : n ≤ rows
  pub whole : length table ≡ 8 * (rows * length lists)
  pub each : Each (λ c. 8 * n ≤ length c) lists
