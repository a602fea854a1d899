-- THE PAGE OF THE EXPORTED BOOKINGS. Document 02 f), "The book is the caller's list of holding records, changed in place": a record is 56 bytes, the seven numbers
-- of a holding in the order of the columns. Assumes nothing.
use mathlib.Core.{Path.◌≡◌, Logic.◌↔◌, Bool.Bool, Bool.cond, Bool.false, Bool.◌||◌, List.List, List.[], List.◌∷◌, List.◌++◌}
use Rattle.std.specs.Prelude.{ℕ, ◌+◌, ◌*◌, ◌/◌, ◌≤◌, ◌<◌}
use lib.{Dec.ltb, ListN.length, ListN.get_or, ListN.take, ListN.drop}
use Rattle.lists.specs.Tables.{list_to, front}
use Rattle.holding.specs.Holding.{numbers_of, row_by}
use Rattle.holding.specs.declared.{Head.Head, Row.Row}
use Rattle.words.specs.Words.{word_at, decode, encode}
use Rattle.proposal.specs.Submission.{no_row}
use Rattle.lent.specs.Boundary.{Answers}
use Rattle.daybook.specs.Book.{Book, make_book, holdings_in}
use Rattle.daybook.specs.Orders.{holdings_after, date_after, day_after, outcome, accepted, booked}
use Rattle.daybook.specs.declared.Day.{Day}
use Rattle.daybook.specs.declared.Order.{Order}

-- as many records as there are whole 56 bytes
unfoldable pub records_in : List ℕ → ℕ
records_in bytes = length bytes / 56

-- the bytes of record k, and the row whose numbers they are
unfoldable pub record_at : List ℕ → ℕ → List ℕ
record_at bytes k = take 56 (drop (56 * k) bytes)

unfoldable pub row_at : List ℕ → ℕ → Row
row_at bytes k = row_by (decode (record_at bytes k))

-- the rows of a list of records
unfoldable pub rows_in : List ℕ → List Row
rows_in bytes = list_to (records_in bytes) (row_at bytes)

-- and the bytes of rows
unfoldable pub encode_rows : List Row → List ℕ
encode_rows [] = []
encode_rows (r ∷ rs) = encode (numbers_of r) ++ encode_rows rs

-- the totals: the first five numbers of their list
unfoldable pub totals_in : List ℕ → List ℕ
totals_in bytes = take 5 (decode bytes)

-- 2 holds of another list than the book's: fewer than 40 bytes of totals, or an answer slice of fewer than 16
unfoldable pub too_short : ℕ → ℕ → Bool
too_short totals answer = ltb totals 40 || ltb answer 16

-- the lists that are lent, as bytes
pub record Slices : Type 0 where
  pub list : List ℕ
  pub totals : List ℕ
  pub answer : List ℕ

abbrev pub make_slices : List ℕ → List ℕ → List ℕ → Slices
make_slices list totals answer = record { list = list; totals = totals; answer = answer }

unfoldable pub short_in : Slices → Bool
short_in s = too_short (length s.totals) (length s.answer)

-- what is stored with a book of so many records, and the book, as they are lent
unfoldable pub day_in : ℕ → List ℕ → Head → Day
day_in count totals h = record { date = h.date; letter = h.letter; count = count; totals = totals_in totals }

unfoldable pub lent_book : ℕ → Head → Slices → Book
lent_book count h s = make_book (day_in count s.totals h) (rows_in s.list)

-- "the caller's list of holding records": as many as there are whole 56 bytes, each with the seven numbers that stand there one after another, side, kind, issuer,
-- maturity, value, currency, rating; the totals are five numbers, and the count, the date and the letter are those that are given
pub record LentNumbers (count : ℕ) (h : Head) (s : Slices) : Type 0 where
  pub records : length (lent_book count h s).list ≡ length s.list / 56
  pub each : (k : ℕ) → k < length s.list / 56 → get_or (lent_book count h s).list k no_row ≡ record {
    side = word_at s.list (7 * k);
    kind = word_at s.list (7 * k + 1);
    issuer = word_at s.list (7 * k + 2);
    maturity = word_at s.list (7 * k + 3);
    value = word_at s.list (7 * k + 4);
    currency = word_at s.list (7 * k + 5);
    rating = word_at s.list (7 * k + 6);
  }
  pub totals : 40 ≤ length s.totals
      → (lent_book count h s).day.totals ≡ word_at s.totals 0 ∷ word_at s.totals 1 ∷ word_at s.totals 2 ∷ word_at s.totals 3 ∷ word_at s.totals 4 ∷ []
  pub counted : (lent_book count h s).day.count ≡ count
  pub date : (lent_book count h s).day.date ≡ h.date
  pub letter : (lent_book count h s).day.letter ≡ h.letter
  -- 2 holds of another list: totals of fewer than 40 bytes, or an answer slice of fewer than 16
  pub long : (short_in s ≡ false) ↔ ((40 ≤ length s.totals) × (16 ≤ length s.answer))

-- the head of the book after an order: only a move changes its date
unfoldable pub head_after : Order Row → Head → Head
head_after o h = record { date = date_after o h.date; letter = h.letter }

-- what an exported booking promises of an order to what is lent, before and after, and of the number that it returns
module _ (o : Order Row) (count : ℕ) (h : Head) (before after : Slices) (r : ℕ) where
  abbrev lent : Book
  lent = lent_book count h before

  abbrev accepts : Bool
  accepts = accepted (short_in before) lent o

  pub record Books : Type 0 where
    -- the book that is lent is that of the numbers in the bytes
    pub numbers : LentNumbers count h before
    -- the refusal number, 0 for accepted, is returned; the new count and 0, or the place and 0, stand in the answer slice
    pub returned : Answers (outcome (short_in before) lent o) before.answer after.answer r
    -- the records after an accepted order stand first in the list; bytes past them keep what they held
    pub list : after.list ≡ cond accepts (front (encode_rows (holdings_after o (holdings_in lent))) before.list) before.list
    -- the totals after it stand first in theirs
    pub totals : after.totals ≡ cond accepts (front (encode (day_after lent.day (holdings_in lent) o).totals) before.totals) before.totals
    -- the book that is then lent, with the count that was answered, is the one that the order leaves
    pub next : r ≡ 0 → lent_book (word_at after.answer 0) (head_after o h) after ≡ booked (short_in before) lent o
    -- a refusal writes to neither
    pub untouched : (r ≡ 0 → ⊥) → (after.list ≡ before.list) × (after.totals ≡ before.totals)
