-- What is read and written of a lent book: its records, what is stored with it, and a reply. Assumes nothing.
use mathlib.Core.{Path.◌≡◌, Bool.cond, List.List}
use Rattle.std.specs.Prelude.{ℕ, ◌*◌, ◌≤◌, Result}
use lib.{Dec.eqb, ListN.length, ListN.drop}
use Rattle.lists.specs.Tables.{front}
use Rattle.holding.specs.declared.{Head.Head, Row.Row}
use Rattle.words.specs.Words.{encode}
use Rattle.lent.specs.Boundary.{Answers}
use Rattle.daybook.specs.Orders.{answer_of}
use Rattle.daybook.specs.declared.{Day.Day, Refused.Refused}
use Rattle.records.specs.Records.{records_in, rows_in, totals_in, day_in}

-- the records of a list are then these rows: as many bytes, and those past the last record kept
pub record Rewritten (wanted : List Row) (before after : List ℕ) : Type 0 where
  pub long : length after ≡ length before
  pub rows : rows_in after ≡ wanted
  pub rest : drop (56 * records_in before) after ≡ drop (56 * records_in before) before

-- what is stored with a book, where its five totals are there to be read; all else of it in any case
pub record Stored (number : ℕ) (five : List ℕ) (h : Head) (d : Day) : Type 0 where
  pub date : d.date ≡ h.date
  pub letter : d.letter ≡ h.letter
  pub count : d.count ≡ number
  pub whole : 40 ≤ length five → d ≡ day_in number five h

-- five totals of an accepted order, and room for them
abbrev pub Writable : Result ℕ Refused → List ℕ → List ℕ → Type 0
Writable f five old = (answer_of f).number ≡ 0 → (length five ≡ 5) × (40 ≤ length old)

-- a finding as the host gets it: the answer, and the totals of an accepted order, which are then read back
pub record Replied (f : Result ℕ Refused) (five old new answer answer' : List ℕ) (r : ℕ) : Type 0 where
  pub returned : Answers (answer_of f) answer answer' r
  pub written : new ≡ cond (eqb (answer_of f).number 0) (front (encode five) old) old
  pub back : (answer_of f).number ≡ 0 → totals_in new ≡ five
