-- A book seen one holding at a time, and what is to be done to its list: what the core of booking promises. Assumes nothing.
use mathlib.Core.{Path.◌≡◌, Bool.Bool, Bool.true, Bool.false, List.List, List.[], List.◌∷◌, List.◌++◌}
use Rattle.std.specs.Prelude.{ℕ, ◌-◌, ◌*◌, ◌≤◌, ◌<◌, length, get_or, take, drop, set, Result, Ok, Err, Option, Some, None}
use Rattle.lists.specs.{Choice.first_of, Tables.overwrite}
use Rattle.refusals.specs.{Refusals.number_of, Refusals.refused_by, declared.Refusal.Refusal, declared.Refusal.TheVariants.Date}
use Rattle.dates.specs.Calendar.{is_date}
use Rattle.holding.specs.declared.{Account.Account, Row.Row}
use Rattle.article.specs.Answer.{Answer, make_answer}
use Rattle.proposal.specs.{Submission.no_row, Submission.margin_limit, Outcome.first_fault}
use Rattle.daybook.specs.Book.{valued, place_in, held_in, totals_of, account_at, Book, make_book}
use Rattle.daybook.specs.Orders.{trade_or, answer_of, lent_faults, rows_faults, date_faults, outcome, booked}
use Rattle.daybook.specs.declared.{Day.Day, Refused.Refused}
use Rattle.daybook.specs.declared.Order.{Order, TheVariants.MoveTo}
use Rattle.booking.specs.declared.{Scan.Scan, Outcome.Outcome}
use Rattle.booking.specs.declared.Change.{Change, TheVariants.Stay, TheVariants.Put, TheVariants.CloseUp}

-- the trade of an order; a move has none
unfoldable pub trade_of : Order Row → Row
trade_of o = trade_or no_row o

-- the paper's number and place of a refusal, number 0 for none
abbrev pub refusal_answer : {A : Type 0} → Result A Refused → Answer
refusal_answer (Ok _) = make_answer 0 0 0
refusal_answer (Err x) = make_answer (number_of x.refusal) x.place 0

-- a book without fault before its holdings: its account, and how many holdings are to be seen
pub record Opened (room : ℕ) (d : Day) (a : Account) : Type 0 where
  pub account : a ≡ account_at d
  pub valued : is_date a.date ≡ true
  pub few : d.count ≤ 256
  pub within : d.count ≤ room

-- a book before its holdings: its first fault, or its account
pub record Opens (short : Bool) (room : ℕ) (d : Day) (r : Result Account Refusal) : Type 0 where
  pub number : refused_by r ≡ first_of (lent_faults short room d) 0
  pub opened : (a : Account) → r ≡ Ok a → Opened room d a

-- an account on another date
unfoldable pub on_date : ℕ → Account → Account
on_date to a = record { date = to; letter = a.letter }

-- a move of a book: the first fault of the new date, or the account on it, in which the same holdings are seen once more
pub record OpensLater (d : Day) (a : Account) (to : ℕ) (r : Result Account Refusal) : Type 0 where
  pub number : refused_by r ≡ first_of (date_faults d.date to) 0
  pub account : (x : Account) → r ≡ Ok x → x ≡ on_date to a
  pub valued : (x : Account) → r ≡ Ok x → is_date x.date ≡ true

-- what is to be seen once more: for a move to a date the same holdings, in the account on it, or 24 where it is none; for any other order nothing
pub record OpensAgain (o : Order Row) (a : Account) (r : Option (Result Account Refusal)) : Type 0 where
  pub account : (to : ℕ) → o ≡ MoveTo to → is_date to ≡ true → r ≡ Some (Ok (on_date to a))
  pub unreal : (to : ℕ) → o ≡ MoveTo to → is_date to ≡ false → r ≡ Some (Err Date)
  pub none : ((to : ℕ) → o ≡ MoveTo to → ⊥) → r ≡ None
  pub valued : (x : Account) → r ≡ Some (Ok x) → is_date x.date ≡ true

-- what was counted of holdings without fault: the first one equal to a trade, what it holds, and the totals
pub record Counted (a : Account) (t : Row) (rows : List Row) (s : Scan) : Type 0 where
  pub at : s.at ≡ place_in rows t
  pub held : s.held ≡ held_in rows t
  pub totals : s.totals ≡ totals_of a rows

-- holdings that were seen: their first fault, or what was counted
pub record Seen (a : Account) (t : Row) (rows : List Row) (r : Result Scan Refused) : Type 0 where
  pub fault : refusal_answer r ≡ first_fault (rows_faults a rows)
  pub clear : (s : Scan) → r ≡ Ok s → Counted a t rows s

-- nothing was seen yet, of whatever account and trade
abbrev pub Unseen : Scan → Type 0
Unseen s = (a : Account) (t : Row) → Seen a t [] (Ok s)

-- an account valued on a date, and room for one more holding in what was counted of i
pub record Countable (a : Account) (i : ℕ) (s : Scan) : Type 0 where
  pub valued : is_date a.date ≡ true
  pub few : i < 256
  pub low : (k : ℕ) → get_or s.totals k 0 ≤ i * margin_limit

-- one holding more is seen after i others
abbrev pub Sees : Account → Row → Scan → ℕ → Row → Result Scan Refused → Type 0
Sees a t s i row r = (rows : List Row) → length rows ≡ i → Seen a t rows (Ok s) → Seen a t (rows ++ (row ∷ [])) r

-- whatever is given at one of the first places is the list's row there
abbrev pub Lists : (ℕ → Row → Type 0) → ℕ → List Row → Type 0
Lists given count list = (i : ℕ) → i < count → i < length list → (r : Row) → given i r → r ≡ get_or list i no_row

-- the first holdings of every list whose rows are given are seen
abbrev pub Scans : Account → Row → ℕ → (ℕ → Row → Type 0) → Result Scan Refused → Type 0
Scans a t count given r = (list : List Row) → Lists given count list → count ≤ length list → Seen a t (take count list) r

-- entries from `first` to before `end` moved up by one place
unfoldable pub moved_up : {A : Type 0} → ℕ → ℕ → List A → List A
moved_up first end xs = overwrite (first - 1) (take (end - first) (drop first xs)) xs

-- a list changed: nothing, an entry with a value put at a place, or entries moved up
unfoldable pub changed : {A : Type 0} → Change → (ℕ → A) → List A → List A
changed Stay entry xs = xs
changed (Put at value) entry xs = set xs at (entry value)
changed (CloseUp first end) entry xs = moved_up first end xs

-- what was seen of a book for an order: before its holdings, of them, and for a move to a later date of them once more
pub record Examined (short : Bool) (b : Book) (o : Order Row) (opening : Result Account Refusal) (scan moved : Result Scan Refused) : Type 0 where
  pub opens : Opens short (length b.list) b.day opening
  pub seen : (a : Account) → opening ≡ Ok a → Seen a (trade_of o) (take b.day.count b.list) scan
  pub again : (a : Account) → opening ≡ Ok a → (to : ℕ) → o ≡ MoveTo to → is_date to ≡ true → b.day.date < to
      → Seen (on_date to a) (trade_of o) (take b.day.count b.list) moved

-- what was seen in an account was seen of some holdings, as many as are counted, no more than a book may have, and the list has them
pub record KnownIn (d : Day) (room : ℕ) (o : Order Row) (scan : Result Scan Refused) (a : Account) : Type 0 where
  pub rows : List Row
  pub few : length rows ≤ 256
  pub valued : is_date a.date ≡ true
  pub seen : Seen a (trade_of o) rows scan
  pub count : length rows ≡ d.count
  pub within : d.count ≤ room

-- so it was where nothing refused the book before its holdings
abbrev pub Known : Day → ℕ → Order Row → Result Account Refusal → Result Scan Refused → Type 0
Known d room o opening scan = (a : Account) → opening ≡ Ok a → KnownIn d room o scan a

-- a change that a list of so many entries has room for
pub record Fits (room : ℕ) (c : Change) : Type 0 where
  pub put : (at value : ℕ) → c ≡ Put at value → at < room
  pub from : (first end : ℕ) → c ≡ CloseUp first end → 1 ≤ first
  pub moves : (first end : ℕ) → c ≡ CloseUp first end → first ≤ end
  pub until : (first end : ℕ) → c ≡ CloseUp first end → end ≤ room

-- the outcome of an order: the answer, what is then stored with the book, and the change that makes its list what it then is, after a refusal none
pub record Concluded (short : Bool) (b : Book) (o : Order Row) (r : Outcome) : Type 0 where
  pub answer : answer_of r.reply.finding ≡ outcome short b o
  pub day : r.reply.day ≡ (booked short b o).day
  pub list : changed r.change (valued (trade_of o)) b.list ≡ (booked short b o).list
  pub stays : ((outcome short b o).number ≡ 0 → ⊥) → r.change ≡ Stay

-- of every book of which this was seen
pub record Concludes (d : Day) (room : ℕ) (o : Order Row) (opening : Result Account Refusal) (scan moved : Result Scan Refused) (r : Outcome) : Type 0 where
  pub fits : Fits room r.change
  pub concluded : (short : Bool) (list : List Row) → length list ≡ room → Examined short (make_book d list) o opening scan moved → Concluded short (make_book d list) o r

-- of every book in a list of so many entries whose holdings' rows are given
pub record Judges (short : Bool) (room : ℕ) (d : Day) (o : Order Row) (given : ℕ → Row → Type 0) (r : Outcome) : Type 0 where
  pub fits : Fits room r.change
  pub concluded : (list : List Row) → Lists given d.count list → length list ≡ room → Concluded short (make_book d list) o r
