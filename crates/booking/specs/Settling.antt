-- An order to a book that was seen without fault: what the parts of the core promise of it. Assumes nothing.
use mathlib.Core.{Path.◌≡◌, Bool.Bool, Bool.cond, Bool.◌&&◌, Bool.true, List.List, List.[], List.◌∷◌, List.◌++◌}
use Rattle.std.specs.Prelude.{ℕ, suc, ◌*◌, ◌≤◌, ◌<◌, Result, Ok, Err}
use lib.{Dec.leb, Dec.eqb, ListN.length, ListN.get_or, ListN.take}
use Rattle.lists.specs.{Choice.first_of, Tables.front}
use Rattle.refusals.specs.{Refusals.refused_by, declared.Refusal.Refusal}
use Rattle.dates.specs.Calendar.{is_date}
use Rattle.holding.specs.Holding.{holding_of}
use Rattle.holding.specs.declared.{Account.Account, Row.Row}
use Rattle.rates.specs.Rate.{period_of, rate_of}
use Rattle.article.specs.Answer.{Answer}
use Rattle.article.specs.Pair.{rate_limit}
use Rattle.proposal.specs.Submission.{margin_limit}
use Rattle.proposal.specs.Outcome.{first_fault}
use Rattle.daybook.specs.Book.{valued, account_at}
use Rattle.daybook.specs.Orders.{answer_of, rows_faults, sum_faults, order_faults, holdings_after, day_after, accepted_answer, description_faults}
use Rattle.daybook.specs.declared.{Day.Day}
use Rattle.daybook.specs.declared.Order.{Order, TheVariants.Add, TheVariants.Take}
use Rattle.daybook.specs.declared.Refused.{Refused}
use Rattle.booking.specs.Seeing.{trade_of, Counted, changed, Fits}
use Rattle.booking.specs.declared.{Scan.Scan, AtRate.AtRate, Settled.Settled, Outcome.Outcome, Change.TheVariants.Stay}

-- the outcome of what is settled: accepted with the count that is then stored, or refused with all else as it was
abbrev pub outcome_by : Day → Result Settled Refused → Outcome
outcome_by d (Ok s) = record { reply = record { finding = Ok s.day.count; day = s.day }; change = s.change }
outcome_by d (Err x) = record { reply = record { finding = Err x; day = d }; change = Stay }

-- what refuses a value added to so much: 8, and where it joins so many 3 and 2
unfoldable pub adding_faults : ℕ → ℕ → Bool → ℕ → ℕ → List (Bool × ℕ)
adding_faults held value joins count room = sum_faults held value ++ ((joins && leb 256 count, 3) ∷ (joins && leb room count, 2) ∷ [])

-- an order to so many holdings settled: the answer, what is then stored, and the list
module _ (d : Day) (room : ℕ) (rows : List Row) (o : Order Row) where
  unfoldable pub settlement : Answer
  settlement = first_of (order_faults room d rows o) (accepted_answer rows o)

  pub record Settles (r : Outcome) : Type 0 where
    pub answer : answer_of r.reply.finding ≡ settlement
    pub day : r.reply.day ≡ cond (eqb settlement.number 0) (day_after d rows o) d
    pub list : (xs : List Row) → length xs ≡ room → take (length rows) xs ≡ rows
        → changed r.change (valued (trade_of o)) xs ≡ cond (eqb settlement.number 0) (front (holdings_after o rows) xs) xs
    pub stays : (settlement.number ≡ 0 → ⊥) → r.change ≡ Stay

-- holdings without fault that are all of a book in a list of so many entries, with the totals that are stored
pub record Held (d : Day) (room : ℕ) (rows : List Row) : Type 0 where
  pub count : length rows ≡ d.count
  pub within : length rows ≤ room
  pub clear : (first_fault (rows_faults (account_at d) rows)).number ≡ 0

-- what was counted of them for a trade
pub record Traded (d : Day) (room : ℕ) (t : Row) (s : Scan) (rows : List Row) : Type 0 where
  pub held : Held d room rows
  pub counted : Counted (account_at d) t rows s
  pub totals : d.totals ≡ s.totals

-- the trade's description is without fault, and this is its place among the totals, and its rate
pub record Rated (a : Account) (t : Row) (p rate : ℕ) : Type 0 where
  pub described : first_of (description_faults a t) 0 ≡ 0
  pub place : period_of a t.maturity ≡ suc p
  pub units : rate_of a (holding_of t) ≡ rate

-- there is room in a total for one more margin
pub record Raisable (d : Day) (p rate : ℕ) : Type 0 where
  pub place : p < 5
  pub high : rate ≤ rate_limit
  pub low : get_or d.totals p 0 ≤ 256 * margin_limit

-- a total has the margin of what is held, by a holding of the book
pub record Lowerable (d : Day) (s : Scan) (p rate : ℕ) : Type 0 where
  pub place : p < 5
  pub low : get_or d.totals p 0 ≤ 256 * margin_limit
  pub enough : rate * s.held ≤ get_or d.totals p 0
  pub there : 1 ≤ s.held → s.at < d.count

-- a trade: its description's first fault, or its place among the totals and its rate
pub record Rates (a : Account) (t : Row) (r : Result AtRate Refusal) : Type 0 where
  pub number : refused_by r ≡ first_of (description_faults a t) 0
  pub place : (p : AtRate) → r ≡ Ok p → p.place < 5
  pub rated : (p : AtRate) → r ≡ Ok p → Rated a t p.place p.rate

-- what a trade asks of totals that were counted: rows of which they were
pub record Tradable (d : Day) (s : Scan) (a : Account) (t : Row) : Type 0 where
  pub rows : List Row
  pub few : length rows ≤ 256
  pub count : length rows ≡ d.count
  pub valued : is_date a.date ≡ true
  pub clear : (first_fault (rows_faults a rows)).number ≡ 0
  pub counted : Counted a t rows s
  pub totals : d.totals ≡ s.totals

-- an adding and a taking are settled, whatever rows have these numbers
pub record Adds (d : Day) (room : ℕ) (s : Scan) (a : Account) (t : Row) (r : Result Settled Refused) : Type 0 where
  pub fits : d.count ≤ room → Fits room (outcome_by d r).change
  pub settled : a ≡ account_at d → (rows : List Row) → Traded d room t s rows → Settles d room rows (Add t) (outcome_by d r)

pub record Takes (d : Day) (s : Scan) (a : Account) (t : Row) (r : Result Settled Refused) : Type 0 where
  pub fits : (room : ℕ) → d.count ≤ room → Fits room (outcome_by d r).change
  pub settled : a ≡ account_at d → (room : ℕ) (rows : List Row) → Traded d room t s rows → Settles d room rows (Take t) (outcome_by d r)
