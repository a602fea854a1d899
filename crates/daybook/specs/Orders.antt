-- Document 02 f): what refuses an order, in booking's order, and the book after it. Assumes nothing.
use mathlib.Core.{Bool.Bool, Bool.cond, Bool.not, Bool.◌&&◌, Bool.◌||◌, List.List, List.[], List.◌∷◌, List.◌++◌}
use Rattle.std.specs.Prelude.{ℕ, ◌+◌, Result, Ok, Err}
use lib.{Dec.leb, Dec.ltb, Dec.eqb, ListN.length, ListN.get_or}
use Rattle.lists.specs.{Choice.first_of, Choice.within, Choice.same, Tables.in_turn, Tables.front}
use Rattle.dates.specs.Calendar.{is_date}
use Rattle.holding.specs.Holding.{value_limit, head_faults, account_of, identity_faults, term_faults, money_faults, row_faults}
use Rattle.holding.specs.declared.{Account.Account, Head.Head, Row.Row}
use Rattle.refusals.specs.{Refusals.number_of, declared.Refusal.Refusal}
use Rattle.article.specs.Answer.{Answer, make_answer}
use Rattle.proposal.specs.{Submission.no_row, Outcome.at_place}
use Rattle.daybook.specs.Book.{place_in, held_in, added, taken, totals_of, head_of, account_at, Book, holdings_in}
use Rattle.daybook.specs.declared.Day.{Day}
use Rattle.daybook.specs.declared.Order.{Order, TheVariants.Add, TheVariants.Take, TheVariants.MoveTo}
use Rattle.daybook.specs.declared.Refused.{Refused}

-- the paper's number and values of a finding
abbrev pub answer_of : Result ℕ Refused → Answer
answer_of (Ok count) = make_answer 0 count 0
answer_of (Err r) = make_answer (number_of r.refusal) r.place 0

-- the trade of an order, of a row or of a holding; a move has none
abbrev pub trade_or : {T : Type 0} → T → Order T → T
trade_or none (Add t) = t
trade_or none (Take t) = t
trade_or none (MoveTo to) = none

-- refused, of no holding: at place 0
abbrev pub whole : Refusal → Refused
whole r = record { refusal = r; place = 0 }

-- a lent book is first checked like any other, in a list of so many entries: 3 more than 256 holdings, 2 a list shorter than its count, 24, 26; `short` says whether
-- 2 holds of another list
unfoldable pub lent_faults : Bool → ℕ → Day → List (Bool × ℕ)
lent_faults short room d =
    (ltb 256 d.count, 3)
    ∷ (ltb room d.count || short, 2)
    ∷ head_faults (head_of d)

-- each holding's own, with its place
unfoldable pub at_row : Account → List Row → ℕ → List (Bool × Answer)
at_row a rows k = at_place k (row_faults a (get_or rows k no_row))

unfoldable pub rows_faults : Account → List Row → List (Bool × Answer)
rows_faults a rows = in_turn (length rows) (at_row a rows)

-- 27 stored totals that are off
unfoldable pub totals_faults : Day → List Row → List (Bool × ℕ)
totals_faults d rows = (not (same d.totals (totals_of (account_at d) rows)), 27) ∷ []

-- a trade's description, 4, 5, 6, 24, 7, 23, 25
unfoldable pub description_faults : Account → Row → List (Bool × ℕ)
description_faults a t = identity_faults t ++ term_faults a t ++ money_faults t

-- 8 an added value or a new sum outside the limits
unfoldable pub sum_faults : ℕ → ℕ → List (Bool × ℕ)
sum_faults held value = (not (within 1 value_limit value) || not (within 1 value_limit (held + value)), 8) ∷ []

-- whether a trade joins: no holding is equal to it
unfoldable pub joins : List Row → Row → Bool
joins rows t = eqb (place_in rows t) (length rows)

-- last 3 a 257th holding, 2 a list with no place left
unfoldable pub join_faults : ℕ → List Row → Row → List (Bool × ℕ)
join_faults room rows t = (joins rows t && leb 256 (length rows), 3) ∷ (joins rows t && leb room (length rows), 2) ∷ []

-- 27 taking zero, or more than is held
unfoldable pub taking_faults : ℕ → ℕ → List (Bool × ℕ)
taking_faults held value = (eqb value 0 || ltb held value, 27) ∷ []

-- of a new date 24, and 27 one that is not later
unfoldable pub date_faults : ℕ → ℕ → List (Bool × ℕ)
date_faults date to = (not (is_date to), 24) ∷ (leb to date, 27) ∷ []

-- 7 at the first holding matured by then
unfoldable pub at_matured : List Row → ℕ → ℕ → List (Bool × Answer)
at_matured rows to k = at_place k ((leb (get_or rows k no_row).maturity to, 7) ∷ [])

unfoldable pub matured_faults : List Row → ℕ → List (Bool × Answer)
matured_faults rows to = in_turn (length rows) (at_matured rows to)

-- what refuses an order to a book without fault: the description or the new date, 8, 27, for a move 7, last 3 and 2
unfoldable pub order_faults : ℕ → Day → List Row → Order Row → List (Bool × Answer)
order_faults room d rows (Add t) = at_place 0 (description_faults (account_at d) t ++ sum_faults (held_in rows t) t.value ++ join_faults room rows t)
order_faults room d rows (Take t) = at_place 0 (description_faults (account_at d) t ++ taking_faults (held_in rows t) t.value)
order_faults room d rows (MoveTo to) = at_place 0 (date_faults d.date to) ++ matured_faults rows to

-- the whole list: the lent book, its holdings, its totals, then the order
abbrev pub from_totals : ℕ → Day → List Row → Order Row → List (Bool × Answer)
from_totals room d rows o = at_place 0 (totals_faults d rows) ++ order_faults room d rows o

abbrev pub from_rows : ℕ → Day → List Row → Order Row → List (Bool × Answer)
from_rows room d rows o = rows_faults (account_at d) rows ++ from_totals room d rows o

unfoldable pub faults : Bool → Book → Order Row → List (Bool × Answer)
faults short b o =
    let room = length b.list in
    at_place 0 (lent_faults short room b.day) ++ from_rows room b.day (holdings_in b) o

-- the holdings after an order, and the book's date: only a move changes it
unfoldable pub holdings_after : Order Row → List Row → List Row
holdings_after (Add t) rows = added rows t
holdings_after (Take t) rows = taken rows t
holdings_after (MoveTo to) rows = rows

unfoldable pub date_after : Order Row → ℕ → ℕ
date_after (Add t) date = date
date_after (Take t) date = date
date_after (MoveTo to) date = to

-- what is stored with so many holdings on a date: their totals, worked out on it
unfoldable pub stored : Head → List Row → Day
stored h rows = record { date = h.date; letter = h.letter; count = length rows; totals = totals_of (account_of h) rows }

unfoldable pub day_after : Day → List Row → Order Row → Day
day_after d rows o = stored (record { date = date_after o d.date; letter = d.letter }) (holdings_after o rows)

-- the holdings stand first in the list; entries past them keep what they held
unfoldable pub book_after : Book → Order Row → Book
book_after b o = record { day = day_after b.day (holdings_in b) o; list = front (holdings_after o (holdings_in b)) b.list }

-- accepted: the new count
unfoldable pub accepted_answer : List Row → Order Row → Answer
accepted_answer rows o = make_answer 0 (length (holdings_after o rows)) 0

-- the first refusal that holds, with its place, or the new count
unfoldable pub outcome : Bool → Book → Order Row → Answer
outcome short b o = first_of (faults short b o) (accepted_answer (holdings_in b) o)

unfoldable pub accepted : Bool → Book → Order Row → Bool
accepted short b o = eqb (outcome short b o).number 0

-- the book that is left: after a refusal nothing is changed
unfoldable pub booked : Bool → Book → Order Row → Book
booked short b o = cond (accepted short b o) (book_after b o) b
