-- Document 01, "Who can be refused, and for what", with document 02 a), b), d) and e): the first that holds of one list of refusals, or the figures. Assumes nothing.
use mathlib.Core.{Bool.Bool, Bool.not, Bool.◌&&◌, Bool.◌||◌, List.List, List.[], List.◌∷◌, List.◌++◌, List.map}
use Rattle.std.specs.Prelude.{ℕ, ◌+◌, Result, Ok, Err}
use lib.{Dec.ltb, Dec.eqb, ListN.length, ListN.get_or, ListN.take}
use Rattle.lists.specs.{Choice.first_of, Tables.in_turn}
use Rattle.refusals.specs.{Refusals.number_of, declared.Refusal.Refusal}
use Rattle.holding.specs.Holding.{head_faults, row_faults}
use Rattle.holding.specs.declared.{Account.Account, Row.Row}
use Rattle.article.specs.{Answer.Answer, Answer.make_answer, Pair.is_long, Pair.is_short, Pair.allowed}
use Rattle.article.specs.declared.pair.Leg.{Leg}
use Rattle.pairing.specs.Pairing.{saving_rate, saving, priced_total}
use Rattle.pairing.specs.declared.Line.{Line}
use Rattle.proposal.specs.Submission.{Submission, account_in, PricedBook, terms_of, priced, no_row, no_line, price_limit}
use Rattle.proposal.specs.Submission.{remainder, units_of, cents_of}
use Rattle.proposal.specs.declared.Fault.{Fault}

abbrev pub make_fault : {R : Type 0} → R → ℕ → ℕ → Fault R
make_fault refusal place second = record { refusal = refusal; place = place; second = second }

-- the paper's number and places of what is found: number 0 for no fault
unfoldable pub fault_answer : {A : Type 0} → Result A (Fault Refusal) → Answer
fault_answer (Ok _) = make_answer 0 0 0
fault_answer (Err f) = make_answer (number_of f.refusal) f.place f.second

-- refusals, each with its test, at one place
unfoldable pub at_place : ℕ → List (Bool × ℕ) → List (Bool × Answer)
at_place place faults = map (λ f. (f.0, make_answer f.1 place 0)) faults

-- of a holding 4 to 8, 24, 23 and 25, then 10 price above the highest, 43,800
unfoldable pub holding_faults : Account → Row → ℕ → List (Bool × ℕ)
holding_faults a row price = row_faults a row ++ ((ltb price_limit price, 10) ∷ [])

-- of a line: 12 the first leg not long or the second not short, 13 pair not allowed, 14 amount zero, 15 amount above what remains of either leg
unfoldable pub pair_faults : Leg → Leg → ℕ → ℕ → ℕ → List (Bool × ℕ)
pair_faults long short amount left_long left-short =
    (not (is_long long && is_short short), 12)
    ∷ (not (allowed long short), 13)
    ∷ (eqb amount 0, 14)
    ∷ (ltb left_long amount || ltb left-short amount, 15)
    ∷ []

-- of a line, when those before it are taken off: 11 a number not in the book, then 12 to 15
unfoldable pub line_faults : PricedBook → List Line → Line → List (Bool × ℕ)
line_faults b earlier l =
    (not (ltb l.long b.count && ltb l.short b.count), 11)
    ∷ pair_faults (b.leg l.long) (b.leg l.short) l.amount (remainder b earlier l.long) (remainder b earlier l.short)

-- each holding in turn 4, 5, 6, 24, 7, 8, 23, 25, 10
unfoldable pub at_holding : Account → List Row → List ℕ → ℕ → List (Bool × Answer)
at_holding a rows prices k = at_place k (holding_faults a (get_or rows k no_row) (get_or prices k 0))

unfoldable pub book_faults : Account → List Row → List ℕ → List (Bool × Answer)
book_faults a rows prices = in_turn (length rows) (at_holding a rows prices)

-- each line in turn 11 to 15, against what the lines before it leave
unfoldable pub at_line : PricedBook → List Line → ℕ → List (Bool × Answer)
at_line b lines k = at_place k (line_faults b (take k lines) (get_or lines k no_line))

unfoldable pub lines_faults : PricedBook → List Line → List (Bool × Answer)
lines_faults b lines = in_turn (length lines) (at_line b lines)

-- an allowed pair whose two prices add up to less than its saving rate
unfoldable pub uncovered : PricedBook → ℕ → ℕ → Bool
uncovered b i j = allowed (b.leg i) (b.leg j) && ltb (b.price i + b.price j) (saving_rate (terms_of b) i j)

-- 16 an allowed pair not covered, lowest long, then lowest short
unfoldable pub at_pair : PricedBook → ℕ → ℕ → List (Bool × Answer)
at_pair b i j = (uncovered b i j, make_answer 16 i j) ∷ []

unfoldable pub at_long : PricedBook → ℕ → List (Bool × Answer)
at_long b i = in_turn b.count (at_pair b i)

unfoldable pub uncovered_pairs : PricedBook → List (Bool × Answer)
uncovered_pairs b = in_turn b.count (at_long b)

-- 17 priced total differs from the saving
unfoldable pub totals_differ : PricedBook → List Line → Bool
totals_differ b lines = not (eqb (priced_total (terms_of b) b.price) (saving (terms_of b) lines))

unfoldable pub totals_faults : PricedBook → List Line → List (Bool × Answer)
totals_faults b lines = (totals_differ b lines, make_answer 17 0 0) ∷ []

-- of so many holdings and lines 1, 3 more than 256 holdings, 9 more than 512 lines, 2; `one` and `two` say whether 1 and 2 hold of what is lent
unfoldable pub size_faults : Bool → Bool → ℕ → ℕ → List (Bool × ℕ)
size_faults one two holdings lines = (one, 1) ∷ (ltb 256 holdings, 3) ∷ (ltb 512 lines, 9) ∷ (two, 2) ∷ []

-- check order: 1, 3, 9, 2; 24 on the valuation date, 26 on the letter; each holding in turn; each line in turn; 16; 17
abbrev pub from_pairs : Submission → List (Bool × Answer)
from_pairs s = uncovered_pairs (priced s) ++ totals_faults (priced s) s.lines

abbrev pub from_lines : Submission → List (Bool × Answer)
from_lines s = lines_faults (priced s) s.lines ++ from_pairs s

abbrev pub from_book : Submission → List (Bool × Answer)
from_book s = book_faults (account_in s) s.rows s.prices ++ from_lines s

abbrev pub from_head : Submission → List (Bool × Answer)
from_head s = at_place 0 (head_faults s.head) ++ from_book s

unfoldable pub faults : Bool → Bool → Submission → List (Bool × Answer)
faults one two s = at_place 0 (size_faults one two (length s.rows) (length s.lines)) ++ from_head s

-- the first that holds of a part of the list, number 0 for none
abbrev pub first_fault : List (Bool × Answer) → Answer
first_fault list = first_of list (make_answer 0 0 0)

-- accepted: 0, total units and total cents
unfoldable pub accepted : PricedBook → List Line → Answer
accepted b lines = make_answer 0 (units_of b lines) (cents_of (units_of b lines))

-- the first refusal that holds, or the figures
unfoldable pub outcome : Bool → Bool → Submission → Answer
outcome one two s = first_of (faults one two s) (accepted (priced s) s.lines)
