-- Document 01, "Each pair line takes the tally of unpaired values in and hands it back": one line, and the lines in turn. Assumes nothing.
use mathlib.Core.{Path.◌≡◌, Bool.Bool, List.List, List.map}
use Rattle.std.specs.Prelude.{ℕ, ◌+◌, ◌-◌, ◌*◌, ◌≤◌, Result, Ok, Err}
use Rattle.lists.specs.{Choice.first_of, Tables.Each, Tables.front}
use Rattle.holding.specs.Holding.{value_limit}
use Rattle.article.specs.Pair.{pair_rate_of, saving_rate_of, RateInRange}
use Rattle.article.specs.declared.pair.Leg.{Leg}
use Rattle.proposal.specs.{Submission.margin_limit, Submission.saved_limit, Submission.remainders_of, Outcome.pair_faults, Outcome.fault_answer, Outcome.lines_faults}
use Rattle.proposal.specs.{Outcome.first_fault, Submission.PricedBook, Submission.terms_of}
use Rattle.refusals.specs.declared.Refusal.{Refusal}
use Rattle.proposal.specs.declared.Fault.{Fault}
use Rattle.tally.specs.declared.{Tally.Tally, Sums.Sums}
use lib.{ListN.length, ListN.take}
use Rattle.pairing.specs.Pairing as pairing
use Rattle.pairing.specs.declared.Line.{Line}
use Rattle.columns.specs.Columns.{count_in}
use Rattle.packed.specs.Packed.{Legs, LegsOf, Same, AtMost, entry}

-- refusals, each with its test, as answers on a line
unfoldable pub refusals : List (Bool × ℕ) → List (Bool × Result Tally ℕ)
refusals faults = map (λ f. (f.0, Err f.1)) faults

-- one line off a tally: its amount off both legs, its units and its saving added
unfoldable pub taken : Tally → ℕ → Leg → Leg → Tally
taken t amount long short = record {
  long = t.long - amount;
  short = t.short - amount;
  units = t.units + pair_rate_of long short * amount;
  saving = t.saving + saving_rate_of long short * amount;
}

-- the answer on one line: the first of 12 to 15 that holds against what the tally has left, by its number, or the new tally
unfoldable pub applied_of : Tally → ℕ → Leg → Leg → Result Tally ℕ
applied_of t amount long short = first_of (refusals (pair_faults long short amount t.long t.short)) (Ok (taken t amount long short))

-- a tally of at most 511 lines, and two legs
pub record Ready (t : Tally) (long short : Leg) : Type 0 where
  pub long_rate : RateInRange long
  pub short_rate : RateInRange short
  pub left : t.long ≤ value_limit
  pub units : t.units ≤ 511 * margin_limit
  pub saving : t.saving ≤ 511 * saved_limit

-- what is lent: packed legs and values of n holdings within the limits, and columns of at most 512 lines
pub record LinesLent (n : ℕ) (legs left : List ℕ) (columns : List (List ℕ)) : Type 0 where
  pub bounded : Legs n legs
  pub held : n ≤ length left
  pub high : AtMost value_limit n (entry left)
  pub few : count_in columns ≤ 512
  pub each : Each (λ c. 8 * count_in columns ≤ length c) columns

-- the lines that were taken off: all, or those before the one at fault
unfoldable pub taken_lines : Result (Unit {0}) (Fault Refusal) → List Line → List Line
taken_lines (Ok _) lines = lines
taken_lines (Err f) lines = take f.place lines

-- what the walk over a book's lines finds: the first fault; units and saving of the lines taken off; and what they leave of each holding
pub record Walks (b : PricedBook) (lines : List Line) (before after : List ℕ) (sums : Sums) (r : Result (Unit {0}) (Fault Refusal)) : Type 0 where
  pub fault : fault_answer r ≡ first_fault (lines_faults b lines)
  pub units : sums.units ≡ pairing.pair_units (terms_of b) (taken_lines r lines)
  pub saving : sums.saving ≡ pairing.saving (terms_of b) (taken_lines r lines)
  pub left : after ≡ front (remainders_of b (taken_lines r lines)) before

-- what taking the lines in turn promises, of whichever book the lent lists hold; and bounds
pub record Takes (n : ℕ) (legs before : List ℕ) (lines : List Line) (after : List ℕ) (sums : Sums) (r : Result (Unit {0}) (Fault Refusal)) : Type 0 where
  pub walks : (b : PricedBook) → LegsOf b n legs → Same n (entry before) b.value → Walks b lines before after sums r
  pub units-high : sums.units ≤ 512 * margin_limit
  pub left_high : AtMost value_limit n (entry after)
