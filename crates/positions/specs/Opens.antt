-- What opening a book promises. Assumes nothing.
use mathlib.Core.{Path.◌≡◌, Bool.true, List.List, List.map}
use Rattle.std.specs.Prelude.{ℕ, ◌*◌, ◌≤◌, length, Result, IfOk}
use Rattle.lists.specs.Tables.{Each, front}
use Rattle.holding.specs.Holding.{value_limit}
use Rattle.dates.specs.Calendar.{is_date}
use Rattle.holding.specs.declared.{Account.Account, Row.Row}
use Rattle.words.specs.Words.{decode}
use Rattle.columns.specs.Columns.{count_in, rows_in}
use Rattle.proposal.specs.{Submission.book_of, Submission.price_limit, Outcome.fault_answer, Outcome.book_faults, Outcome.first_fault}
use Rattle.refusals.specs.declared.Refusal.{Refusal}
use Rattle.proposal.specs.declared.Fault.{Fault}
use Rattle.packed.specs.Packed.{Legs, LegsOf, AtMost}

-- an account valued on a date, columns of at most 256 holdings, an entry of each and a price for each holding, and room in two lists
pub record OpenRoom (a : Account) (columns : List (List ℕ)) (price legs left : List ℕ) : Type 0 where
  pub valued : is_date a.date ≡ true
  pub few : count_in columns ≤ 256
  pub each : Each (λ c. 8 * count_in columns ≤ length c) columns
  pub prices : length price ≡ 8 * count_in columns
  pub legs_held : count_in columns ≤ length legs
  pub left_held : count_in columns ≤ length left

-- a book without fault is in the lists: its legs, and its values at the front
pub record Opened (a : Account) (rows : List Row) (prices left legs' left' : List ℕ) : Type 0 where
  pub bounded : Legs (length rows) legs'
  pub legs : LegsOf (book_of a rows prices) (length rows) legs'
  pub values : left' ≡ front (map (λ r. r.value) rows) left
  pub values_high : AtMost value_limit (length rows) (book_of a rows prices).value
  pub prices_high : AtMost price_limit (length rows) (book_of a rows prices).price

-- the first fault of the book's holdings and prices, and where there is none the lists; after a fault what they hold is free
pub record Opens (a : Account) (columns : List (List ℕ)) (price left legs' left' : List ℕ) (r : Result (Unit {0}) (Fault Refusal)) : Type 0 where
  pub fault : fault_answer r ≡ first_fault (book_faults a (rows_in columns) (decode price))
  pub opened : IfOk r (λ _. Opened a (rows_in columns) (decode price) left legs' left')
