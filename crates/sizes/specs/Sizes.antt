-- Document 01, "The lengths: neither 1 nor 2 below holds of what is lent": the byte lengths of what is lent. Assumes nothing.
use mathlib.Core.{Path.◌≡◌, Bool.Bool, Bool.not, Bool.◌||◌, List.List}
use Rattle.std.specs.Prelude.{ℕ, ◌*◌, ◌/◌, ◌≤◌}
use lib.{Dec.ltb, Dec.eqb, ListN.get_or}
use Rattle.lists.specs.{Choice.first_of, Choice.some, Tables.Each}
use Rattle.columns.specs.Columns.{Columns, count_in, holding_sizes, line_sizes}
use Rattle.proposal.specs.Outcome.{size_faults}

-- as many entries as the first of several columns has whole eight bytes
unfoldable pub entries_of : List ℕ → ℕ
entries_of columns = get_or columns 0 0 / 8

-- holdings and lines are counted by the sizes as by the columns
pub record Counted (c : Columns) : Type 0 where
  pub holdings : entries_of (holding_sizes c) ≡ count_in c.holdings
  pub lines : entries_of (line_sizes c) ≡ count_in c.lines

-- each has eight bytes for each of them, and none besides
abbrev pub Equal : List ℕ → Type 0
Equal columns = Each (λ size. size ≡ 8 * entries_of columns) columns

-- 1 holding columns, or line columns, differ in length, or a byte length is no multiple of eight
unfoldable pub unequal : List ℕ → Bool
unequal columns = some (λ size. not (eqb size (8 * entries_of columns))) columns

unfoldable pub differ : List ℕ → List ℕ → Bool
differ holdings lines = unequal holdings || unequal lines

-- lists to be written, each as the entries that it is to hold and its byte length, hold them, and the answer slice its 16 bytes
pub record Room (lists : List (ℕ × ℕ)) (slice : ℕ) : Type 0 where
  pub each : Each (λ list. list.0 ≤ list.1 / 8) lists
  pub answer : 16 ≤ slice

-- 2 a lent list is shorter than what must be written
unfoldable pub too_short : List (ℕ × ℕ) → ℕ → Bool
too_short lists slice = some (λ list. ltb (list.1 / 8) list.0) lists || ltb slice 16

-- the lengths: neither 1 nor 2 holds of what is lent, by the byte lengths of the columns, the lists to be written and the answer slice
pub record Lengths (holdings lines : List ℕ) (lists : List (ℕ × ℕ)) (slice : ℕ) : Type 0 where
  pub equal_holdings : Equal holdings
  pub equal_lines : Equal lines
  pub room : Room lists slice

-- the first that holds of 1, 3, 9, 2, or 0; `two` says whether 2 holds of what is lent
unfoldable pub length_fault : List ℕ → List ℕ → Bool → ℕ
length_fault holdings lines two = first_of (size_faults (differ holdings lines) two (entries_of holdings) (entries_of lines)) 0
