-- Document 01, "A proposal and its check": pairings, their sums, and prices that cover. A book is its terms here, by the numbers of its
-- holdings, and no definition knows what a holding is. Assumes nothing.
use mathlib.Core.{Path.◌≡◌, Bool.Bool, Bool.true, List.List, List.[], List.◌∷◌}
use Rattle.std.specs.Prelude.{ℕ, ◌+◌, ◌-◌, ◌*◌, ◌≤◌, ◌<◌}
use Rattle.lists.specs.Tables.{Each, sum_to, sum_of, only}
use Rattle.pairing.specs.declared.Line.{Line}

-- a book: how many holdings, each one's value and rate, which pairs are allowed, and each pair's rate
pub record Terms : Type 0 where
  pub count : ℕ
  pub value : ℕ → ℕ
  pub rate : ℕ → ℕ
  pub allowed : ℕ → ℕ → Bool
  pub pair_rate : ℕ → ℕ → ℕ

-- a holding's amounts over all lines: lines on the same two holdings add up
unfoldable pub used : List Line → ℕ → ℕ
used lines k = sum_of lines (λ l. only l.long l.amount k + only l.short l.amount k)

-- the same lines, their amounts counted in parts of 1/N cent
unfoldable pub in_parts : ℕ → List Line → List Line
in_parts N [] = []
in_parts N (l ∷ ls) = record { long = l.long; short = l.short; amount = N * l.amount } ∷ in_parts N ls

module _ (T : Terms) where
  -- the saving rate is the sum of the two rates less the pair's rate
  unfoldable pub saving_rate : ℕ → ℕ → ℕ
  saving_rate i j = T.rate i + T.rate j - T.pair_rate i j

  -- an allowed pair of the book
  pub record AllowedPair (l : Line) : Type 0 where
    pub long : l.long < T.count
    pub short : l.short < T.count
    pub pair : T.allowed l.long l.short ≡ true

  -- a pairing at N: a list, empty or of any length, of allowed pairs of the book, each with its amount as a count of parts of 1/N cent,
  -- in which no holding's amounts add up to more than N times its value
  pub record IsPairing (N : ℕ) (lines : List Line) : Type 0 where
    pub pairs : Each AllowedPair lines
    pub within : (k : ℕ) → k < T.count → used lines k ≤ N * T.value k

  -- pair rate times amount over the pairs
  unfoldable pub pair_units : List Line → ℕ
  pair_units lines = sum_of lines (λ l. T.pair_rate l.long l.short * l.amount)

  -- over all holdings, rate times what the holding's amounts leave of N times its value
  unfoldable pub rest_units : ℕ → List Line → ℕ
  rest_units N lines = sum_to T.count (λ k. T.rate k * (N * T.value k - used lines k))

  -- the sum of a pairing at N
  unfoldable pub sum_at : ℕ → List Line → ℕ
  sum_at N lines = pair_units lines + rest_units N lines

  -- the saving is the sum over lines of saving rate times amount
  unfoldable pub saving : List Line → ℕ
  saving lines = sum_of lines (λ l. saving_rate l.long l.short * l.amount)

  -- prices cover the book if for every allowed pair, in a line or not, the two prices add up to at least its saving rate
  abbrev pub Covers : (ℕ → ℕ) → Type 0
  Covers price =
      (i j : ℕ) → i < T.count → j < T.count → T.allowed i j ≡ true → saving_rate i j ≤ price i + price j

  -- the priced total is the sum of price times whole market value
  unfoldable pub priced_total : (ℕ → ℕ) → ℕ
  priced_total price = sum_to T.count (λ k. price k * T.value k)

  -- a pair's rate is no more than its two rates: all that the article owes the theory
  abbrev pub Fair : Type 0
  Fair = (i j : ℕ) → T.pair_rate i j ≤ T.rate i + T.rate j

  -- units are the least: the lines are a pairing at 1, its sum is those units, and for every whole N from 1 the sum of every pairing at N
  -- is at least N times the units, which the lines themselves come to
  pub record Least (lines : List Line) (units : ℕ) : Type 0 where
    pub pairing : IsPairing 1 lines
    pub sum : sum_at 1 lines ≡ units
    pub every : (N : ℕ) → 1 ≤ N → (other : List Line) → IsPairing N other → N * units ≤ sum_at N other
    pub in_parts_lem : (N : ℕ) → 1 ≤ N → IsPairing N (in_parts N lines) × (sum_at N (in_parts N lines) ≡ N * units)
