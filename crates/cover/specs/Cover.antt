-- Document 01, "16 an allowed pair not covered, lowest long, then lowest short", over packed legs and a column of prices. Assumes nothing.
use mathlib.Core.{Path.◌≡◌, List.{List, []}}
use Rattle.std.specs.Prelude.{ℕ, ◌+◌, ◌*◌, ◌%◌, ◌≤◌, ◌<◌, length, get_or, set, Result}
use Rattle.words.specs.Words.{word_at, entries}
use Rattle.article.specs.declared.pair.Leg.{Leg}
use Rattle.savings.specs.Savings.{saving_of}
use Rattle.marks.specs.Marks.{mark_of, across_mark, sought_mark, scan_rate, scan_limit, Seeks, Marked}
use Rattle.article.specs.Pair.{is_bond, RateInRange}
use Rattle.packed.specs.Packed.{leg_at, AtMost, entry, Legs, LegsOf, Same}
use Rattle.holding.specs.Holding.{value_limit}
use Rattle.pairing.specs.Pairing.{priced_total}
use Rattle.proposal.specs.{Submission.PricedBook, Submission.terms_of, Submission.price_limit, Outcome.fault_answer, Outcome.uncovered_pairs, Outcome.first_fault}
use Rattle.refusals.specs.declared.Refusal.{Refusal}
use Rattle.proposal.specs.declared.Fault.{Fault}
use Rattle.cover.specs.declared.Shorts.{Shorts}

-- a long with this mark, scanned by this rate, at this price is covered with each of the shorts that stand in the first m places
pub record Covered (mark rate price : ℕ) (marks rates prices : List ℕ) (m : ℕ) : Type 0 where
  pub covered : (k : ℕ) → k < m → (l s : Leg) → Seeks l mark rate → Marked (is_bond l) s (get_or marks k 0) (get_or rates k 0) → saving_of l s ≤ price + get_or prices k 0

-- a long at this price is covered with each of those shorts: a bond by the column of the strips, any other long by that of all shorts
pub record RowCovered (l : Leg) (price : ℕ) (shorts : Shorts) (m : ℕ) : Type 0 where
  pub bond : l.kind ≡ 0 → Covered (sought_mark l) (scan_rate l) price shorts.strips shorts.rates shorts.prices m
  pub other : (l.kind ≡ 0 → ⊥) → Covered (sought_mark l) (scan_rate l) price shorts.marks shorts.rates shorts.prices m

-- 256 places in each column, and no rate above the highest
pub record Places (shorts : Shorts) : Type 0 where
  pub marks_held : length shorts.marks ≡ 256
  pub strips_held : length shorts.strips ≡ 256
  pub rates_held : length shorts.rates ≡ 256
  pub prices_held : length shorts.prices ≡ 256
  pub rates_high : AtMost scan_limit 256 (entry shorts.rates)

-- one more short: a leg at a price, in the first place that is free. Of a bond the column of the strips may have anything
pub record Added (leg : Leg) (price : ℕ) (old new : Shorts) : Type 0 where
  pub strip : ℕ
  pub sought : (leg.kind ≡ 0 → ⊥) → strip ≡ mark_of (is_bond leg) leg
  pub low : scan_rate leg ≤ scan_limit
  pub count : new.count ≡ old.count + 1
  pub marks : new.marks ≡ set old.marks old.count (across_mark leg.kind (mark_of (is_bond leg) leg))
  pub strips : new.strips ≡ set old.strips old.count strip
  pub rates : new.rates ≡ set old.rates old.count (scan_rate leg)
  pub prices : new.prices ≡ set old.prices old.count price

-- the part in which the shorts of a leg's period stand
unfoldable pub part_of : ℕ → Leg → ℕ
part_of parts l = l.period % parts

abbrev pub part_at : List Shorts → ℕ → Shorts
part_at parts b = get_or parts b (record { count = 0; marks = []; strips = []; rates = []; prices = [] })

-- the places of each part
pub record Parts (parts : List Shorts) : Type 0 where
  pub places : (b : ℕ) → b < length parts → Places (part_at parts b)

-- none is taken
pub record Free (parts : List Shorts) : Type 0 where
  pub none : (b : ℕ) → b < length parts → (part_at parts b).count ≡ 0

-- the shorts in the parts are those of the first n holdings: a long that is covered with each of its part is covered with every holding
pub record ShortsByPart (n : ℕ) (legs price : List ℕ) (parts : List Shorts) : Type 0 where
  pub few : (b : ℕ) → b < length parts → (part_at parts b).count ≤ n
  pub all : (l : Leg) (p : ℕ) → RateInRange l → RowCovered l p (part_at parts (part_of (length parts) l)) (part_at parts (part_of (length parts) l)).count
      → (j : ℕ) → j < n → saving_of l (leg_at legs j) ≤ p + word_at price j

-- n legs, each with a price that is not too high
pub record Priced (n : ℕ) (legs price : List ℕ) : Type 0 where
  pub bounded : Legs n legs
  pub held : 8 * n ≤ length price
  pub high : AtMost price_limit n (word_at price)

-- the two prices of holdings i and j are no less than the two save as long and short
abbrev pub PairCovered : List ℕ → List ℕ → ℕ → ℕ → Type 0
PairCovered legs price i j = saving_of (leg_at legs i) (leg_at legs j) ≤ word_at price i + word_at price j

-- i is covered, as the long, with each of the first n holdings
abbrev pub LongCovered : ℕ → List ℕ → List ℕ → ℕ → Type 0
LongCovered n legs price i = (j : ℕ) → j < n → PairCovered legs price i j

-- j is the first of the n holdings that i is not covered with as the long
pub record FirstOpen (n : ℕ) (legs price : List ℕ) (i j : ℕ) : Type 0 where
  pub held : j < n
  pub before : LongCovered j legs price i
  pub short : word_at price i + word_at price j < saving_of (leg_at legs i) (leg_at legs j)

-- r is the first uncovered pair of the book that the lists hold
pub record Finds {A : Type 0} (n : ℕ) (legs price : List ℕ) (r : Result A (Fault Refusal)) : Type 0 where
  pub found : (b : PricedBook) → LegsOf b n legs → Same n (word_at price) b.price → fault_answer r ≡ first_fault (uncovered_pairs b)

-- as many values as prices, of at most 256 holdings, none too high
pub record Valued (price value : List ℕ) : Type 0 where
  pub count : entries price ≤ 256
  pub held : 8 * entries price ≤ length value
  pub prices : AtMost price_limit (entries price) (word_at price)
  pub values : AtMost value_limit (entries price) (word_at value)

-- r is the priced total of the book that the columns hold
pub record Totals (price value : List ℕ) (r : ℕ) : Type 0 where
  pub total : (b : PricedBook) → b.count ≡ entries price → Same (entries price) (word_at price) b.price → Same (entries price) (word_at value) b.value
      → r ≡ priced_total (terms_of b) b.price
