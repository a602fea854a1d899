-- The scan of a row of shorts. Assumes nothing.
use mathlib.Core.Path.{◌≡◌, ap}
use mathlib.Core.Bool.{false}
use mathlib.Core.List.{List}
use Prim.Native.Nat.{ℕ, ◌+◌, ◌-◌, ◌≤◌, ◌<◌, max}
use native.Mathlib.Omega.{arith}
use lib.Dec.{ltb}
use lib.ListN.{length, get_or, replicate, length-replicate, get_or-replicate}
use borrow.Author.Count.{below_more}
use borrow.Author.Tests.{ltb-false}
use Rattle.words.specs.Words.{word_at}
use Rattle.article.specs.Pair.{is_bond, RateInRange}
use Rattle.article.specs.declared.pair.Leg.{Leg}
use Rattle.packed.specs.Packed.{leg_at}
use Rattle.savings.specs.Savings.{saving_of}
use Rattle.marks.specs.Marks.{sought_mark, scan_rate, Seeks, Marked, Asks}
use Rattle.cover.specs.Cover.{LongCovered, Covered, RowCovered, part_of, part_at, Parts, Free, ShortsByPart}
use Rattle.cover.specs.declared.Shorts.{Shorts}
use Rattle.cover.proofs.Written.{rate_low}
use Rattle.cover.proofs.Uncovered.{other_covered, closed_more, finds_open, finds_none}

-- of each of the first shorts at most so much is missing
pub record Missing (mark rate price : ℕ) (marks rates prices : List ℕ) (worst to : ℕ) : Type 0 where
  pub most : (k : ℕ) → k < to → (l s : Leg) → Seeks l mark rate → Marked (is_bond l) s (get_or marks k 0) (get_or rates k 0)
      → saving_of l s - price - get_or prices k 0 ≤ worst

module _ {mark rate price : ℕ} {marks rates prices : List ℕ} where
  pub missing_none : {worst : ℕ} → Missing mark rate price marks rates prices worst 0
  missing_none = record { most = λ k h. absurd (omega arith) }

  module _ {worst to : ℕ} (p : Missing mark rate price marks rates prices worst to) where
    -- one more short: what it asks, what is left above the long's price and above its own
    pub missing_more : {asked first second next : ℕ} → Asks mark rate (get_or marks to 0) (get_or rates to 0) asked → first ≡ asked - price
        → second ≡ first - get_or prices to 0 → next ≡ max worst second → Missing mark rate price marks rates prices next (to + 1)
    missing_more asks first second next = record {
      most =
          below_more _ _ (λ k h l s ml ms. omega (arith, next, p.most k h l s ml ms))
          (λ l s ml ms. omega (arith, next, first, second, asks.enough l s ml ms));
    }

    -- where nothing is missing, the row is covered
    pub missing_all : {end : ℕ} → end ≤ to → ltb 0 worst ≡ false → Covered mark rate price marks rates prices end
    missing_all g e =
        let none : worst ≤ 0 = ltb-false 0 worst e in
        record { covered = λ k h l s ml ms. omega (arith, none, p.most k (omega arith) l s ml ms) }

-- the row of a long by the mark that it seeks: a bond's and any other's
module _ (l : Leg) {mark rate price m : ℕ} {shorts : Shorts} (sought : mark ≡ sought_mark l) (scanned : rate ≡ scan_rate l) where
  pub bond_row : l.kind ≡ 0 → Covered mark rate price shorts.strips shorts.rates shorts.prices m → RowCovered l price shorts m
  bond_row b c = record { bond = λ _. rw (← sought, ← scanned) c; other = λ f. absurd (f b) }

  pub other_row : (l.kind ≡ 0 → ⊥) → Covered mark rate price shorts.marks shorts.rates shorts.prices m → RowCovered l price shorts m
  other_row f c = record { bond = λ b. absurd (f b); other = λ _. rw (← sought, ← scanned) c }

-- a long by the shorts of its part
module _ {n : ℕ} {legs price : List ℕ} {parts : List Shorts} (shorts : ShortsByPart n legs price parts) where
  pub part_closed : (i : ℕ) {leg : Leg} → leg ≡ leg_at legs i → {first b : ℕ} → b ≡ part_of (length parts) leg → RateInRange leg → first ≡ word_at price i
      → RowCovered leg first (part_at parts b) (part_at parts b).count → LongCovered n legs price i
  part_closed i found part fair first c j h = rw (← found, ← first) (shorts.all _ _ fair (rw part at c) j h)

-- blank columns: parts of which no place is taken
abbrev pub blank : Shorts
blank = record { count = 0; marks = replicate 256 0; strips = replicate 256 0; rates = replicate 256 0; prices = replicate 256 0 }

module _ (parts : ℕ) where
  blank_at : (b : ℕ) → b < length (replicate parts blank) → part_at (replicate parts blank) b ≡ blank
  blank_at b h = get_or-replicate parts b blank _ (rw (length-replicate parts blank) at h)

  pub parts_blank : Parts (replicate parts blank)
  parts_blank = record {
    places = λ b h. rw (blank_at b h)
        (record {
          marks_held = length-replicate {A = ℕ} 256 0;
          strips_held = length-replicate {A = ℕ} 256 0;
          rates_held = length-replicate {A = ℕ} 256 0;
          prices_held = length-replicate {A = ℕ} 256 0;
          rates_high = λ k g. rw (get_or-replicate {A = ℕ} 256 k 0 0 g) (omega arith);
        });
  }

  pub free_blank : Free (replicate parts blank)
  free_blank = record { none = λ b h. ap (λ (s : Shorts). s.count) (blank_at b h) }

-- the steps of the search that passes over the longs that the scan finds covered
pub ruleset scan_steps = (rate_low, part_closed, other_covered, closed_more, finds_open, finds_none)
