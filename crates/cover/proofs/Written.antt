-- A short that is written into the columns, and what of a row is then covered. Assumes nothing.
use mathlib.Core.Path.{◌≡◌, refl, ◌∙◌}
use mathlib.Core.Logic.{◌≢◌}
use mathlib.Core.List.{List}
use Prim.Native.Nat.{ℕ, ◌+◌, ◌≤◌, ◌<◌}
use native.Mathlib.Omega.{arith}
use lib.ListN.{length, set, length-set}
use lib.Seq.{get_or-set_same, get_or-set_other}
use borrow.Author.Tests.{eq-eqb, ne_eqb}
use Rattle.lists.proofs.Tests.{by-test, same_or_not}
use Rattle.article.specs.Pair.{is_bond, allowed, RateInRange}
use Rattle.article.proofs.Legs.{Meets, allowed_meets}
use Rattle.article.specs.declared.pair.Leg.{Leg}
use Rattle.packed.specs.Packed.{leg_at}
use Rattle.savings.specs.Savings.{saving_of}
use Rattle.marks.specs.Marks.{mark_of, across_mark, short_mark, sought_mark, scan_rate, Seeks, Marked}
use Rattle.marks.proofs.Estimate.{two-bonds}
use Rattle.cover.specs.Cover.{Priced, Covered, RowCovered, Places, Added}
use Rattle.cover.specs.declared.Shorts.{Shorts}

-- a leg in the list has a rate within the article's
pub rate_low : {n : ℕ} {legs price : List ℕ} (j : ℕ) {leg : Leg} → Priced n legs price → j < n → leg ≡ leg_at legs j → RateInRange leg
rate_low j priced h found = rw found (priced.bounded.rate j h)

-- two legs that are no allowed pair save nothing
pub unmet : (l s : Leg) → (Meets l s → ⊥) → saving_of l s ≡ 0
unfolding saving_of
unmet l s h = by-test (λ (x : ℕ). x ≡ 0) (allowed l s) (λ e. absurd (h (allowed_meets l s e))) (λ _. refl)

-- a short is written at place k, by one column of marks: that of all shorts, or that of the strips
module _ (k : ℕ) (rates prices : List ℕ) (r z : ℕ) (column : List ℕ) (w : ℕ) {long rate p : ℕ}
    (c : Covered long rate p (set column k w) (set rates k r) (set prices k z) (k + 1)) where
  -- no place before is touched
  column-kept : Covered long rate p column rates prices k
  column-kept = record {
    covered = λ i g l s ml ms.
        let ne : i ≢ k = λ q. omega (arith, g, q) in
        rw (get_or-set_other prices k i z 0 ne) at
        (c.covered i (omega arith) l s ml (rw (get_or-set_other column k i w 0 ne, get_or-set_other rates k i r 0 ne) ms));
  }

  -- the short itself is at the place
  column-added : k < length column → k < length rates → k < length prices → {l s : Leg} → Seeks l long rate → Marked (is_bond l) s w r → saving_of l s ≤ p + z
  column-added a b d {l} {s} ml ms =
      rw (get_or-set_same prices k z 0 d) at (c.covered k (omega arith) l s ml (rw (get_or-set_same column k w 0 a, get_or-set_same rates k r 0 b) ms))

module _ {s : Leg} {z : ℕ} {old new : Shorts} (a : Added s z old new) where
  -- the places are still there, and the rates no higher
  pub places-added : old.count < 256 → Places old → Places new
  places-added h p = record {
    marks_held = rw a.marks (length-set old.marks _ _ ∙ p.marks_held);
    strips_held = rw a.strips (length-set old.strips _ _ ∙ p.strips_held);
    rates_held = rw a.rates (length-set old.rates _ _ ∙ p.rates_held);
    prices_held = rw a.prices (length-set old.prices _ _ ∙ p.prices_held);
    rates_high = λ i l. rw a.rates
        (same_or_not i old.count
        (λ t. rw (t, get_or-set_same old.rates old.count (scan_rate s) 0 (rw p.rates_held h)) a.low)
        (λ t. rw (get_or-set_other old.rates old.count i (scan_rate s) 0 t) (p.rates_high i l)));
  }

  module _ {l : Leg} {p : ℕ} (c : RowCovered l p new new.count) where
    by_strips : l.kind ≡ 0 → Covered (sought_mark l) (scan_rate l) p (set old.strips old.count a.strip) (set old.rates old.count (scan_rate s)) (set old.prices old.count z) (old.count + 1)
    by_strips e = rw (a.strips, a.rates, a.prices, a.count) at (c.bond e)

    by_marks : (l.kind ≡ 0 → ⊥)
        → Covered (sought_mark l) (scan_rate l) p (set old.marks old.count (across_mark s.kind (mark_of (is_bond s) s))) (set old.rates old.count (scan_rate s))
        (set old.prices old.count z) (old.count + 1)
    by_marks e = rw (a.marks, a.rates, a.prices, a.count) at (c.other e)

    pub row_kept : RowCovered l p old old.count
    row_kept = record { bond = λ e. column-kept _ _ _ _ _ _ _ (by_strips e); other = λ e. column-kept _ _ _ _ _ _ _ (by_marks e) }

    -- a bond saves nothing with a bond, and the strips hold any other short
    pub row-added : RateInRange l → RateInRange s → old.count < 256 → Places old → saving_of l s ≤ p + z
    unfolding short_mark is_bond
    row-added fair low h places =
        let seeks : Seeks l (sought_mark l) (scan_rate l) = record { marked = refl; rated = refl; in_range = fair } in
        let marked : (w : ℕ) → w ≡ short_mark (is_bond l) s → Marked (is_bond l) s w (scan_rate s) = λ w e. record { marked = e; rated = refl; in_range = low } in
        same_or_not l.kind 0
        (λ e. same_or_not s.kind 0
        (λ t. rw (two-bonds l s e t) (omega arith))
        (λ t. column-added _ _ _ _ _ _ _ (by_strips e) (rw places.strips_held h) (rw places.rates_held h) (rw places.prices_held h)
        seeks (marked a.strip (rw (eq-eqb _ _ e) (a.sought t)))))
        (λ e. column-added _ _ _ _ _ _ _ (by_marks e) (rw places.marks_held h) (rw places.rates_held h) (rw places.prices_held h)
        seeks (marked _ (rw (ne_eqb _ _ e) refl)))
