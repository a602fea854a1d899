-- A trade by the place that was counted of it: what stands there, and the totals once it is changed. Assumes nothing.
use mathlib.Core.Path.{◌≡◌, refl, sym, ◌∙◌}
use mathlib.Core.Bool.{Bool, true, false, false≢true}
use mathlib.Core.List.{List, [], ◌∷◌, ◌++◌}
use Prim.Native.Nat.{ℕ, zero, suc, ◌+◌, ◌*◌, ◌≤◌, ◌<◌}
use native.Mathlib.Omega.{arith}
use lib.ListN.{length, get_or, take, drop, set}
use Rattle.lists.specs.Tables.{sum_of, only}
use Rattle.lists.proofs.Sums.{only_same, only-other}
use Rattle.lists.proofs.Tables.{get_or-to}
use Rattle.holding.specs.Holding.{holding_of}
use Rattle.holding.specs.declared.{Account.Account, Row.Row}
use Rattle.rates.specs.Rate.{period_of, rate_of}
use Rattle.proposal.specs.Submission.{no_row}
use Rattle.daybook.specs.Book.{alike, valued, place_in, margin_of, total_of, totals_of}
use Rattle.daybook.specs.Bookings.{Equal}
use Rattle.daybook.proofs.Descriptions.{one-description}
use Rattle.daybook.proofs.Trades.{First, Nowhere}
use Rattle.booking.proofs.Rows.{set-total}

module _ (t : Row) where
  -- the place that was counted is that of the first holding equal to the trade, or none is
  before : (r : Row) (rs : List Row) (n : ℕ) → alike r t ≡ false → ((j : ℕ) → j < n → Equal (get_or rs j no_row) t → ⊥)
      → (j : ℕ) → j < suc n → Equal (get_or (r ∷ rs) j no_row) t → ⊥
  before r rs n e f zero l s = false≢true (sym e ∙ (one-description r t).found.1 s)
  before r rs n e f (suc j) l s = f j (omega arith) s

  pub first-at : (rows : List Row) → place_in rows t < length rows → First t rows (place_in rows t)
  unfolding place_in
  first-at [] h = absurd (omega arith)
  first-at (r ∷ rs) h = by (alike r t) refl (first-at rs)
    where
      by : (b : Bool) → alike r t ≡ b → (place_in rs t < length rs → First t rs (place_in rs t)) → First t (r ∷ rs) (place_in (r ∷ rs) t)
      by true e later = rw e (record { counted = omega arith; equal = (one-description r t).found.0 e; first = λ j q. absurd (omega arith) })
      by false e later =
          let q : suc (place_in rs t) < suc (length rs) = rw e at h in
          let f = later (omega arith) in
          rw e (record {
            counted = q;
            equal = f.equal;
            first = before r rs (place_in rs t) e f.first;
          })

  pub nowhere_at : (rows : List Row) → place_in rows t ≡ length rows → Nowhere t rows
  unfolding place_in
  nowhere_at [] h = λ k q. absurd (omega arith)
  nowhere_at (r ∷ rs) h = by (alike r t) refl (nowhere_at rs)
    where
      by : (b : Bool) → alike r t ≡ b → (place_in rs t ≡ length rs → Nowhere t rs) → Nowhere t (r ∷ rs)
      by true e later k q s = let never : 0 ≡ suc (length rs) = rw e at h in absurd (omega arith)
      by false e later zero q s = false≢true (sym e ∙ (one-description r t).found.1 s)
      by false e later (suc k) q s =
          let l : suc (place_in rs t) ≡ suc (length rs) = rw e at h in
          later (omega arith) k (omega arith) s

  -- its description with any value
  pub valued_equal : (v : ℕ) → Equal (valued t v) t
  unfolding valued
  valued_equal v = record { side = refl; kind = refl; issuer = refl; maturity = refl; currency = refl; rating = refl }

-- sums over a list with another entry at a place, or without it
module _ {A : Type 0} (f : A → ℕ) (d : A) where
  pub sum-set : (xs : List A) (k : ℕ) (y : A) → k < length xs → sum_of (set xs k y) f + f (get_or xs k d) ≡ sum_of xs f + f y
  unfolding sum_of
  sum-set [] k y h = absurd (omega arith)
  sum-set (x ∷ xs) zero y h = omega arith
  sum-set (x ∷ xs) (suc k) y h = omega (arith, sum-set xs k y (omega arith))

  pub sum-without : (xs : List A) (k : ℕ) → k < length xs → sum_of (take k xs ++ drop (suc k) xs) f + f (get_or xs k d) ≡ sum_of xs f
  unfolding sum_of
  sum-without [] k h = absurd (omega arith)
  sum-without (x ∷ xs) zero h = omega arith
  sum-without (x ∷ xs) (suc k) h = omega (arith, sum-without xs k (omega arith))

-- rows of one description have one period and one rate
module _ (a : Account) (t : Row) (p rate : ℕ) (place : period_of a t.maturity ≡ suc p) (units : rate_of a (holding_of t) ≡ rate) where
  -- what a row of the description adds to a period's total
  unfoldable share : Row → ℕ → ℕ
  share r k = only (period_of a r.maturity) (margin_of a r) k

  equal-rate : (r : Row) → Equal r t → rate_of a (holding_of r) ≡ rate
  unfolding rate_of holding_of
  equal-rate r e = rw (e.kind, e.issuer, e.maturity) units

  equal-share : (r : Row) → Equal r t → (k : ℕ) → share r k ≡ only (suc p) (rate * r.value) k
  unfolding share margin_of
  equal-share r e k = rw (equal-rate r e, e.maturity, place)

  own_share : (r : Row) → Equal r t → share r (suc p) ≡ rate * r.value
  own_share r e = equal-share r e (suc p) ∙ only_same (suc p) (rate * r.value)

  other-share : (r : Row) → Equal r t → (k : ℕ) → (k ≡ p → ⊥) → share r (suc k) ≡ 0
  other-share r e k o = equal-share r e (suc k) ∙ only-other (suc p) (rate * r.value) (suc k) (λ z. o (omega (arith, z)))

  module _ (rows : List Row) (k : ℕ) (f : First t rows k) where
    abbrev old : Row
    old = get_or rows k no_row

    -- the total of its period has its margin
    pub total-held : rate * old.value ≤ total_of a rows (suc p)
    unfolding total_of share
    total-held = omega (arith, sum-without (λ r. share r (suc p)) no_row rows k f.counted, own_share old f.equal)

    -- another value
    module _ (n : Row) (e : Equal n t) where
      own-set : total_of a (set rows k n) (suc p) + rate * old.value ≡ total_of a rows (suc p) + rate * n.value
      unfolding total_of share
      own-set = omega (arith, sum-set (λ r. share r (suc p)) no_row rows k n f.counted, own_share old f.equal, own_share n e)

      other-set : (j : ℕ) → (j ≡ p → ⊥) → total_of a rows (suc j) ≡ total_of a (set rows k n) (suc j)
      unfolding total_of share
      other-set j o = omega (arith, sum-set (λ r. share r (suc j)) no_row rows k n f.counted, other-share old f.equal j o, other-share n e j o)

      pub totals-set : (v : ℕ) → p < 5 → v + rate * old.value ≡ get_or (totals_of a rows) p 0 + rate * n.value → set (totals_of a rows) p v ≡ totals_of a (set rows k n)
      unfolding totals_of
      totals-set v q h =
          set-total (λ j. total_of a rows (suc j)) (λ j. total_of a (set rows k n) (suc j)) p v q
          (omega (arith, h, own-set, get_or-to 5 (λ j. total_of a rows (suc j)) p 0 q)) other-set

    -- and without it
    abbrev without : List Row
    without = take k rows ++ drop (suc k) rows

    own_without : total_of a without (suc p) + rate * old.value ≡ total_of a rows (suc p)
    unfolding total_of share
    own_without = omega (arith, sum-without (λ r. share r (suc p)) no_row rows k f.counted, own_share old f.equal)

    other-without : (j : ℕ) → (j ≡ p → ⊥) → total_of a rows (suc j) ≡ total_of a without (suc j)
    unfolding total_of share
    other-without j o = omega (arith, sum-without (λ r. share r (suc j)) no_row rows k f.counted, other-share old f.equal j o)

    pub totals-without : (v : ℕ) → p < 5 → v + rate * old.value ≡ get_or (totals_of a rows) p 0 → set (totals_of a rows) p v ≡ totals_of a without
    unfolding totals_of
    totals-without v q h =
        set-total (λ j. total_of a rows (suc j)) (λ j. total_of a without (suc j)) p v q
        (omega (arith, h, own_without, get_or-to 5 (λ j. total_of a rows (suc j)) p 0 q)) other-without
