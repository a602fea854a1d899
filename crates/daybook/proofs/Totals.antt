-- The five totals are the ones that are worked out afresh, and no others are. Assumes nothing.
use mathlib.Core.Path.{◌≡◌, refl, sym, ◌∙◌}
use mathlib.Core.List.{List, [], ◌∷◌}
use Prim.Native.Nat.{ℕ, suc, ◌+◌, ◌<◌}
use native.Mathlib.Omega.{arith}
use lib.Seq.{ext_get_or}
use Rattle.lists.specs.Tables.{sum_of}
use Rattle.lists.proofs.Tests.{same_or_not}
use Rattle.lists.proofs.Tables.{length_to, get_or-to}
use Rattle.lists.proofs.Sums.{only_same, only-other}
use Rattle.holding.specs.declared.{Account.Account, Row.Row}
use Rattle.rates.specs.Rate.{period_of}
use Rattle.daybook.specs.Book.{margin_of, total_of, totals_of}
use Rattle.daybook.specs.Bookings.{AddsUp, none, in_period, in_another, Afresh}

module _ (a : Account) where
  -- a holding counts in its own period
  own : (r : Row) (rs : List Row) (period : ℕ) → period_of a r.maturity ≡ period → total_of a (r ∷ rs) period ≡ margin_of a r + total_of a rs period
  unfolding total_of sum_of
  own r rs period e = rw (← e, only_same)

  -- and in no other
  other : (r : Row) (rs : List Row) (period : ℕ) → (period_of a r.maturity ≡ period → ⊥) → total_of a (r ∷ rs) period ≡ total_of a rs period
  unfolding total_of sum_of
  other r rs period n = rw (only-other (period_of a r.maturity) (margin_of a r) period n) (omega arith)

  adds-up : (rows : List Row) (period : ℕ) → AddsUp a period rows (total_of a rows period)
  unfolding margin_of
  adds-up [] period = unfold total_of sum_of in none
  adds-up (r ∷ rs) period =
      same_or_not (period_of a r.maturity) period
      (λ e. rw (own r rs period e) (in_period e (adds-up rs period)))
      (λ n. rw (other r rs period n) (in_another n (adds-up rs period)))

  adds-up-only : (period : ℕ) (rows : List Row) (units : ℕ) → AddsUp a period rows units → units ≡ total_of a rows period
  unfolding margin_of
  adds-up-only period rows units none = unfold total_of sum_of in refl
  adds-up-only period rows units (in_period {r = r} {rows = rs} {units = u} e s) = omega (arith, own r rs period e, adds-up-only period rs u s)
  adds-up-only period rows units (in_another {r = r} {rows = rs} {units = u} n s) = adds-up-only period rs u s ∙ sym (other r rs period n)

  pub totals_afresh : (rows : List Row) → Afresh a rows (totals_of a rows)
  unfolding totals_of
  totals_afresh rows = record {
    five = length_to 5 (λ k. total_of a rows (suc k));
    each_period = λ k h. rw (get_or-to 5 (λ k. total_of a rows (suc k)) k 0 h) (adds-up rows (suc k));
  }

  pub afresh_totals : (rows : List Row) (totals : List ℕ) → Afresh a rows totals → totals ≡ totals_of a rows
  afresh_totals rows totals h =
      let g = totals_afresh rows in
      ext_get_or 0 totals (totals_of a rows) (h.five ∙ sym g.five)
      (λ k q. let below : k < 5 = omega (arith, h.five) in
      adds-up-only (suc k) rows _ (h.each_period k below) ∙ sym (adds-up-only (suc k) rows _ (g.each_period k below)))
