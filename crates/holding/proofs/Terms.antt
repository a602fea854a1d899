-- A maturity is in its term exactly when it is a date and neither test of 7 holds; the refusal of its term otherwise. Assumes nothing.
use mathlib.Core.Path.{◌≡◌}
use mathlib.Core.Bool.{true, false, or-true}
use mathlib.Core.Logic.{◌⊎◌, inl, inr}
use Prim.Native.Nat.{ℕ, ◌≤◌, ◌<◌}
use lib.Dec.{leb, ltb}
use borrow.Author.Tests.{le-leb, lt-leb, le-ltb, lt-ltb, leb-false, ltb-false}
use Rattle.lists.specs.Choice.{first_of}
use Rattle.lists.proofs.Tests.{neither}
use Rattle.dates.specs.Calendar.{is_date, anniversary}
use Rattle.holding.specs.Holding.{out_of_term, InTerm, term_faults}
use Rattle.holding.specs.declared.Row.{Row}
use Rattle.holding.specs.declared.Account.{Account}

module _ (a : Account) (m : ℕ) where
  pub not-out : is_date m ≡ true → out_of_term a m ≡ false → InTerm a m
  unfolding out_of_term
  not-out d e =
      let (early, late) = neither (leb m a.date) (ltb (anniversary a.date 100) m) e in
      record { date = d; after = leb-false m a.date early; until = ltb-false (anniversary a.date 100) m late }

  pub in_term : InTerm a m → out_of_term a m ≡ false
  unfolding out_of_term
  in_term t = rw (lt-leb m a.date t.after, le-ltb (anniversary a.date 100) m t.until)

  pub out : (m ≤ a.date) ⊎ (anniversary a.date 100 < m) → out_of_term a m ≡ true
  unfolding out_of_term
  out (inl h) = rw (le-leb m a.date h)
  out (inr h) = rw (lt-ltb (anniversary a.date 100) m h) (or-true (leb m a.date))

module _ (a : Account) (r : Row) where
  pub unreal-term : is_date r.maturity ≡ false → first_of (term_faults a r) 0 ≡ 24
  unfolding term_faults first_of
  unreal-term d = rw d

  pub out-term : is_date r.maturity ≡ true → (r.maturity ≤ a.date) ⊎ (anniversary a.date 100 < r.maturity) → first_of (term_faults a r) 0 ≡ 7
  unfolding term_faults first_of
  out-term d h = rw (d, out a r.maturity h)

  pub good-term : InTerm a r.maturity → first_of (term_faults a r) 0 ≡ 0
  unfolding term_faults first_of
  good-term t = rw (t.date, in_term a r.maturity t)
