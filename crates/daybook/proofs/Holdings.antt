-- The holdings are the first entries of the list, and the first of them that is equal to a trade is the first such entry. Assumes nothing.
use mathlib.Core.Path.{◌≡◌, ap, ◌∙◌}
use Prim.Native.Nat.{ℕ, ◌≤◌, ◌<◌}
use native.Mathlib.Omega.{arith}
use lib.ListN.{length, get_or}
use lib.Seq.{length-take-le, get_or-take}
use Rattle.holding.specs.declared.Row.{Row}
use Rattle.proposal.specs.Submission.{no_row}
use Rattle.daybook.specs.Book.{place_in, held_in, Book, holdings_in}
use Rattle.daybook.specs.Bookings.{entry_at, FirstEqual, NoneEqual}
use Rattle.daybook.proofs.Trades.{First, Nowhere, place-first, held_first, place_none, held_none}

module _ (b : Book) (h : b.day.count ≤ length b.list) where
  pub length-holdings : length (holdings_in b) ≡ b.day.count
  unfolding holdings_in
  length-holdings = length-take-le b.day.count b.list h

  pub holding_at_lem : (k : ℕ) → k < b.day.count → get_or (holdings_in b) k no_row ≡ entry_at b k
  unfolding holdings_in
  holding_at_lem k q = get_or-take b.day.count b.list k no_row q

  pub value-at : (k : ℕ) → k < b.day.count → (get_or (holdings_in b) k no_row).value ≡ (entry_at b k).value
  value-at k q = ap (λ (r : Row). r.value) (holding_at_lem k q)

  pub first-holding : (t : Row) (k : ℕ) → FirstEqual b t k → First t (holdings_in b) k
  first-holding t k f =
      let q : k < b.day.count = f.counted in
      record {
        counted = omega (arith, length-holdings);
        equal = rw (holding_at_lem k q) f.matches;
        first = λ j i e. f.first j i (rw (holding_at_lem j (omega arith)) at e);
      }

  pub place_at : (t : Row) (k : ℕ) → FirstEqual b t k → place_in (holdings_in b) t ≡ k
  place_at t k f = place-first t (holdings_in b) k (first-holding t k f)

  pub held_at : (t : Row) (k : ℕ) → FirstEqual b t k → held_in (holdings_in b) t ≡ (entry_at b k).value
  held_at t k f = held_first t (holdings_in b) k (first-holding t k f) ∙ value-at k f.counted

  pub no_holding : (t : Row) → NoneEqual b t → Nowhere t (holdings_in b)
  no_holding t n k q e =
      let below : k < b.day.count = omega (arith, length-holdings) in
      n k below (rw (holding_at_lem k below) at e)

  pub no_place : (t : Row) → NoneEqual b t → place_in (holdings_in b) t ≡ b.day.count
  no_place t n = place_none t (holdings_in b) (no_holding t n) ∙ length-holdings

  pub nothing_held : (t : Row) → NoneEqual b t → held_in (holdings_in b) t ≡ 0
  nothing_held t n = held_none t (holdings_in b) (no_holding t n)
