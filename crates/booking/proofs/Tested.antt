-- Tests that code makes entry by entry, as the definitions make them of lists; and what refuses an added value. Assumes nothing.
use mathlib.Core.Path.{◌≡◌, refl}
use mathlib.Core.Bool.{Bool, true, false, ◌&&◌}
use Prim.Native.Nat.{ℕ, ◌+◌, ◌≤◌, ◌<◌}
use native.Mathlib.Omega.{arith}
use lib.Dec.{eqb}
use borrow.Author.Tests.{lt-leb, le-leb, leb-false, not-false}
use Rattle.lists.specs.Choice.{same, first_of, within}
use Rattle.lists.proofs.Firsts.{None, Listed, none_first}
use Rattle.lists.proofs.Tests.{within_true, true_within, none_out, above-out, neither}
use Rattle.holding.specs.declared.Row.{Row}
use Rattle.daybook.specs.Book.{description_of, alike}
use Rattle.daybook.specs.Orders.{sum_faults}
use Rattle.booking.specs.Settling.{adding_faults}

five : (a b c d e : Bool) → ((((a && b) && c) && d) && e) ≡ (a && (b && (c && (d && (e && true)))))
five true true true true true = refl
five true true true true false = refl
five true true true false e = refl
five true true false d e = refl
five true false c d e = refl
five false b c d e = refl

six : (a b c d e f : Bool) → (((((a && b) && c) && d) && e) && f) ≡ (a && (b && (c && (d && (e && (f && true))))))
six true b c d e f = five b c d e f
six false b c d e f = refl

-- rows, by the six numbers of a description
module _ (r t : Row) where
  pub alike_six : (((((eqb r.side t.side && eqb r.kind t.kind) && eqb r.issuer t.issuer) && eqb r.maturity t.maturity)
      && eqb r.currency t.currency) && eqb r.rating t.rating) ≡ alike r t
  unfolding alike same description_of
  alike_six =
      six (eqb r.side t.side) (eqb r.kind t.kind) (eqb r.issuer t.issuer) (eqb r.maturity t.maturity)
      (eqb r.currency t.currency) (eqb r.rating t.rating)

-- what refuses an added value
module _ (held value : ℕ) (joins : Bool) (count room : ℕ) where
  abbrev number : ℕ
  number = first_of (adding_faults held value joins count room) 0

  pub adds_none : value < 1 → 8 ≡ number
  unfolding adding_faults sum_faults first_of
  adds_none h = rw (none_out 100000000000 value h)

  pub adds_much : 100000000000 < value → 8 ≡ number
  unfolding adding_faults sum_faults first_of
  adds_much h = rw (above-out 100000000000 value h)

  module _ (low : 1 ≤ value) (high : value ≤ 100000000000) where
    pub adds-above : 100000000000 < held + value → 8 ≡ number
    unfolding adding_faults sum_faults first_of
    adds-above h = rw (true_within 1 100000000000 value low high, above-out 100000000000 (held + value) h)

    module _ (sum : held + value ≤ 100000000000) where
      within-sum : within 1 100000000000 (held + value) ≡ true
      within-sum = true_within 1 100000000000 (held + value) (omega arith) sum

      pub adds-there : joins ≡ false → 0 ≡ number
      unfolding adding_faults sum_faults first_of
      adds-there e = rw (true_within 1 100000000000 value low high, within-sum, e)

      pub adds_full : joins ≡ true → 256 ≤ count → 3 ≡ number
      unfolding adding_faults sum_faults first_of
      adds_full e h = rw (true_within 1 100000000000 value low high, within-sum, e, le-leb 256 count h)

      pub adds-no_place : joins ≡ true → count < 256 → room ≤ count → 2 ≡ number
      unfolding adding_faults sum_faults first_of
      adds-no_place e h k = rw (true_within 1 100000000000 value low high, within-sum, e, lt-leb 256 count h, le-leb room count k)

      pub adds-place : joins ≡ true → count < 256 → count < room → 0 ≡ number
      unfolding adding_faults sum_faults first_of
      adds-place e h k = rw (true_within 1 100000000000 value low high, within-sum, e, lt-leb 256 count h, lt-leb room count k)

  pub adds-listed : Listed (adding_faults held value joins count room)
  unfolding adding_faults sum_faults
  adds-listed = (omega arith, (omega arith, (omega arith, tt)))

  -- and what is known where nothing does
  module _ (e : number ≡ 0) where
    unrefused : None (adding_faults held value joins count room)
    unrefused = (none_first (λ (n : ℕ). n) (adding_faults held value joins count room) 0 adds-listed e).0

    both_within : (within 1 100000000000 value ≡ true) × (within 1 100000000000 (held + value) ≡ true)
    unfolding adding_faults sum_faults
    both_within =
        let (a, b) = neither _ _ unrefused.0 in
        (not-false _ a, not-false _ b)

    pub adds-value : value ≤ 100000000000
    adds-value = (within_true 1 100000000000 value both_within.0).1

    pub adds-sum : held + value ≤ 100000000000
    adds-sum = (within_true 1 100000000000 (held + value) both_within.1).1

    module _ (j : joins ≡ true) where
      pub adds-room : count < room
      unfolding adding_faults sum_faults
      adds-room = leb-false room count (rw j at unrefused.1.1.0)
