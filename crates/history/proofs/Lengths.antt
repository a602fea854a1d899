-- How many holdings an order leaves. Assumes nothing.
use mathlib.Core.Path.{◌≡◌, refl, ap}
use mathlib.Core.Bool.{false, ◌&&◌}
use mathlib.Core.List.{List, [], ◌∷◌}
use Prim.Native.Nat.{ℕ, suc, ◌≤◌}
use native.Mathlib.Nat.{le_refl}
use native.Mathlib.Omega.{arith}
use lib.Dec.{leb, eqb}
use lib.ListN.{length}
use borrow.Author.Tests.{eqb-false, leb-false}
use Rattle.lists.proofs.Tests.{by-test, either_way}
use Rattle.holding.specs.declared.Row.{Row}
use Rattle.daybook.specs.{Book.alike, Book.place_in, Book.added, Book.taken, Orders.joins}

module _ (t : Row) where
  added-most : (rows : List Row) → length (added rows t) ≤ suc (length rows)
  unfolding added
  added-most [] = le_refl 1
  added-most (r ∷ rows) =
      by-test (λ (l : List Row). length l ≤ suc (suc (length rows))) (alike r t)
      (λ s. omega arith)
      (λ s. omega (arith, added-most rows))

  -- as many as before where an equal one stands
  added-found : (rows : List Row) → (place_in rows t ≡ length rows → ⊥) → length (added rows t) ≡ length rows
  unfolding added place_in
  added-found [] n = absurd (n refl)
  added-found (r ∷ rows) n =
      either_way (alike r t)
      (λ s. rw s)
      (λ s. rw s (ap suc (added-found rows (λ e. n (rw s (ap suc e))))))

  -- none too many where a joining is refused for want of room
  pub added-fits : (room : ℕ) (rows : List Row) → (joins rows t && leb room (length rows)) ≡ false → length rows ≤ room → length (added rows t) ≤ room
  unfolding joins
  added-fits room rows full h =
      either_way (eqb (place_in rows t) (length rows))
      (λ j. omega (arith, added-most rows, leb-false room (length rows) (rw j at full)))
      (λ j. omega (arith, added-found rows (eqb-false (place_in rows t) (length rows) j)))

  pub taken-fits : (rows : List Row) → length (taken rows t) ≤ length rows
  unfolding taken
  taken-fits [] = le_refl 0
  taken-fits (r ∷ rows) =
      by-test (λ (l : List Row). length l ≤ suc (length rows)) (alike r t)
      (λ s. by-test (λ (l : List Row). length l ≤ suc (length rows)) (eqb r.value t.value) (λ z. omega arith) (λ z. omega arith))
      (λ s. omega (arith, taken-fits rows))
