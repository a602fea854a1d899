-- What a trade does to a list of holdings, by the first of them that is equal to it. Assumes nothing.
use mathlib.Core.Path.{◌≡◌, refl, ap}
use mathlib.Core.List.{List, [], ◌∷◌, ◌++◌}
use Prim.Native.Nat.{ℕ, zero, suc, ◌+◌, ◌≤◌, ◌<◌}
use native.Mathlib.Omega.{arith}
use lib.ListN.{length, get_or, take, drop, set}
use borrow.Author.Tests.{eq-eqb, ne_eqb}
use Rattle.holding.specs.declared.Row.{Row}
use Rattle.proposal.specs.Submission.{no_row}
use Rattle.daybook.specs.Book.{place_in, held_in, added, taken}
use Rattle.daybook.specs.Bookings.{Equal}
use Rattle.daybook.proofs.Descriptions.{equal-alike, not_alike, valued_row}

module _ (t : Row) where
  -- the first of the rows that is equal to the trade, or none is
  pub record First (rows : List Row) (k : ℕ) : Type 0 where
    pub counted : k < length rows
    pub equal : Equal (get_or rows k no_row) t
    pub first : (j : ℕ) → j < k → Equal (get_or rows j no_row) t → ⊥

  abbrev pub Nowhere : List Row → Type 0
  Nowhere rows = (k : ℕ) → k < length rows → Equal (get_or rows k no_row) t → ⊥

  -- past a row that is not equal
  later : (r : Row) (rs : List Row) (k : ℕ) → First (r ∷ rs) (suc k) → First rs k
  later r rs k f = record { counted = omega (arith, f.counted); equal = f.equal; first = λ j h. f.first (suc j) (omega arith) }

  unequal : (r : Row) (rs : List Row) (k : ℕ) → First (r ∷ rs) (suc k) → Equal r t → ⊥
  unequal r rs k f = f.first 0 (omega arith)

  nowhere_else : (r : Row) (rs : List Row) → Nowhere (r ∷ rs) → Nowhere rs
  nowhere_else r rs n k h = n (suc k) (omega arith)

  pub place-first : (rows : List Row) (k : ℕ) → First rows k → place_in rows t ≡ k
  unfolding place_in
  place-first [] k f = absurd (omega (arith, f.counted))
  place-first (r ∷ rs) zero f = rw (equal-alike r t f.equal)
  place-first (r ∷ rs) (suc k) f = rw (not_alike r t (unequal r rs k f)) (ap suc (place-first rs k (later r rs k f)))

  pub held_first : (rows : List Row) (k : ℕ) → First rows k → held_in rows t ≡ (get_or rows k no_row).value
  unfolding held_in
  held_first [] k f = absurd (omega (arith, f.counted))
  held_first (r ∷ rs) zero f = rw (equal-alike r t f.equal)
  held_first (r ∷ rs) (suc k) f = rw (not_alike r t (unequal r rs k f)) (held_first rs k (later r rs k f))

  -- a row of the trade's description takes the place of the first
  module _ (n : Row) (e : Equal n t) where
    pub added_first : (rows : List Row) (k : ℕ) → First rows k → n.value ≡ (get_or rows k no_row).value + t.value → added rows t ≡ set rows k n
    unfolding added
    added_first [] k f v = absurd (omega (arith, f.counted))
    added_first (r ∷ rs) zero f v = rw (equal-alike r t f.equal) (ap (◌∷ rs) (valued_row n t r f.equal e _ v))
    added_first (r ∷ rs) (suc k) f v = rw (not_alike r t (unequal r rs k f)) (ap (r ∷◌) (added_first rs k (later r rs k f) v))

    pub taken_part : (rows : List Row) (k : ℕ) → First rows k → 1 ≤ n.value → n.value + t.value ≡ (get_or rows k no_row).value → taken rows t ≡ set rows k n
    unfolding taken
    taken_part [] k f p v = absurd (omega (arith, f.counted))
    taken_part (r ∷ rs) zero f p v =
        rw (equal-alike r t f.equal, ne_eqb r.value t.value (λ w. omega arith)) (ap (◌∷ rs) (valued_row n t r f.equal e _ (omega arith)))
    taken_part (r ∷ rs) (suc k) f p v = rw (not_alike r t (unequal r rs k f)) (ap (r ∷◌) (taken_part rs k (later r rs k f) p v))

  -- the first leaves
  pub taken_whole : (rows : List Row) (k : ℕ) → First rows k → t.value ≡ (get_or rows k no_row).value → taken rows t ≡ take k rows ++ drop (suc k) rows
  unfolding taken
  taken_whole [] k f v = absurd (omega (arith, f.counted))
  taken_whole (r ∷ rs) zero f v = rw (equal-alike r t f.equal, eq-eqb r.value t.value (omega arith))
  taken_whole (r ∷ rs) (suc k) f v = rw (not_alike r t (unequal r rs k f)) (ap (r ∷◌) (taken_whole rs k (later r rs k f) v))

  -- none is equal
  pub place_none : (rows : List Row) → Nowhere rows → place_in rows t ≡ length rows
  unfolding place_in
  place_none [] n = refl
  place_none (r ∷ rs) n = rw (not_alike r t (n 0 (omega arith))) (ap suc (place_none rs (nowhere_else r rs n)))

  pub held_none : (rows : List Row) → Nowhere rows → held_in rows t ≡ 0
  unfolding held_in
  held_none [] n = refl
  held_none (r ∷ rs) n = rw (not_alike r t (n 0 (omega arith))) (held_none rs (nowhere_else r rs n))

  pub added_none : (rows : List Row) → Nowhere rows → added rows t ≡ rows ++ (t ∷ [])
  unfolding added
  added_none [] n = refl
  added_none (r ∷ rs) n = rw (not_alike r t (n 0 (omega arith))) (ap (r ∷◌) (added_none rs (nowhere_else r rs n)))

  pub taken_none : (rows : List Row) → Nowhere rows → taken rows t ≡ rows
  unfolding taken
  taken_none [] n = refl
  taken_none (r ∷ rs) n = rw (not_alike r t (n 0 (omega arith))) (ap (r ∷◌) (taken_none rs (nowhere_else r rs n)))
