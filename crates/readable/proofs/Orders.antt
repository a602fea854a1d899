-- No refusal of a file holds exactly when it is short, not empty, and its records come in order, none of them one too many. Assumes nothing.
use mathlib.Core.Path.{◌≡◌}
use mathlib.Core.Logic.{◌↔◌, ◌≢◌}
use mathlib.Core.List.{List, [], ◌∷◌}
use Prim.Native.Nat.{ℕ, zero, suc, ◌+◌, ◌≤◌, ◌<◌}
use native.Mathlib.Nat.{add-zero, zero-add}
use native.Mathlib.Omega.{arith}
use lib.ListN.{length, get_or, take}
use borrow.Author.Tests.{le-ltb, ltb-false, eq-eqb, ne_eqb, eqb-false}
use Rattle.lists.proofs.Firsts.{None, none-in_turn, in_turn-none}
use Rattle.lists.proofs.Tests.{same_or_not}
use Rattle.std.specs.Prelude.{Option}
use Rattle.layout.specs.Layout.{Meaning, good, refused}
use Rattle.reader.specs.File.{parsed_in, values_by, letter_of, letter_before, at_record, file_faults}
use Rattle.reader.proofs.Comes.{Comes, comes_exactly}

-- how many there are of a letter
abbrev pub many : ℕ → List Meaning → ℕ
many k parsed = length (values_by k parsed)

-- one more, of its letter
abbrev pub plus : (ℕ → ℕ) → Meaning → ℕ → ℕ
plus count m k = count k + many k (m ∷ [])

-- all that is parsed may come, in turn, after a record and so many
abbrev pub InOrder : Meaning → (ℕ → ℕ) → List Meaning → Type 0
InOrder last count [] = Unit {0}
InOrder last count (m ∷ ms) = Comes (letter_of last) count m × InOrder m (plus count m) ms

-- the first of what is parsed, and the rest
many-then : (k : ℕ) (m : Meaning) (ms : List Meaning) → many k (m ∷ ms) ≡ many k (m ∷ []) + many k ms
unfolding values_by
many-then k (good j vs) ms = same_or_not j k (λ e. rw (eq-eqb j k e) (omega arith)) (λ o. rw (ne_eqb j k o) (omega arith))
many-then k (refused number) ms = omega arith

-- the record at place n, after one, so many and those before it
abbrev ComesAt : Meaning → (ℕ → ℕ) → List Meaning → ℕ → Type 0
ComesAt last count parsed n = Comes (letter_of (get_or (last ∷ parsed) n (refused 0))) (λ k. count k + many k (take n parsed)) (get_or parsed n (refused 0))

module _ (last : Meaning) (count : ℕ → ℕ) (m : Meaning) (ms : List Meaning) where
  first : ComesAt last count (m ∷ ms) 0 ≡ Comes (letter_of last) count m
  unfolding values_by
  first = λ i. Comes (letter_of last) (λ k. add-zero (count k) i) m

  later : (n : ℕ) → ComesAt last count (m ∷ ms) (suc n) ≡ ComesAt m (plus count m) ms n
  later n =
      let counts : (k : ℕ) → count k + many k (m ∷ take n ms) ≡ plus count m k + many k (take n ms) = λ k. omega (arith, many-then k m (take n ms)) in
      λ i. Comes (letter_of (get_or (m ∷ ms) n (refused 0))) (λ k. counts k i) (get_or ms n (refused 0))

-- each place by itself, or all in turn
comes_order : (parsed : List Meaning) (last : Meaning) (count : ℕ → ℕ) → ((n : ℕ) → n < length parsed → ComesAt last count parsed n) → InOrder last count parsed
comes_order [] last count h = tt
comes_order (m ∷ ms) last count h = (rw (← first last count m ms) (h 0 (omega arith)), comes_order ms m _ (λ n q. rw (← later last count m ms n) (h (suc n) (omega arith))))

order_comes : (parsed : List Meaning) (last : Meaning) (count : ℕ → ℕ) → InOrder last count parsed → (n : ℕ) → n < length parsed → ComesAt last count parsed n
order_comes [] last count o n q = absurd (omega arith)
order_comes (m ∷ ms) last count o zero q = rw (first last count m ms) o.0
order_comes (m ∷ ms) last count o (suc n) q = rw (later last count m ms n) (order_comes ms m _ o.1 n (omega arith))

-- then there are not too many of a letter of which none comes after the most
module _ (k most : ℕ) (limit : (before : Option ℕ) (count : ℕ → ℕ) (vs : List ℕ) → Comes before count (good k vs) → count k ≢ most) where
  pub few : (parsed : List Meaning) (last : Meaning) (count : ℕ → ℕ) → InOrder last count parsed → count k ≤ most → count k + many k parsed ≤ most
  unfolding values_by
  few [] last count o l = omega arith
  few (m ∷ ms) last count o l = omega (arith, many-then k m ms, few ms m _ o.1 (by m o.0))
    where
      by : (m : Meaning) → Comes (letter_of last) count m → plus count m k ≤ most
      by (good j vs) c = same_or_not j k (λ e. rw (eq-eqb j k e) (omega (arith, limit (letter_of last) count vs (rw e at c)))) (λ o. rw (ne_eqb j k o) (omega arith))
      by (refused number) c = absurd c

-- the records of a file, where nothing came before
at-exactly : (parsed : List Meaning) (n : ℕ) → None (at_record parsed n) ↔ ComesAt (refused 0) (λ k. 0) parsed n
unfolding at_record
at-exactly parsed zero = simp zero-add (comes_exactly 0 (letter_before parsed 0) (λ k. length (values_by k (take 0 parsed))) (get_or parsed 0 (refused 0)))
at-exactly parsed (suc n) = simp zero-add (comes_exactly (suc n) (letter_before parsed (suc n)) (λ k. length (values_by k (take (suc n) parsed))) (get_or parsed (suc n) (refused 0)))

pub order-exactly : (text : List ℕ) → None (file_faults text) ↔ ((length text ≤ 65536) × (length text ≢ 0) × InOrder (refused 0) (λ k. 0) (parsed_in text))
unfolding file_faults
order-exactly text =
    let parsed = parsed_in text in (
      λ c. (
        ltb-false 65536 (length text) c.0,
        eqb-false (length text) 0 c.1.0,
        comes_order parsed _ _ (λ n q. (at-exactly parsed n).0 (in_turn-none (at_record parsed) (length parsed) c.1.1 n q)),
      ),
      λ h. (
        le-ltb 65536 (length text) h.0,
        (
          ne_eqb (length text) 0 h.1,
          none-in_turn (at_record parsed) (length parsed) (λ n q. (at-exactly parsed n).1 (order_comes parsed _ _ h.2 n q)),
        ),
      ),
    )
