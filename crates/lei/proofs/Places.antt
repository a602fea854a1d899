-- The first place of an LEI in a list. Assumes nothing.
use mathlib.Core.Path.{◌≡◌, refl, sym, ap, ◌∙◌}
use mathlib.Core.Logic.{◌≢◌}
use mathlib.Core.Bool.{Bool, true, false, cond, and-eq-true_iff, false≢true}
use mathlib.Core.List.{List, [], ◌∷◌, ◌++◌}
use Prim.Native.Nat.{ℕ, zero, suc, ◌≤◌, ◌<◌}
use native.Mathlib.Numerals.{one-add}
use native.Mathlib.Omega.{arith}
use lib.Dec.{ltb, eqb}
use Rattle.std.specs.Prelude.{Option, Some, None}
use Rattle.std.specs.List.{position_or_len}
use Rattle.std.proofs.lemmas.List.Recursion.{is_position_or_len}
use Rattle.std.proofs.lemmas.Option.{cond_some, none-some}
use lib.ListN.{length, get_or}
use borrow.Author.Tests.{eq-eqb, eqb-true, lt-ltb, le-ltb, ltb-true, ltb-false}
use Rattle.lists.proofs.Tests.{by-test}
use Rattle.lei.specs.declared.Lei.{Lei}
use Rattle.lei.specs.Lei.{no_lei}
use Rattle.lei.specs.Numbering.{same_lei, first_place, place_among, enter}

pub same_true : (x y : Lei) → same_lei x y ≡ true → x ≡ y
unfolding same_lei
same_true x y e =
    let (a, b) = (and-eq-true_iff (eqb x.high y.high) (eqb x.low y.low)).0 e in
    λ i. record { high = eqb-true x.high y.high a i; low = eqb-true x.low y.low b i }

same_refl : (x : Lei) → same_lei x x ≡ true
unfolding same_lei
same_refl x = rw (eq-eqb x.high x.high refl, eq-eqb x.low x.low refl)

pub same_false : (x y : Lei) → same_lei x y ≡ false → x ≢ y
same_false x y e s = false≢true (sym e ∙ ap (same_lei x) (sym s) ∙ same_refl x)

-- two LEIs are one, or not
one-or-not : {P : Type 0} (x y : Lei) → (x ≡ y → P) → (x ≢ y → P) → P
one-or-not {P} x y p q = by (same_lei x y) refl
  where
    by : (t : Bool) → same_lei x y ≡ t → P
    by true e = p (same_true x y e)
    by false e = q (same_false x y e)

ne_same : (x y : Lei) → x ≢ y → same_lei x y ≡ false
ne_same x y n = by (same_lei x y) refl
  where
    by : (t : Bool) → same_lei x y ≡ t → same_lei x y ≡ false
    by true e = absurd (n (same_true x y e))
    by false e = e

module _ (x : Lei) where
  first-same : (y : Lei) (ys : List Lei) → x ≡ y → first_place x (y ∷ ys) ≡ 0
  unfolding first_place
  first-same y ys e = rw (← e, same_refl x)

  first-other : (y : Lei) (ys : List Lei) → x ≢ y → first_place x (y ∷ ys) ≡ suc (first_place x ys)
  unfolding first_place
  first-other y ys n = rw (ne_same x y n)

  -- in the list, the LEI stands there
  pub first-here : (ys : List Lei) → first_place x ys < length ys → get_or ys (first_place x ys) no_lei ≡ x
  unfolding first_place
  first-here [] h = absurd (omega arith)
  first-here (y ∷ ys) h =
      one-or-not x y
      (λ e. rw (first-same y ys e) (sym e))
      (λ n.
      let next = first-other y ys n in
      rw next (first-here ys (omega arith)))

  -- and at no place before
  pub first-least : (ys : List Lei) (k : ℕ) → k < length ys → get_or ys k no_lei ≡ x → first_place x ys ≤ k
  unfolding first_place
  first-least [] k h e = absurd (omega arith)
  first-least (y ∷ ys) zero h e = omega (arith, first-same y ys (sym e))
  first-least (y ∷ ys) (suc k) h e =
      by-test (λ (n : ℕ). n ≤ suc k) (same_lei x y) (λ _. omega arith) (λ _. omega (arith, first-least ys k (omega arith) e))

-- the place is at most behind the last
pub first-most : (x : Lei) (ys : List Lei) → first_place x ys ≤ length ys
unfolding first_place
first-most x [] = omega arith
first-most x (y ∷ ys) = by-test (λ (n : ℕ). n ≤ suc (length ys)) (same_lei x y) (λ _. omega arith) (λ _. omega (arith, first-most x ys))

-- one that is known changes nothing, another joins at the end
pub enter-known : (known : List Lei) (x : Lei) → first_place x known < length known → enter known x ≡ known
unfolding enter
enter-known known x h = rw (lt-ltb (first_place x known) (length known) h)

pub enter_new : (known : List Lei) (x : Lei) → length known ≤ first_place x known → enter known x ≡ known ++ (x ∷ [])
unfolding enter
enter_new known x h = rw (le-ltb (first_place x known) (length known) h)

-- the place of one that is known, and that of one that is not
pub among-known : (known : List Lei) (x : Lei) (n : ℕ) → place_among known x ≡ Some n → (n ≡ first_place x known) × (n < length known)
unfolding place_among
among-known known x n e =
    let (t, same) = cond_some _ _ _ e in
    (sym same, rw same at (ltb-true (first_place x known) (length known) t))

pub among_new : (known : List Lei) (x : Lei) → place_among known x ≡ None → first_place x known ≡ length known
unfolding place_among
among_new known x =
    by-test (λ (r : Option ℕ). r ≡ None → first_place x known ≡ length known) (ltb (first_place x known) (length known))
    (λ t e. absurd (none-some _ (sym e)))
    (λ t e. omega (arith, ltb-false (first_place x known) (length known) t, first-most x known))

-- as the library finds it
pub among_position : (known : List Lei) (x : Lei) → cond (ltb (position_or_len (same_lei x) known) (length known)) (Some (position_or_len (same_lei x) known)) None ≡ place_among known x
unfolding place_among first_place
among_position known x = rw (← is_position_or_len (first_place x) (same_lei x) refl (λ _ _. rw one-add) known)
