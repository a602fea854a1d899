-- A text is read as a number exactly when it is the number's numeral. Assumes nothing.
use mathlib.Core.Path.{◌≡◌, refl, sym, ap, ◌∙◌}
use mathlib.Core.Logic.{◌↔◌}
use mathlib.Core.Bool.{Bool, true, ◌&&◌, and-eq-true_iff}
use mathlib.Core.List.{List}
use Prim.Native.Nat.{ℕ, ◌^◌, ◌≤◌, ◌<◌}
use native.Mathlib.Nat.{pow-le-pow_right}
use native.Mathlib.Omega.{arith}
use lib.Dec.{leb}
use lib.ListN.{length}
use borrow.Author.Tests.{le-leb, leb-true}
use Rattle.lists.specs.Choice.{same}
use Rattle.lists.proofs.Entries.{same_true, same_refl}
use Rattle.lists.proofs.Tests.{by-test}
use Rattle.numerals.specs.Numerals.{digits, value_from, numeral_of}
use Rattle.std.specs.Prelude.{Option, Some, None}
use Rattle.numerals.proofs.Digits.{digits_below, value-digits}

-- the numeral of a number, within its length, is read as the number
pub numeral_of_lem : (most v : ℕ) (text : List ℕ) → text ≡ digits v → length text ≤ most → Some v ≡ numeral_of most text
unfolding numeral_of
numeral_of_lem most v text e l =
    let fits : length (digits v) ≤ most = rw (← e) l in
    rw (e, value-digits v, le-leb (length (digits v)) most fits, same_refl (digits v))

module _ (most : ℕ) (text : List ℕ) where
  -- the text is the numeral of its value
  abbrev test : Bool
  test = leb (length text) most && same text (digits (value_from 0 text))

  passed : test ≡ true → (text ≡ digits (value_from 0 text)) × (length text ≤ most)
  passed e =
      let (l, s) = (and-eq-true_iff (leb (length text) most) (same text (digits (value_from 0 text)))).0 e in
      (same_true text (digits (value_from 0 text)) s, leb-true (length text) most l)

  -- a text that is no numeral of that length is not read
  pub not_numeral : ((v : ℕ) → text ≡ digits v → length text ≤ most → ⊥) → None ≡ numeral_of most text
  unfolding numeral_of
  not_numeral h = by-test (λ (n : Option ℕ). None ≡ n) test (λ e. absurd (h (value_from 0 text) (passed e).0 (passed e).1)) (λ e. refl)

  -- what is read as a number is its numeral
  of_numeral : (v : ℕ) → numeral_of most text ≡ Some v → (text ≡ digits v) × (length text ≤ most)
  unfolding numeral_of
  of_numeral v =
      by-test (λ (n : Option ℕ). n ≡ Some v → (text ≡ digits v) × (length text ≤ most)) test
      (λ e r.
      let value : value_from 0 text ≡ v = cc in
      ((passed e).0 ∙ ap digits value, (passed e).1))
      (λ e r.
      let none : ◌≡◌ {A = ℕ} 0 1 = cc in
      absurd (omega arith))

  pub numeral_exactly : (v : ℕ) → (numeral_of most text ≡ Some v) ↔ ((text ≡ digits v) × (length text ≤ most))
  numeral_exactly v = (of_numeral v, λ h. sym (numeral_of_lem most v text h.0 h.1))

  -- a number that was read is below 10 ^ most
  pub numeral_below : (v : ℕ) → numeral_of most text ≡ Some v → v < 10 ^ most
  numeral_below v r =
      let (e, l) = of_numeral v r in
      let fits : length (digits v) ≤ most = rw (← e) l in
      let p : 10 ^ length (digits v) ≤ 10 ^ most = pow-le-pow_right (omega arith) fits in
      omega (arith, digits_below v)
