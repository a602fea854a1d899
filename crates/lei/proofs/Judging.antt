-- What each test on the way says of what a text is judged to be, and of its two numbers. Assumes nothing.
use mathlib.Core.Path.{◌≡◌, sym, ◌∙◌}
use mathlib.Core.Logic.{◌≢◌}
use mathlib.Core.Bool.{Bool, true, false, and-eq-true_iff}
use mathlib.Core.List.{List}
use Prim.Native.Nat.{ℕ, ◌-◌}
use native.Mathlib.Omega.{arith}
use lib.Dec.{eqb}
use lib.ListN.{length, take, drop, length-drop}
use lib.Seq.{take_all}
use borrow.Author.Tests.{eq-eqb, ne_eqb, eqb-true}
use Rattle.lists.specs.Choice.{every}
use Rattle.lei.specs.Lei.{is_digit, is_character, in_form, remainder, half_of, make_lei, no_lei, lei_of, judged_of}
use Rattle.std.specs.Prelude.{Ok, Err}
use Rattle.lei.specs.declared.NotLei.TheVariants.{Form as WrongForm, Remainder as WrongRemainder}

module _ (t : List ℕ) where
  -- a part that goes to the end
  to_end : (n : ℕ) → take (length t - n) (drop n t) ≡ drop n t
  to_end n = take_all (length t - n) (drop n t) (omega (arith, length-drop n t))

  pub form-length : length t ≢ 20 → false ≡ in_form t
  unfolding in_form
  form-length n = rw (ne_eqb (length t) 20 n)

  pub form-first : length t ≡ 20 → every is_character (take 18 t) ≡ false → false ≡ in_form t
  unfolding in_form
  form-first l e = rw (eq-eqb (length t) 20 l, e)

  pub form-last : length t ≡ 20 → every is_character (take 18 t) ≡ true → (r : Bool) → r ≡ every is_digit (drop 18 t) → r ≡ in_form t
  unfolding in_form
  form-last l e r q = rw (eq-eqb (length t) 20 l, e) q

  pub form-long : in_form t ≡ true → length t ≡ 20
  unfolding in_form
  form-long e = eqb-true (length t) 20 ((and-eq-true_iff (eqb (length t) 20) _).0 e).0

  pub judged-form : (f : Bool) → f ≡ in_form t → f ≡ false → Err WrongForm ≡ judged_of t
  unfolding judged_of
  judged-form f e n = rw (← e, n)

  -- the form was found
  module _ (f : Bool) (found : f ≡ in_form t) (n : f ≡ true) (r : ℕ) (q : r ≡ remainder t) where
    formed : in_form t ≡ true
    formed = sym found ∙ n

    pub judged-remainder : r ≢ 1 → Err WrongRemainder ≡ judged_of t
    unfolding judged_of
    judged-remainder o = rw (formed, ne_eqb (remainder t) 1 (λ s. o (q ∙ s)))

    pub judged-lei : r ≡ 1 → Ok tt ≡ judged_of t
    unfolding judged_of
    judged-lei s = rw (formed, eq-eqb (remainder t) 1 (sym q ∙ s))

  -- the two numbers: of ten characters and ten, or none
  pub lei-none : length t ≢ 20 → lei_of t ≡ no_lei
  unfolding lei_of
  lei-none n = rw (ne_eqb (length t) 20 n)

  pub lei-zeros : length t ≢ 20 → no_lei ≡ lei_of t
  lei-zeros n = sym (lei-none n)

  pub lei_halves : length t ≡ 20 → lei_of t ≡ make_lei (half_of (take 10 t)) (half_of (drop 10 t))
  unfolding lei_of
  lei_halves l = rw (eq-eqb (length t) 20 l)

  pub lei_is : (high low : ℕ) → length t ≡ 20 → high ≡ half_of (take 10 t) → low ≡ half_of (take (length t - 10) (drop 10 t)) → make_lei high low ≡ lei_of t
  lei_is high low l e q = sym (lei_halves l ∙ rw (e, q, to_end 10))

-- what `judge` owes
pub ruleset judges = (judged-form, judged-remainder, judged-lei)

-- what `lei_of` owes
pub ruleset takes = (lei-zeros, lei_is)
