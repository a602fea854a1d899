-- The form of a text and its test, and what a text is judged to be. Assumes nothing.
use mathlib.Core.Path.{◌≡◌, refl, sym, ◌∙◌}
use mathlib.Core.Logic.{◌≢◌, ◌⊎◌, inl, inr, ⊎_elim}
use mathlib.Core.Bool.{Bool, true, false, ◌||◌, and-eq-true_iff, or-true, false≢true}
use mathlib.Core.List.{List}
use Prim.Native.Nat.{ℕ}
use native.Mathlib.Omega.{arith}
use lib.Dec.{eqb}
use lib.ListN.{length, take, drop}
use borrow.Author.Tests.{eq-eqb, eqb-true, eqb-false}
use Rattle.lists.specs.Choice.{every}
use Rattle.lists.proofs.Entries.{each-by, each-every}
use Rattle.lists.proofs.Tests.{by-test}
use Rattle.lei.specs.Lei.{Digit, Capital, Form, IsLei, is_digit, is_capital, is_character, in_form, remainder, judged_of}
use Rattle.lei.specs.Identifiers.{Judging}
use Rattle.std.specs.Prelude.{Result, Ok, Err, ⊤}
use Rattle.lei.specs.declared.NotLei.{NotLei}
use Rattle.lei.specs.declared.NotLei.TheVariants.{Form as WrongForm, Remainder as WrongRemainder}
use Rattle.lei.proofs.Characters.{capital_range, digit_range, capital-test, digit-test}

character_test : (c : ℕ) → Capital c ⊎ Digit c → is_character c ≡ true
unfolding is_character
character_test c = ⊎_elim (λ d. rw (capital-test c d)) (λ d. rw (digit-test c d) (or-true (is_capital c)))

character_is : (c : ℕ) → is_character c ≡ true → Capital c ⊎ Digit c
unfolding is_character
character_is c = by (is_capital c) refl
  where
    by : (t : Bool) → is_capital c ≡ t → (t || is_digit c) ≡ true → Capital c ⊎ Digit c
    by true e h = inl (capital_range c e)
    by false e h = inr (digit_range c h)

module _ (t : List ℕ) where
  pub form-test : Form t → in_form t ≡ true
  unfolding in_form
  form-test f =
      rw (eq-eqb (length t) 20 f.long, each-every (λ c. Capital c ⊎ Digit c) is_character character_test (take 18 t) f.first)
      (each-every Digit is_digit digit-test (drop 18 t) f.last)

  pub form-is : in_form t ≡ true → Form t
  unfolding in_form
  form-is e =
      let (l, parts) = (and-eq-true_iff (eqb (length t) 20) _).0 e in
      let (a, b) = (and-eq-true_iff (every is_character (take 18 t)) (every is_digit (drop 18 t))).0 parts in
      record {
        long = eqb-true (length t) 20 l;
        first = each-by (λ c. Capital c ⊎ Digit c) is_character character_is (take 18 t) a;
        last = each-by Digit is_digit digit_range (drop 18 t) b;
      }

  no_form : in_form t ≡ false → Form t → ⊥
  no_form e f = false≢true (sym e ∙ form-test f)

  -- what a text is judged to be, by what it is
  judged_by : (P : Result ⊤ NotLei → Type 0) → (IsLei t → P (Ok tt)) → (Form t → remainder t ≢ 1 → P (Err WrongRemainder)) → ((Form t → ⊥) → P (Err WrongForm)) → P (judged_of t)
  unfolding judged_of
  judged_by P p q r =
      by-test P (in_form t)
      (λ e.
      by-test P (eqb (remainder t) 1)
      (λ s. p (record { form = form-is e; remains = eqb-true (remainder t) 1 s }))
      (λ s. q (form-is e) (eqb-false (remainder t) 1 s)))
      (λ e. r (no_form e))

  not_one : {A : Type 0} → ◌≡◌ {A = ℕ} 0 1 → A
  not_one z = absurd (omega arith)

  pub judging : Judging t
  judging =
      record {
        lei = (
          judged_by (λ (r : Result ⊤ NotLei). r ≡ Ok tt → IsLei t)
              (λ i e. i)
              (λ f n e. let z : ◌≡◌ {A = ℕ} 0 1 = cc in not_one z)
              (λ n e. let z : ◌≡◌ {A = ℕ} 0 1 = cc in not_one z),
          λ i. judged_by (λ (r : Result ⊤ NotLei). r ≡ Ok tt)
              (λ _. refl)
              (λ f n. absurd (n i.remains))
              (λ n. absurd (n i.form)),
        );
        wrong_form = (
          judged_by (λ (r : Result ⊤ NotLei). r ≡ Err WrongForm → Form t → ⊥)
              (λ i e. let z : ◌≡◌ {A = ℕ} 0 1 = cc in not_one z)
              (λ f n e. let z : ◌≡◌ {A = ℕ} 0 1 = cc in not_one z)
              (λ n e. n),
          λ n. judged_by (λ (r : Result ⊤ NotLei). r ≡ Err WrongForm)
              (λ i. absurd (n i.form))
              (λ f _. absurd (n f))
              (λ _. refl),
        );
        wrong_remainder = (
          judged_by (λ (r : Result ⊤ NotLei). r ≡ Err WrongRemainder → Form t × (remainder t ≢ 1))
              (λ i e. let z : ◌≡◌ {A = ℕ} 0 1 = cc in not_one z)
              (λ f n e. (f, n))
              (λ n e. let z : ◌≡◌ {A = ℕ} 0 1 = cc in not_one z),
          λ h. judged_by (λ (r : Result ⊤ NotLei). r ≡ Err WrongRemainder)
              (λ i. absurd (h.1 i.remains))
              (λ _ _. refl)
              (λ n. absurd (n h.0)),
        );
      }
