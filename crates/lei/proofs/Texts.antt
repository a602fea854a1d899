-- An LEI's two numbers write its text, so that two texts in form are one exactly when their numbers are. Assumes nothing.
use mathlib.Core.Path.{◌≡◌, refl, sym, ap, ◌∙◌}
use mathlib.Core.Logic.{◌↔◌}
use mathlib.Core.Bool.{Bool, true, false, ◌||◌, and-eq-true_iff, or-true}
use mathlib.Core.List.{List, [], ◌∷◌, ◌++◌}
use Prim.Native.Nat.{ℕ, zero, suc, ◌+◌, ◌-◌, ◌*◌, ◌/◌, ◌%◌, ◌^◌, ◌≤◌, ◌<◌}
use native.Mathlib.Nat.{pow-suc}
use native.Mathlib.Numerals.{add-one}
use native.Mathlib.Omega.{arith}
use lib.Dec.{ltb, eqb}
use lib.ListN.{length, get_or, take, drop, length-drop, take-append-drop}
use lib.Seq.{take-suc, take_all, take_at, drop_at, length-take-le}
use borrow.Author.Tests.{lt-ltb, le-ltb, ltb-true, ltb-false}
use Rattle.lists.specs.Choice.{every}
use Rattle.lists.specs.Tables.{Each}
use Rattle.lists.proofs.Entries.{each-by, each_at, each_append, each-parts}
use Rattle.lists.proofs.Tests.{by-test}
use Rattle.lei.specs.Lei.{is_capital, is_digit, is_character, in_form, value_of, number, half_of, make_lei, lei_of, character_of, characters, lei_text}
use Rattle.lei.proofs.Characters.{capital_range, capital-test, low_no_capital, digit_range, value-capital, value-other}
use Rattle.lei.proofs.Judging.{form-long, lei_halves}
use Rattle.lei.proofs.Halves.{half_more, half_snoc}
use Rattle.lei.proofs.Written.{length-characters, length-lei}

abbrev pub IsCharacter : ℕ → Type 0
IsCharacter c = is_character c ≡ true

-- a character is that of its number, which is below 36
pub character_value : (c : ℕ) → IsCharacter c → (character_of (value_of c) ≡ c) × (value_of c < 36)
unfolding is_character character_of
character_value c = by (is_capital c) refl
  where
    by : (t : Bool) → is_capital c ≡ t → (t || is_digit c) ≡ true → (character_of (value_of c) ≡ c) × (value_of c < 36)
    by true e h =
        let (low, high) = capital_range c e in
        let two : 10 ≤ c - 55 = omega arith in
        rw (← value-capital c e, le-ltb (c - 55) 10 two) (omega arith, omega arith)
    by false e h =
        let (low, high) = digit_range c h in
        let one : c - 48 < 10 = omega arith in
        rw (← value-other c e, lt-ltb (c - 48) 10 one) (omega arith, omega arith)

-- and a number below 36 that of its character
value_character : (v : ℕ) → v < 36 → value_of (character_of v) ≡ v
unfolding character_of
value_character v h =
    by-test (λ (c : ℕ). value_of c ≡ v) (ltb v 10)
    (λ e. sym (value-other (48 + v) (low_no_capital (48 + v) (omega (arith, ltb-true)))) ∙ omega arith)
    (λ e. sym (value-capital (55 + v) (capital-test (55 + v) (omega (arith, ltb-false), omega arith))) ∙ omega arith)

-- one digit more behind a number
characters-more : (k n d : ℕ) → d < 36 → characters (suc k) (36 * n + d) ≡ characters k n ++ (character_of d ∷ [])
unfolding characters
characters-more k n d h =
    let q : (36 * n + d) / 36 ≡ n = omega arith in
    let r : (36 * n + d) % 36 ≡ d = omega arith in
    rw (q, r)

-- the number of characters writes them
module _ (t : List ℕ) (each : Each IsCharacter t) where
  write-first : (k : ℕ) → k ≤ length t → characters k (half_of (take k t)) ≡ take k t
  unfolding characters
  write-first zero h = refl
  write-first (suc k) h =
      let (back, small) = character_value (get_or t k 0) (each_at IsCharacter 0 t each k (omega arith)) in
      ap (characters (suc k)) (ap (λ (n : ℕ). half_of (take n t)) (sym (add-one k)) ∙ half_more t k (omega arith))
      ∙ characters-more k (half_of (take k t)) (value_of (get_or t k 0)) small
      ∙ rw (write-first k (omega arith), back) (sym (take-suc t k 0 (omega arith)))

  write-all : (k : ℕ) → length t ≡ k → characters k (half_of t) ≡ t
  write-all k e =
      let whole = take_all k t (omega arith) in
      ap (λ (u : List ℕ). characters k (half_of u)) (sym whole) ∙ write-first k (omega arith) ∙ whole

  -- and is small
  value-first : (k : ℕ) → k ≤ length t → half_of (take k t) < 36 ^ k
  unfolding number half_of
  value-first zero h = omega arith
  value-first (suc k) h =
      let (back, small) = character_value (get_or t k 0) (each_at IsCharacter 0 t each k (omega arith)) in
      rw (← add-one k, half_more t k (omega arith), add-one k, pow-suc 36 k) (omega (arith, value-first k (omega arith)))

  value-all : (k : ℕ) → length t ≡ k → half_of t < 36 ^ k
  value-all k e = rw (take_all k t (omega arith)) at (value-first k (omega arith))

digit_character : (c : ℕ) → is_digit c ≡ true → IsCharacter c
unfolding is_character
digit_character c e = rw e (or-true (is_capital c))

-- a text in form
module _ (t : List ℕ) (form : in_form t ≡ true) where
  form-each : Each IsCharacter t
  unfolding in_form
  form-each =
      let (_, parts) = (and-eq-true_iff (eqb (length t) 20) _).0 form in
      let (a, b) = (and-eq-true_iff (every is_character (take 18 t)) (every is_digit (drop 18 t))).0 parts in
      let first = each-by IsCharacter is_character (λ c e. e) (take 18 t) a in
      let last = each-by IsCharacter is_digit digit_character (drop 18 t) b in
      rw take-append-drop at (each_append IsCharacter (take 18 t) (drop 18 t) first last)

  halves : Each IsCharacter (take 10 t) × Each IsCharacter (drop 10 t)
  halves = each-parts IsCharacter (take 10 t) (drop 10 t) (rw take-append-drop form-each)

  first-long : length (take 10 t) ≡ 10
  first-long = length-take-le 10 t (omega (arith, form-long t form))

  last-long : length (drop 10 t) ≡ 10
  last-long = length-drop 10 t ∙ omega (arith, form-long t form)

  -- its numbers write it
  pub text-back : lei_text (lei_of t) ≡ t
  unfolding lei_text
  text-back = rw (lei_halves t (form-long t form), write-all (take 10 t) halves.0 10 first-long, write-all (drop 10 t) halves.1 10 last-long) (take-append-drop 10 t)

  -- and are small
  pub lei-small : ((lei_of t).high < 36 ^ 10) × ((lei_of t).low < 36 ^ 10)
  lei-small = rw (lei_halves t (form-long t form)) (value-all (take 10 t) halves.0 10 first-long, value-all (drop 10 t) halves.1 10 last-long)

-- the characters of a number that is small have it as their number
value-characters : (k v : ℕ) → v < 36 ^ k → half_of (characters k v) ≡ v
unfolding characters number half_of
value-characters zero v h = omega arith
value-characters (suc k) v h =
    half_snoc (characters k (v / 36)) (character_of (v % 36))
    ∙ rw (value_character (v % 36) (omega arith), value-characters k (v / 36) (omega (arith, pow-suc 36 k))) (omega arith)

-- two numbers that are small are those of their text
pub numbers-back : (high low : ℕ) → high < 36 ^ 10 → low < 36 ^ 10 → lei_of (lei_text (make_lei high low)) ≡ make_lei high low
unfolding lei_text
numbers-back high low h l =
    let a = characters 10 high in
    let b = characters 10 low in
    let ten = length-characters 10 high in
    lei_halves (lei_text (make_lei high low)) (length-lei (make_lei high low)) ∙ rw (take_at a b 10 ten, drop_at a b 10 ten, value-characters 10 high h, value-characters 10 low l)

-- two texts in form are one exactly when their numbers are
pub lei-exactly : (t u : List ℕ) → in_form t ≡ true → in_form u ≡ true → (lei_of t ≡ lei_of u) ↔ (t ≡ u)
lei-exactly t u f g = (λ e. sym (text-back t f) ∙ ap lei_text e ∙ text-back u g, λ e. ap lei_of e)
