-- Laws of the numeral of a number: it is built digit by digit, and holds its number in bytes from 48 to 57. Assumes nothing.
use mathlib.Core.Path.{◌≡◌, refl, sym, ap, ◌∙◌}
use mathlib.Core.List.{List, [], ◌∷◌, ◌++◌}
use Prim.Native.Nat.{ℕ, zero, suc, ◌+◌, ◌-◌, ◌*◌, ◌/◌, ◌%◌, ◌^◌, ◌≤◌, ◌<◌}
use native.Mathlib.Nat.{pow-suc}
use native.Mathlib.Numerals.{add-one}
use native.Mathlib.Omega.{arith}
use lib.ListN.{length, get_or, length-append, get_or-append}
use Rattle.lists.specs.Tables.{Each}
use Rattle.lists.proofs.Entries.{each_append}
use Rattle.lists.proofs.Tests.{by_end}
use Rattle.numerals.specs.Numerals.{lead, digits, value_from}

-- more room changes nothing
lead-room : (j k x : ℕ) → x ≤ j → x ≤ k → lead j x ≡ lead k x
unfolding lead
lead-room zero zero x a b = refl
lead-room zero (suc k) zero a b = refl
lead-room zero (suc k) (suc x) a b = absurd (omega arith)
lead-room (suc j) zero zero a b = refl
lead-room (suc j) zero (suc x) a b = absurd (omega arith)
lead-room (suc j) (suc k) zero a b = refl
lead-room (suc j) (suc k) (suc x) a b = rw (lead-room j k (suc x / 10) (omega arith) (omega arith))

-- a number below 10 has one digit
pub digits-one : (x : ℕ) → x < 10 → digits x ≡ (48 + x) ∷ []
unfolding digits lead
digits-one x h =
    let q : x / 10 ≡ 0 = omega arith in
    let r : x % 10 ≡ x = omega arith in
    rw (q, r, lead-room x 0 0 (omega arith) (omega arith))

lead-digits : (k a : ℕ) → 0 < a → a ≤ k → lead k a ≡ digits a
unfolding digits lead
lead-digits zero a p h = absurd (omega arith)
lead-digits (suc k) zero p h = absurd (omega arith)
lead-digits (suc k) (suc a) p h = rw (lead-room k (suc a) (suc a / 10) (omega arith) (omega arith))

digits-parts : (x : ℕ) → digits x ≡ lead x (x / 10) ++ ((48 + x % 10) ∷ [])
unfolding digits
digits-parts x = refl

-- a digit after a number above 0
pub digits_more : (a d : ℕ) → 0 < a → d < 10 → digits (10 * a + d) ≡ digits a ++ ((48 + d) ∷ [])
digits_more a d p h =
    let q : (10 * a + d) / 10 ≡ a = omega arith in
    let r : (10 * a + d) % 10 ≡ d = omega arith in
    digits-parts (10 * a + d) ∙ rw (q, r, lead-digits (10 * a + d) a p (omega arith))

-- what holds of the numbers below 10, and of a number with a digit more, holds of all
pub by_digits : (P : ℕ → Type 0) → ((x : ℕ) → x < 10 → P x) → ((a d : ℕ) → 0 < a → d < 10 → P a → P (10 * a + d)) → (x : ℕ) → P x
by_digits P one more x = from (suc x) x (omega arith)
  where
    from : (k x : ℕ) → x < k → P x
    from zero x h = absurd (omega arith)
    from (suc k) x h =
        by_end (λ (y : ℕ). y ≡ x → P y) 10 (λ y l e. one y l)
        (λ y l e.
        let parts : 10 * (y / 10) + y % 10 ≡ y = omega arith in
        rw (← parts) (more (y / 10) (y % 10) (omega arith) (omega arith) (from k (y / 10) (omega arith))))
        x refl

-- there is a digit
pub digits-some : (x : ℕ) → 1 ≤ length (digits x)
digits-some =
    by_digits (λ x. 1 ≤ length (digits x))
    (λ x h. omega (arith, ap (length {A = ℕ}) (digits-one x h)))
    (λ a d p h e. rw (digits_more a d p h, length-append) (omega arith))

-- and n digits are enough below 10 ^ n
pub digits-length : (x n : ℕ) → 1 ≤ n → x < 10 ^ n → length (digits x) ≤ n
digits-length =
    by_digits (λ x. (n : ℕ) → 1 ≤ n → x < 10 ^ n → length (digits x) ≤ n)
    (λ x h n l b. rw (digits-one x h) l)
    (λ a d p h e n l b. rw (digits_more a d p h, length-append) (shorter a d n p b e))
  where
    shorter : (a d n : ℕ) → 0 < a → 10 * a + d < 10 ^ n → ((n : ℕ) → 1 ≤ n → a < 10 ^ n → length (digits a) ≤ n) → length (digits a) + 1 ≤ n
    shorter a d zero p b e = absurd (omega arith)
    shorter a d (suc zero) p b e = absurd (omega arith)
    shorter a d (suc (suc n)) p b e = omega (arith, e (suc n) (omega arith) (omega (arith, pow-suc 10 (suc n))))

-- n digits stay below 10 ^ n
pub digits_below : (x : ℕ) → x < 10 ^ length (digits x)
digits_below =
    by_digits (λ x. x < 10 ^ length (digits x))
    (λ x h. rw (digits-one x h) h)
    (λ a d p h e. rw (digits_more a d p h, length-append, add-one, pow-suc) (omega (arith, e)))

-- a smaller number has no more digits
pub digits_fewer : (x y : ℕ) → y ≤ x → length (digits y) ≤ length (digits x)
digits_fewer x y h = digits-length y (length (digits x)) (digits-some x) (omega (arith, digits_below x))

-- 20 digits are enough for 64 bits
pub digits-word : (x : ℕ) → x < 2 ^ 64 → length (digits x) ≤ 20
digits-word x h = digits-length x 20 (omega arith) (omega arith)

abbrev pub IsDigit : ℕ → Type 0
IsDigit c = (48 ≤ c) × (c ≤ 57)

-- every byte is a digit
pub digits-each : (x : ℕ) → Each IsDigit (digits x)
digits-each =
    by_digits (λ x. Each IsDigit (digits x))
    (λ x h. rw (digits-one x h) (one x h))
    (λ a d p h e. rw (digits_more a d p h) (each_append IsDigit (digits a) ((48 + d) ∷ []) e (one d h)))
  where
    one : (d : ℕ) → d < 10 → Each IsDigit ((48 + d) ∷ [])
    one d h = ((omega arith, omega arith), tt)

-- the first is not `0` where the number is not
pub digits-first : (x : ℕ) → 0 < x → 48 < get_or (digits x) 0 0
digits-first =
    by_digits (λ x. 0 < x → 48 < get_or (digits x) 0 0)
    (λ x h p. rw (digits-one x h) (omega arith))
    (λ a d p h e q. rw (digits_more a d p h, get_or-append (digits a) ((48 + d) ∷ []) 0 0 (digits-some a)) (e p))

-- the digits of a number are its value
value_snoc : (x d : ℕ) (text : List ℕ) → value_from x (text ++ ((48 + d) ∷ [])) ≡ 10 * value_from x text + d
unfolding value_from
value_snoc x d [] = omega arith
value_snoc x d (c ∷ text) = value_snoc (10 * x + (c - 48)) d text

pub value-digits : (x : ℕ) → value_from 0 (digits x) ≡ x
unfolding value_from
value-digits =
    by_digits (λ x. value_from 0 (digits x) ≡ x)
    (λ x h. rw (digits-one x h) (omega arith))
    (λ a d p h e. rw (digits_more a d p h, value_snoc 0 d (digits a), e))

-- no two numbers have one numeral
pub digits_inverse : (x y : ℕ) → digits x ≡ digits y → x ≡ y
digits_inverse x y e = sym (value-digits x) ∙ ap (value_from 0) e ∙ value-digits y
