-- The page specs/Identifiers.antt, proved. Assumes nothing.
use mathlib.Core.Path.{◌≡◌, refl}
use mathlib.Core.List.{List, [], ◌∷◌, ◌++◌, append_assoc}
use Prim.Native.Nat.{ℕ, ◌+◌, ◌-◌, ◌*◌, ◌/◌, ◌%◌, ◌<◌}
use native.Mathlib.Omega.{arith}
use Rattle.lei.specs.Lei.{digits_of, number, remainder}
use Rattle.lei.specs.Identifiers.{CheckDigits, TwoNumbers, Identifiers}
use Rattle.lei.proofs.Characters.{capital-test, low_no_capital, value-capital, value-other}
use Rattle.lei.proofs.Remainders.{horner}
use Rattle.lei.proofs.Damage.{damage}
use Rattle.lei.proofs.Judging.{lei-none}
use Rattle.lei.proofs.Forms.{form-test, judging}
use Rattle.lei.proofs.Texts.{text-back, lei-exactly, lei-small, numbers-back}

digit : (k : ℕ) → k < 10 → digits_of ((48 + k) ∷ []) ≡ k ∷ []
unfolding digits_of
digit k h =
    let other = low_no_capital (48 + k) (omega arith) in
    let v : 48 + k - 48 ≡ k = omega arith in
    rw (other, ← value-other (48 + k) other, v)

capital : (k : ℕ) → k < 26 → digits_of ((65 + k) ∷ []) ≡ ((10 + k) / 10) ∷ ((10 + k) % 10) ∷ []
unfolding digits_of
capital k h =
    let letter = capital-test (65 + k) (omega arith, omega arith) in
    let v : 65 + k - 55 ≡ 10 + k = omega arith in
    rw (letter, ← value-capital (65 + k) letter, v)

join : (t u : List ℕ) → digits_of (t ++ u) ≡ digits_of t ++ digits_of u
unfolding digits_of
join [] u = refl
join (c ∷ t) u = rw (append_assoc, ← join t u)

by_97 : (t : List ℕ) → (number 10 (digits_of t) ≡ 97 * (number 10 (digits_of t) / 97) + remainder t) × (remainder t < 97)
unfolding remainder
by_97 t = (omega arith, omega arith)

check_digits : CheckDigits
check_digits = record { digit = digit; capital = capital; join = join; by_97 = by_97; horner = horner; damage = damage }

two-numbers : TwoNumbers
two-numbers =
    record {
      none = lei-none;
      back = λ t f. text-back t (form-test t f);
      equal = λ t u f g. lei-exactly t u (form-test t f) (form-test u g);
      small = λ t f. lei-small t (form-test t f);
      again = numbers-back;
    }

pub identifiers : Identifiers
identifiers = record { check_digits = check_digits; judging = judging; two-numbers = two-numbers }
