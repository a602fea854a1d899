-- A numeral is written digit by digit: that of the tenth part, and after it the last digit. Assumes nothing.
use mathlib.Core.Path.{◌≡◌, ap, ◌∙◌}
use mathlib.Core.List.{List, ◌++◌}
use Prim.Native.Nat.{ℕ, ◌+◌, ◌*◌, ◌/◌, ◌%◌, ◌≤◌, ◌<◌}
use native.Mathlib.Omega.{arith}
use lib.ListN.{length, set, length-append}
use Rattle.lists.proofs.Overwrite.{overwrite-one, overwrite-overwrite}
use Rattle.numerals.specs.Numerals.{digits, Put}
use Rattle.numerals.proofs.Digits.{digits-one, digits_more, digits-some, digits_fewer}

-- the numeral of the tenth part, and then the last digit
pub digits_split : (x : ℕ) → 10 ≤ x → digits x ≡ digits (x / 10) ++ digits (x % 10)
digits_split x h =
    let parts : x ≡ 10 * (x / 10) + x % 10 = omega arith in
    ap digits parts ∙ digits_more (x / 10) (x % 10) (omega arith) (omega arith) ∙ rw (digits-one (x % 10) (omega arith))

length_split : (x : ℕ) → 10 ≤ x → length (digits x) ≡ length (digits (x / 10)) + 1
length_split x h = rw (digits_split x h, length-append, digits-one (x % 10) (omega arith))

-- where there is room for a numeral, there is for that of a smaller number, and for its last digit, after the others too
pub room_fewer : (x y at n : ℕ) → y ≤ x → at + length (digits x) ≤ n → at + length (digits y) ≤ n
room_fewer x y at n l h = omega (arith, digits_fewer x y l)

pub room-last : (x at n : ℕ) → at + length (digits x) ≤ n → at < n
room-last x at n h = omega (arith, digits-some x)

pub room_after : (x at n : ℕ) → 10 ≤ x → at + length (digits x) ≤ n → at + length (digits (x / 10)) < n
room_after x at n l h = omega (arith, length_split x l)

pub put_one : (x at : ℕ) (old : List ℕ) → x < 10 → at < length old → Put x at (at + 1) old (set old at (48 + x))
put_one x at old h l = record { ends = rw (digits-one x h); bytes = rw (digits-one x h) (overwrite-one at (48 + x) old l) }

pub put-more : (x at last next : ℕ) (old mid now : List ℕ) → 10 ≤ x → at ≤ length old → Put (x / 10) at last old mid → Put (x % 10) last next mid now → Put x at next old now
put-more x at last next old mid now h l p q = record {
  ends = omega (arith, p.ends, q.ends, length_split x h, ap (length {A = ℕ}) (digits-one (x % 10) (omega arith)));
  bytes = q.bytes ∙ rw (p.ends, p.bytes, digits_split x h) (overwrite-overwrite at (digits (x / 10)) (digits (x % 10)) old l);
}
