-- Numbers by their digits to the base 256, as the library's conversions read and write them. Assumes nothing.
use Rattle.std.proofs.Common.{◌≡◌, ℕ, zero, suc, ◌+◌, ◌*◌, ◌/◌, ◌%◌, ◌^◌, ◌≤◌, ◌<◌, List, ◌∷◌, length, get_or, take, drop, add-one, refl, sym, ap, ◌∙◌, arith}
use Rattle.std.proofs.Math.ListN.{set}
use Rattle.std.proofs.Math.Seq.{sets-eq, drop-cons}
use Rattle.std.proofs.Math.Nat.{div-div-eq-div-mul, pow-suc, div-one}
use Rattle.std.specs.Int.{w64, byte_at, bytes_low_first, to_le_bytes}
use Rattle.words.specs.Words.{number, little_endian, with_word}

-- a lowest digit, and the number above it
number-digit : (bytes : List ℕ) (k o p : ℕ) → o < length bytes → p ≡ o + 1
    → number (take (suc k) (drop o bytes)) ≡ get_or bytes o 0 + 256 * number (take k (drop p bytes))
unfolding number
number-digit bytes k o p h e = rw (drop-cons bytes o 0, e, add-one) refl

-- the number of eight digits
pub number-eight : (bytes : List ℕ) (o : ℕ) → o + 8 ≤ length bytes
    → number (take 8 (drop o bytes)) ≡ get_or bytes o 0 + 256 * (get_or bytes (o + 1) 0 + 256 * (get_or bytes (o + 2) 0
    + 256 * (get_or bytes (o + 3) 0 + 256 * (get_or bytes (o + 4) 0 + 256 * (get_or bytes (o + 5) 0 + 256 * (get_or bytes (o + 6) 0 + 256 * get_or bytes (o + 7) 0))))))
unfolding number
number-eight bytes o h =
    let a = number-digit bytes 7 o (o + 1) (omega arith) refl in
    let b = number-digit bytes 6 (o + 1) (o + 2) (omega arith) (omega arith) in
    let c = number-digit bytes 5 (o + 2) (o + 3) (omega arith) (omega arith) in
    let d = number-digit bytes 4 (o + 3) (o + 4) (omega arith) (omega arith) in
    let e = number-digit bytes 3 (o + 4) (o + 5) (omega arith) (omega arith) in
    let f = number-digit bytes 2 (o + 5) (o + 6) (omega arith) (omega arith) in
    let g = number-digit bytes 1 (o + 6) (o + 7) (omega arith) (omega arith) in
    let i = number-digit bytes 0 (o + 7) (o + 8) (omega arith) (omega arith) in
    let end : number (take 0 (drop (o + 8) bytes)) ≡ 0 = refl in
    omega (arith, a, b, c, d, e, f, g, i, end)

-- its k bytes of a number from digit i up are those of the number above the i digits below
low_first : (k i v : ℕ) → bytes_low_first i k v ≡ little_endian k (v / 256 ^ i)
unfolding little_endian
low_first zero i v = refl
low_first (suc k) i v =
    let above : v / 256 ^ i / 256 ≡ v / 256 ^ suc i = div-div-eq-div-mul v (256 ^ i) 256 ∙ ap (λ (n : ℕ). v / n) (sym (pow-suc 256 i)) in
    rw (low_first k (suc i) v, ← above) (ap (λ (d : ℕ). d ∷ little_endian k (v / 256 ^ i / 256)) (digit i))
  where
    digit : (i : ℕ) → byte_at i v ≡ v / 256 ^ i % 256
    digit zero = rw (div-one v) refl
    digit (suc i) = refl

pub to_eight : (v : ℕ) → to_le_bytes w64 v ≡ little_endian 8 v
to_eight v = low_first 8 0 v ∙ ap (little_endian 8) (div-one v)

-- eight bytes that were replaced one after another
pub with_eight : (bytes eight : List ℕ) (i v : ℕ) → 8 * i + 8 ≤ length bytes → eight ≡ to_le_bytes w64 v
    → set (set (set (set (set (set (set (set bytes (8 * i) (get_or eight 0 0)) (8 * i + 1) (get_or eight 1 0)) (8 * i + 2) (get_or eight 2 0)) (8 * i + 3) (get_or eight 3 0))
    (8 * i + 4) (get_or eight 4 0)) (8 * i + 5) (get_or eight 5 0)) (8 * i + 6) (get_or eight 6 0)) (8 * i + 7) (get_or eight 7 0) ≡ with_word bytes i v
unfolding with_word little_endian
with_eight bytes eight i v h e =
    let o = 8 * i in
    let digits : eight ≡ little_endian 8 v = e ∙ to_eight v in
    let one : o + 1 ≡ suc o = omega arith in
    let two : o + 2 ≡ suc (suc o) = omega arith in
    let three : o + 3 ≡ suc (suc (suc o)) = omega arith in
    let four : o + 4 ≡ suc (suc (suc (suc o))) = omega arith in
    let five : o + 5 ≡ suc (suc (suc (suc (suc o)))) = omega arith in
    let six : o + 6 ≡ suc (suc (suc (suc (suc (suc o))))) = omega arith in
    let seven : o + 7 ≡ suc (suc (suc (suc (suc (suc (suc o)))))) = omega arith in
    rw (digits, one, two, three, four, five, six, seven) (sets-eq (little_endian 8 v) bytes o h)
