-- A leg is read back from its code. Assumes nothing.
use mathlib.Core.Path.{◌≡◌, ap, ◌∙◌}
use Prim.Native.Nat.{ℕ, ◌+◌, ◌*◌, ◌/◌, ◌%◌, ◌<◌}
use native.Mathlib.Omega.{arith}
use Rattle.std.proofs.lemmas.Nat.{mod-mul-add}
use Rattle.article.specs.declared.pair.Leg.{Leg}
use Rattle.packed.specs.Packed.{leg_in, Small}

-- a field of so many values below other fields
field_of : (values x field high : ℕ) → x ≡ field + values * high → field < values → x % values ≡ field
field_of values x field high e h = ap (λ (y : ℕ). y % values) (e ∙ omega arith) ∙ mod-mul-add high values field h

-- the code of a leg
abbrev code_of : Leg → ℕ
code_of l =
    l.rate + 65536 * l.period + 16777216 * l.side + 268435456 * l.kind + 4294967296 * l.issuer + 281474976710656 * l.currency + 4503599627370496 * l.rating
    + 72057594037927936 * l.letter

pub back : (l : Leg) → Small l → leg_in (code_of l) ≡ l
unfolding leg_in
back l s =
    let c = code_of l in
    let from-period : c / 65536 ≡ l.period + 256 * (l.side + 16 * l.kind + 256 * l.issuer + 16777216 * l.currency + 268435456 * l.rating + 4294967296 * l.letter) =
    omega (arith, s.rate) in
    let from-side : c / 16777216 ≡ l.side + 16 * (l.kind + 16 * l.issuer + 1048576 * l.currency + 16777216 * l.rating + 268435456 * l.letter) =
    omega (arith, s.rate, s.period) in
    let from-kind : c / 268435456 ≡ l.kind + 16 * (l.issuer + 65536 * l.currency + 1048576 * l.rating + 16777216 * l.letter) = omega (arith, s.rate, s.period, s.side) in
    let from-issuer : c / 4294967296 ≡ l.issuer + 65536 * (l.currency + 16 * l.rating + 256 * l.letter) = omega (arith, s.rate, s.period, s.side, s.kind) in
    let from-currency : c / 281474976710656 ≡ l.currency + 16 * (l.rating + 16 * l.letter) = omega (arith, s.rate, s.period, s.side, s.kind, s.issuer) in
    let from-rating : c / 4503599627370496 ≡ l.rating + 16 * l.letter = omega (arith, s.rate, s.period, s.side, s.kind, s.issuer, s.currency) in
    let from-letter : c / 72057594037927936 ≡ l.letter + 16 * 0 = omega (arith, s.rate, s.period, s.side, s.kind, s.issuer, s.currency, s.rating) in
    let low : c % 65536 ≡ l.rate = omega (arith, s.rate) in
    λ i. record {
      letter = field_of 16 _ _ 0 from-letter s.letter i;
      side = field_of 16 _ _ _ from-side s.side i;
      kind = field_of 16 _ _ _ from-kind s.kind i;
      issuer = field_of 65536 _ _ _ from-issuer s.issuer i;
      currency = field_of 16 _ _ _ from-currency s.currency i;
      rating = field_of 16 _ _ _ from-rating s.rating i;
      period = field_of 256 _ _ _ from-period s.period i;
      rate = low i;
    }
