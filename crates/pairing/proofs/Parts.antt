-- Lines counted in parts of 1/N cent use and save N times as many. Assumes nothing.
use mathlib.Core.Path.{◌≡◌, refl}
use mathlib.Core.Bool.{Bool, true, false, cond}
use mathlib.Core.List.{List, [], ◌∷◌}
use Prim.Native.Nat.{ℕ, ◌*◌}
use native.Mathlib.Nat.{mul-le-mul_left}
use native.Mathlib.Omega.{arith}
use lib.Dec.{eqb}
use Rattle.lists.specs.Tables.{Each, sum_of, only}
use Rattle.pairing.specs.Pairing.{Terms, used, in_parts, AllowedPair, IsPairing, saving}
use Rattle.pairing.specs.declared.Line.{Line}

only-times : (N i x k : ℕ) → only i (N * x) k ≡ N * only i x k
unfolding only
only-times N i x k = by (eqb i k)
  where
    by : (t : Bool) → cond t (N * x) 0 ≡ N * cond t x 0
    by true = refl
    by false = omega arith

pub used-parts : (N : ℕ) (lines : List Line) (k : ℕ) → used (in_parts N lines) k ≡ N * used lines k
unfolding used sum_of in_parts
used-parts N [] k = omega arith
used-parts N (l ∷ ls) k = omega (arith, used-parts N ls k, only-times N l.long l.amount k, only-times N l.short l.amount k)

module _ (T : Terms) where
  pub saving-parts : (N : ℕ) (lines : List Line) → saving T (in_parts N lines) ≡ N * saving T lines
  unfolding saving sum_of in_parts
  saving-parts N [] = omega arith
  saving-parts N (l ∷ ls) = omega (arith, saving-parts N ls)

  pairs-parts : (N : ℕ) (lines : List Line) → Each (AllowedPair T) lines → Each (AllowedPair T) (in_parts N lines)
  unfolding in_parts
  pairs-parts N [] h = tt
  pairs-parts N (l ∷ ls) (a, h) = (record { long = a.long; short = a.short; pair = a.pair }, pairs-parts N ls h)

  pub pairing-parts : (N : ℕ) (lines : List Line) → IsPairing T 1 lines → IsPairing T N (in_parts N lines)
  pairing-parts N lines p = record {
    pairs = pairs-parts N lines p.pairs;
    within = λ k h. omega (arith, used-parts N lines k, mul-le-mul_left N (p.within k h));
  }
