-- What the answer on two legs says: whether the pair is allowed, and its rate and saving rate. Assumes nothing.
use mathlib.Core.Path.{◌≡◌, refl, ap}
use mathlib.Core.Bool.{Bool, true, false, cond}
use Prim.Native.Nat.{ℕ, ◌≤◌}
use native.Mathlib.Omega.{arith}
use Rattle.article.specs.Answer.{Answer, make_answer}
use Rattle.article.specs.Pair.{allowed, pair_rate_of, saving_rate_of, pair_answer, pair_of, rate_limit, saving_limit, Pairs}
use Rattle.article.specs.declared.pair.Leg.{Leg}
use Rattle.article.specs.declared.pair.Pair.{Pair}
use Rattle.std.specs.Prelude.{Option, Some, None}

-- a test's value from the number of the answer that it picked
refused-by : (t : Bool) (rate saving : ℕ) → make_answer 13 0 0 ≡ cond t (make_answer 0 rate saving) (make_answer 13 0 0) → t ≡ false
refused-by true rate saving e = absurd (omega (arith, ap (λ (a : Answer). a.number) e))
refused-by false rate saving e = refl

-- and the rates that stand in it
given_by : (t : Bool) (rate saving rate' saving' : ℕ) → make_answer 0 rate' saving' ≡ cond t (make_answer 0 rate saving) (make_answer 13 0 0)
    → (t ≡ true) × (rate' ≡ rate) × (saving' ≡ saving)
given_by true rate saving rate' saving' e = (refl, ap (λ (a : Answer). a.first) e, ap (λ (a : Answer). a.second) e)
given_by false rate saving rate' saving' e = absurd (omega (arith, ap (λ (a : Answer). a.number) e))

-- an allowed pair, its rates, and their bounds
pub record Answered (l s : Leg) (rate saving : ℕ) : Type 0 where
  pub may : allowed l s ≡ true
  pub pair_rate_lem : rate ≡ pair_rate_of l s
  pub saving_rate_lem : saving ≡ saving_rate_of l s
  pub rate-high : rate ≤ rate_limit
  pub saving-high : saving ≤ saving_limit

module _ {l s : Leg} {p : Option Pair} (found : Pairs l s p) where
  pub answered-refused : p ≡ None → allowed l s ≡ false
  unfolding pair_answer pair_of
  answered-refused e = refused-by (allowed l s) _ _ (rw e at found.answered)

  pub answered-allowed : {q : Pair} → p ≡ Some q → Answered l s q.rate q.saving
  unfolding pair_answer pair_of
  answered-allowed {q} e =
      let (may, r, k) = given_by (allowed l s) _ _ q.rate q.saving (rw e at found.answered) in
      record { may = may; pair_rate_lem = r; saving_rate_lem = k; rate-high = rw e at found.rate-high; saving-high = rw e at found.saving-high }
