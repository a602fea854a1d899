-- What the answer on one line says: the first refusal that holds, or that none holds and the line is taken off. Assumes nothing.
use mathlib.Core.Path.{◌≡◌, refl, ap}
use mathlib.Core.Bool.{Bool, true, false}
use mathlib.Core.List.{List, [], ◌∷◌}
use Prim.Native.Nat.{ℕ, ◌*◌, ◌≤◌}
use native.Mathlib.Nat.{le_trans, mul-le-mul}
use native.Mathlib.Omega.{arith}
use lib.Dec.{ltb}
use borrow.Author.Tests.{not-false, ltb-false}
use Rattle.lists.specs.Choice.{first_of}
use Rattle.lists.proofs.Tests.{tests, neither}
use Rattle.lists.proofs.Firsts.{None, Listed}
use Rattle.holding.specs.Holding.{value_limit}
use Rattle.article.specs.Pair.{is_long, is_short, allowed, pair_rate_of, saving_rate_of, rate_limit, saving_limit}
use Rattle.article.specs.declared.pair.Leg.{Leg}
use Rattle.article.proofs.Legs.{allowed_meets, allowed_high}
use Rattle.article.proofs.Saved.{saving-high}
use Rattle.proposal.specs.Submission.{margin_limit, saved_limit}
use Rattle.proposal.specs.Outcome.{pair_faults}
use Rattle.proposal.proofs.Places.{pair-listed}
use Rattle.tally.specs.Lines.{refusals, taken, applied_of, Ready}
use Rattle.tally.specs.declared.Tally.{Tally}
use Rattle.std.specs.Prelude.{Result, Ok, Err}
use Rattle.refusals.specs.Refusals.{number_of, numbered}
use Rattle.refusals.specs.declared.Refusal.{Refusal}

-- one line adds no more units and no more saving than the highest rates times the highest value
pub record High (amount rate save : ℕ) : Type 0 where
  pub units : rate * amount ≤ margin_limit
  pub saving : save * amount ≤ saved_limit

pub high : {amount rate save : ℕ} → amount ≤ value_limit → rate ≤ rate_limit → save ≤ saving_limit → High amount rate save
high amount rate save = record { units = mul-le-mul rate amount; saving = mul-le-mul save amount }

-- what is answered by a number is the first refusal, whatever follows; what is answered by a tally, no refusal
first-refused : (fs : List (Bool × ℕ)) (t : Tally) (n : ℕ) → Err n ≡ first_of (refusals fs) (Ok t) → Listed fs → (n ≡ first_of fs 0) × (1 ≤ n)
unfolding refusals first_of
first-refused [] t n e h =
    let z : ◌≡◌ {A = ℕ} 0 1 = cc in
    absurd (omega arith)
first-refused ((true, m) ∷ fs) t n e h =
    let z : n ≡ m = cc in
    (z, rw z h.0)
first-refused ((false, m) ∷ fs) t n e h = first-refused fs t n e h.1

first_taken : (fs : List (Bool × ℕ)) (t t' : Tally) → Ok t' ≡ first_of (refusals fs) (Ok t) → None fs × (t' ≡ t)
unfolding refusals first_of
first_taken [] t t' e = (tt, cc)
first_taken ((true, m) ∷ fs) t t' e =
    let z : ◌≡◌ {A = ℕ} 0 1 = cc in
    absurd (omega arith)
first_taken ((false, m) ∷ fs) t t' e =
    let (n, s) = first_taken fs t t' e in
    ((refl, n), s)

-- no refusal holds: the pair is allowed, and its long has the amount
passed : (l s : Leg) (amount a b : ℕ) → None (pair_faults l s amount a b) → (allowed l s ≡ true) × (amount ≤ a)
unfolding pair_faults
passed l s amount a b none =
    (not-false (allowed l s) none.1.0, ltb-false a amount (neither (ltb a amount) (ltb b amount) none.1.1.1.0).0)

-- a line taken off: no refusal holds, the new tally, two legs, and bounds of what the line adds
pub record Took (t : Tally) (amount : ℕ) (long short : Leg) (after : Tally) : Type 0 where
  pub none : None (pair_faults long short amount t.long t.short)
  pub tally : after ≡ taken t amount long short
  pub apart : long ≡ short → ⊥
  pub high : High amount (pair_rate_of long short) (saving_rate_of long short)

module _ (t : Tally) (amount : ℕ) (long short : Leg) {r : Result Tally Refusal} (applies : numbered r ≡ applied_of t amount long short) where
  pub refused : {x : Refusal} → r ≡ Err x → (number_of x ≡ first_of (pair_faults long short amount t.long t.short) 0)
  unfolding applied_of
  refused {x} e = (first-refused _ (taken t amount long short) (number_of x) (rw e at applies) (pair-listed _ _ _ _ _)).0

  pub took : {after : Tally} → Ready t long short → r ≡ Ok after → Took t amount long short after
  unfolding applied_of
  took {after} ready e =
      let (none, is) = first_taken (pair_faults long short amount t.long t.short) (taken t amount long short) after (rw e at applies) in
      let (may, within) = passed long short amount _ _ none in
      let meets = allowed_meets long short may in
      record {
        none = none;
        tally = is;
        apart = λ same. omega (arith, meets.long, meets.short, ap (λ (x : Leg). x.side) same);
        high = high (le_trans within ready.left)
            (allowed_high long short may ready.long_rate ready.short_rate) (saving-high long short ready.long_rate ready.short_rate);
      }

-- what refuses a line on its two legs, each where those before it do not
module _ (t : Tally) (amount : ℕ) (long short : Leg) where
  pub not_long : (long.side ≡ 0 → ⊥) → Err 12 ≡ applied_of t amount long short
  unfolding applied_of refusals pair_faults first_of is_long is_short
  not_long n = search tests

  pub not_short : long.side ≡ 0 → (short.side ≡ 1 → ⊥) → Err 12 ≡ applied_of t amount long short
  unfolding applied_of refusals pair_faults first_of is_long is_short
  not_short l n = search tests
