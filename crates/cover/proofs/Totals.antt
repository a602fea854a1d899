-- The priced total of a book in lists, added up holding by holding, and how high it can be. Assumes nothing.
use mathlib.Core.Path.{◌≡◌, refl, ap, ◌∙◌}
use mathlib.Core.List.{List}
use Prim.Native.Nat.{ℕ, ◌+◌, ◌*◌, ◌≤◌, ◌<◌}
use native.Mathlib.Nat.{mul-le-mul}
use native.Mathlib.Omega.{arith}
use Rattle.lists.specs.Tables.{sum_to}
use Rattle.lists.proofs.Sums.{sum_to_bound, sum_to-more, sum_to_eq}
use Rattle.words.specs.Words.{word_at, entries}
use Rattle.pairing.specs.Pairing.{priced_total}
use Rattle.proposal.specs.Submission.{terms_of, saved_limit}
use Rattle.cover.specs.Cover.{Valued, Totals}

module _ (price value : List ℕ) where
  -- a holding's price times its value
  abbrev pub priced_value : ℕ → ℕ
  priced_value k = word_at price k * word_at value k

  -- before holding i
  pub record Summed (total i : ℕ) : Type 0 where
    pub few : i ≤ entries price
    pub sum : total ≡ sum_to i priced_value

  pub priced_high : Valued price value → (k : ℕ) → k < entries price → priced_value k ≤ saved_limit
  priced_high v k h = mul-le-mul (v.prices k h) (v.values k h)

  pub added_none : Summed 0 0
  unfolding sum_to
  added_none = record { few = omega arith; sum = refl }

  module _ {total i : ℕ} (a : Summed total i) where
    pub added_high : Valued price value → total ≤ i * saved_limit
    added_high v = rw a.sum (sum_to_bound i saved_limit priced_value (λ k h. priced_high v k (omega (arith, a.few))))

    pub added_more : {x : ℕ} → i < entries price → x ≡ priced_value i → Summed (total + x) (i + 1)
    added_more h e = record { few = omega arith; sum = rw e (sum_to-more priced_value i total a.sum) }

    pub added_all : entries price ≤ i → Totals price value total
    unfolding priced_total terms_of
    added_all h = record {
      total = λ b count prices values.
          let e : i ≡ b.count = omega (arith, a.few) in
          a.sum ∙ ap (λ (k : ℕ). sum_to k priced_value) e ∙ sum_to_eq b.count _ _ (λ k l. rw (prices k (omega arith), values k (omega arith)));
    }

pub ruleset sum_steps = (priced_high, added_high, added_none, added_more, added_all)
