-- Lists of refusals that are tested in turn, one after another. Assumes nothing.
use mathlib.Core.Path.{◌≡◌}
use mathlib.Core.Bool.{Bool}
use mathlib.Core.List.{List}
use Prim.Native.Nat.{ℕ, ◌+◌, ◌≤◌, ◌<◌}
use native.Mathlib.Omega.{arith}
use borrow.Author.Count.{below_none, below_more}
use Rattle.lists.specs.Choice.{first_of}
use Rattle.lists.specs.Tables.{in_turn}
use Rattle.lists.proofs.Firsts.{None, first-in_turn, none-in_turn}

-- of n lists the first i are passed: no refusal of theirs holds
pub record Passed {A : Type 0} (n : ℕ) (f : ℕ → List (Bool × A)) (i : ℕ) : Type 0 where
  pub few : i ≤ n
  pub none : (k : ℕ) → k < i → None (f k)

module _ {A : Type 0} {n : ℕ} {f : ℕ → List (Bool × A)} where
  pub passed_none : Passed n f 0
  passed_none = record { few = omega arith; none = below_none (λ (k : ℕ). None (f k)) }

  module _ {i : ℕ} (p : Passed n f i) where
    pub passed-more : i < n → None (f i) → Passed n f (i + 1)
    passed-more h g = record { few = omega arith; none = below_more (λ (k : ℕ). None (f k)) i p.none g }

    -- the first that holds is at i
    pub passed_first : {a : A} (z : A) → i < n → ((w : A) → first_of (f i) w ≡ a) → first_of (in_turn n f) z ≡ a
    passed_first {a} z h e = first-in_turn f n i a z h p.none e

    pub passed-all : n ≤ i → None (in_turn n f)
    passed-all h = none-in_turn f n (λ k l. p.none k (omega arith))
