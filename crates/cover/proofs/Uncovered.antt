-- The allowed pairs of a book that its prices do not cover, looked for in the lists that hold it. Assumes nothing.
use mathlib.Core.Path.{◌≡◌, refl, sym, ◌∙◌}
use mathlib.Core.Bool.{Bool, true, false, cond, ◌&&◌}
use mathlib.Core.List.{List}
use Prim.Native.Nat.{ℕ, ◌+◌, ◌≤◌, ◌<◌}
use native.Mathlib.Omega.{arith}
use lib.Dec.{ltb}
use borrow.Author.Count.{below_more}
use borrow.Author.Tests.{lt-ltb, le-ltb, ne_eqb}
use Rattle.lists.specs.Choice.{first_of}
use Rattle.lists.proofs.Firsts.{None, first_of-none, none-in_turn, first-in_turn}
use Rattle.words.specs.Words.{word_at}
use Rattle.article.specs.Answer.{Answer, make_answer}
use Rattle.article.specs.Pair.{is_long, allowed, saving_rate_of}
use Rattle.article.specs.declared.pair.Leg.{Leg}
use Rattle.savings.specs.Savings.{saving_of}
use Rattle.proposal.proofs.PricedBooks.{saving_rate_lem}
use Rattle.proposal.specs.Submission.{PricedBook}
use Rattle.std.specs.Prelude.{Ok, Err}
use Rattle.refusals.specs.declared.Refusal.TheVariants.{NotCovered}
use Rattle.proposal.specs.Outcome.{make_fault, fault_answer, uncovered, at_pair, at_long, uncovered_pairs}
use Rattle.packed.specs.Packed.{leg_at, LegsOf, Same}
use Rattle.cover.specs.Cover.{PairCovered, LongCovered, FirstOpen, Finds}

-- a pair is uncovered where its two prices add up to less than its legs save
uncovered-saving : (b : PricedBook) (i j : ℕ) → uncovered b i j ≡ ltb (b.price i + b.price j) (saving_of (b.leg i) (b.leg j))
unfolding uncovered saving_of
uncovered-saving b i j =
    rw (saving_rate_lem b i j) (by (allowed (b.leg i) (b.leg j)) (b.price i + b.price j) (saving_rate_of (b.leg i) (b.leg j)))
  where
    by : (t : Bool) (x y : ℕ) → (t && ltb x y) ≡ ltb x (cond t y 0)
    by true x y = refl
    by false x y = sym (le-ltb x 0 (omega arith))

-- the refusal of an uncovered pair
at_pair_lem : (b : PricedBook) {i j : ℕ} → uncovered b i j ≡ true → (v : Answer) → first_of (at_pair b i j) v ≡ make_answer 16 i j
unfolding at_pair first_of
at_pair_lem b e v = rw e

-- a holding that is not long saves nothing as the long
not-long : (l s : Leg) → (l.side ≡ 0 → ⊥) → saving_of l s ≡ 0
unfolding saving_of allowed is_long
not-long l s h = rw (ne_eqb _ _ h)

pub other_covered : (legs price : List ℕ) (i : ℕ) {leg : Leg} → leg ≡ leg_at legs i → (leg.side ≡ 0 → ⊥) → (j : ℕ) → PairCovered legs price i j
other_covered legs price i found h j = rw (not-long (leg_at legs i) (leg_at legs j) (rw found at h)) (omega arith)

-- a book that the lists hold
module _ {n : ℕ} {legs : List ℕ} (price : List ℕ) {b : PricedBook} (h : LegsOf b n legs) (p : Same n (word_at price) b.price) where
  module _ (i j : ℕ) (f : i < n) (g : j < n) where
    test : uncovered b i j ≡ ltb (word_at price i + word_at price j) (saving_of (leg_at legs i) (leg_at legs j))
    test = uncovered-saving b i j ∙ rw (h.leg i f, h.leg j g, p i f, p j g)

    pair-none : PairCovered legs price i j → None (at_pair b i j)
    unfolding at_pair
    pair-none c = (test ∙ le-ltb _ _ c, tt)

    pair_open : word_at price i + word_at price j < saving_of (leg_at legs i) (leg_at legs j) → uncovered b i j ≡ true
    pair_open c = test ∙ lt-ltb _ _ c

  row-none : (i : ℕ) → i < n → LongCovered n legs price i → None (at_long b i)
  unfolding at_long
  row-none i f c =
      let count = h.count in
      none-in_turn (at_pair b i) b.count (λ j g. pair-none i j f (omega arith) (c j (omega arith)))

-- the first i holdings are covered, as the long, with every holding
pub record Closed (n : ℕ) (legs price : List ℕ) (i : ℕ) : Type 0 where
  pub few : i ≤ n
  pub rows : (k : ℕ) → k < i → LongCovered n legs price k

module _ {n : ℕ} {legs price : List ℕ} where
  pub closed_none : Closed n legs price 0
  closed_none = record { few = omega arith; rows = λ k h. absurd (omega arith) }

  module _ {i : ℕ} (c : Closed n legs price i) where
    pub closed_more : i < n → LongCovered n legs price i → Closed n legs price (i + 1)
    closed_more h g = record { few = omega arith; rows = below_more (LongCovered n legs price) i c.rows g }

    pub finds_open : {A : Type 0} {j : ℕ} → i < n → FirstOpen n legs price i j → Finds {A = A} n legs price (Err (make_fault NotCovered i j))
    unfolding fault_answer uncovered_pairs at_long
    finds_open {j} h o = record {
      found = λ b held prices.
          let count = held.count in
          let g : j < n = o.held in
          sym (first-in_turn (at_long b) b.count i (make_answer 16 i j) (make_answer 0 0 0) (omega arith)
          (λ k l. row-none price held prices k (omega arith) (c.rows k l))
          (λ w. first-in_turn (at_pair b i) b.count j (make_answer 16 i j) w (omega arith)
          (λ k l. pair-none price held prices i k (omega arith) (omega arith) (o.before k l))
          (λ v. at_pair_lem b (pair_open price held prices i j h g o.short) v)));
    }

    pub finds_none : {A : Type 0} {x : A} → n ≤ i → Finds n legs price (Ok x)
    unfolding fault_answer uncovered_pairs
    finds_none e = record {
      found = λ b held prices.
          let count = held.count in
          sym (first_of-none (uncovered_pairs b) (make_answer 0 0 0)
          (none-in_turn (at_long b) b.count (λ k l. row-none price held prices k (omega arith) (c.rows k (omega arith)))));
    }

-- long i with short j: what the two legs were found to be and to save, and the two prices
module _ (legs price : List ℕ) (i j : ℕ) {long short : Leg} {first second saving : ℕ} (a-long : long ≡ leg_at legs i) (a-short : short ≡ leg_at legs j)
    (a : first ≡ word_at price i) (b : second ≡ word_at price j) (found : saving ≡ saving_of long short) where
  saves : saving ≡ saving_of (leg_at legs i) (leg_at legs j)
  saves = rw (← a-long, ← a-short) found

  pub first_more : saving ≤ first + second → PairCovered legs price i j
  first_more h = omega (arith, saves)

  pub first-here : {n : ℕ} → LongCovered j legs price i → j < n → first + second < saving → FirstOpen n legs price i j
  first-here before g h = record { held = g; before = before; short = omega (arith, saves) }
