-- From the first number of a list of refusals to the first answer at its place. Assumes nothing.
use mathlib.Core.Path.{◌≡◌}
use mathlib.Core.Bool.{Bool, true, false}
use mathlib.Core.List.{List, [], ◌∷◌}
use Prim.Native.Nat.{ℕ}
use native.Mathlib.Omega.{arith}
use Rattle.lists.specs.Choice.{first_of}
use Rattle.lists.proofs.Firsts.{None, Numbered, Listed, none_first, numbered-append}
use Rattle.holding.proofs.Ranges.{row_listed}
use Rattle.holding.specs.Holding.{row_faults}
use Rattle.holding.specs.declared.Row.{Row}
use Rattle.holding.specs.declared.Account.{Account}
use Rattle.article.specs.Answer.{Answer, make_answer}
use Rattle.article.specs.declared.pair.Leg.{Leg}
use Rattle.pairing.specs.declared.Line.{Line}
use Rattle.proposal.specs.Submission.{PricedBook}
use Rattle.proposal.specs.Outcome.{at_place, holding_faults, pair_faults, line_faults}

module _ (p : ℕ) where
  pub none-at : (fs : List (Bool × ℕ)) → None fs → None (at_place p fs)
  unfolding at_place
  none-at [] h = tt
  none-at (f ∷ fs) h = (h.0, none-at fs h.1)

  pub at_none : (fs : List (Bool × ℕ)) → None (at_place p fs) → None fs
  unfolding at_place
  at_none [] h = tt
  at_none (f ∷ fs) h = (h.0, at_none fs h.1)

  pub listed_at : (fs : List (Bool × ℕ)) → Listed fs → Numbered (λ (a : Answer). a.number) (at_place p fs)
  unfolding at_place
  listed_at [] h = tt
  listed_at (f ∷ fs) h = (h.0, listed_at fs h.1)

  -- the number 0 is given: none holds at the place
  pub zero_at : (fs : List (Bool × ℕ)) → Listed fs → first_of fs 0 ≡ 0 → None (at_place p fs)
  zero_at fs h e = none-at fs (none_first (λ (n : ℕ). n) fs 0 h e).0

  -- a number is given: it is the answer at the place, whatever follows
  pub first-at : (fs : List (Bool × ℕ)) (n : ℕ) → n ≡ first_of fs 0 → (n ≡ 0 → ⊥) → (w : Answer) → first_of (at_place p fs) w ≡ make_answer n p 0
  unfolding at_place first_of
  first-at [] n e h w = absurd (h e)
  first-at ((true, m) ∷ fs) n e h w = rw (← e)
  first-at ((false, m) ∷ fs) n e h w = first-at fs n e h w

pub holding-listed : (a : Account) (r : Row) (price : ℕ) → Listed (holding_faults a r price)
unfolding holding_faults
holding-listed a r price = numbered-append _ (row_faults a r) _ (row_listed a r) (omega arith, tt)

pub pair-listed : (l s : Leg) (amount a b : ℕ) → Listed (pair_faults l s amount a b)
unfolding pair_faults
pair-listed l s amount a b = (omega arith, (omega arith, (omega arith, (omega arith, tt))))

pub line-listed : (b : PricedBook) (earlier : List Line) (l : Line) → Listed (line_faults b earlier l)
unfolding line_faults
line-listed b earlier l = (omega arith, pair-listed _ _ _ _ _)
