-- What the tests of 3 to 10 and 23 to 26 say of the limits, and the ranges of each holding of its tests; a row is judged before its price. Assumes nothing.
use mathlib.Core.Path.{◌≡◌, sym, ◌∙◌}
use mathlib.Core.Bool.{Bool}
use mathlib.Core.List.{List, [], ◌∷◌}
use Prim.Native.Nat.{ℕ, ◌≤◌, ◌<◌}
use lib.Dec.{ltb}
use borrow.Author.Tests.{ltb-false, le-ltb, lt-ltb}
use Rattle.lists.specs.Choice.{first_of}
use Rattle.lists.proofs.Firsts.{None, none-append, append-none, first-append, first_of-none, found_first}
use Rattle.holding.specs.Holding.{Ranges, row_faults, fault_of}
use Rattle.holding.specs.declared.Row.{Row}
use Rattle.holding.specs.declared.Account.{Account}
use Rattle.holding.proofs.Heads.{head_of-none, head-valued, head-lettered}
use Rattle.holding.proofs.Ranges.{none-of-row, fault-none, none_fault}
use Rattle.proposal.specs.Submission.{Submission, price_limit}
use Rattle.proposal.specs.Outcome.{holding_faults}
use Rattle.proposal.specs.Demands.{Limits}
use Rattle.proposal.proofs.Clear.{Clear}

module _ (a : Account) (r : Row) (price : ℕ) where
  -- 10
  abbrev dear : List (Bool × ℕ)
  dear = (ltb price_limit price, 10) ∷ []

  -- a fault of the row comes before its price
  pub row_first : (n : ℕ) → n ≡ fault_of a r → (n ≡ 0 → ⊥) → n ≡ first_of (holding_faults a r price) 0
  unfolding holding_faults fault_of
  row_first n e h = found_first n (row_faults a r) dear e h

  pub price-first : fault_of a r ≡ 0 → price_limit < price → 10 ≡ first_of (holding_faults a r price) 0
  unfolding holding_faults first_of
  price-first e h = sym (first-append (row_faults a r) dear 0 ∙ first_of-none (row_faults a r) _ (none-of-row a r e) ∙ rw (lt-ltb price_limit price h))

  pub none-ranges : None (holding_faults a r price) → Ranges a r × (price ≤ price_limit)
  unfolding holding_faults fault_of
  none-ranges h =
      let (row, last) = append-none (row_faults a r) dear h in
      (fault-none a r (first_of-none (row_faults a r) 0 row), ltb-false price_limit price last.0)

  pub ranges-none : Ranges a r → price ≤ price_limit → None (holding_faults a r price)
  unfolding holding_faults
  ranges-none g h = none-append (row_faults a r) dear (none-of-row a r (none_fault a r g)) (le-ltb price_limit price h, tt)

pub limits : (one two : Bool) (s : Submission) → Clear one two s → Limits s
limits one two s c = record {
  valued = head-valued s.head (head_of-none s.head c.head);
  lettered = head-lettered s.head (head_of-none s.head c.head);
  holdings = ltb-false _ _ c.no_3;
  lines = ltb-false _ _ c.no_9;
  each_row = λ k q. (none-ranges _ _ _ (c.holdings k q)).0;
  prices = λ k q. (none-ranges _ _ _ (c.holdings k q)).1;
}
