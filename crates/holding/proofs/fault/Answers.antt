-- `fault` is `fault_of`: of the four lists in turn, the first that has a fault decides. Assumes nothing.
use mathlib.Core.Path.{◌≡◌}
use mathlib.Core.List.{◌++◌}
use Prim.Native.Nat.{ℕ}
use Rattle.lists.specs.Choice.{first_of}
use Rattle.refusals.specs.Refusals.{number_of}
use Rattle.refusals.specs.declared.Refusal.{Refusal}
use Rattle.refusals.proofs.Refusals.{handed_on}
use Rattle.holding.proofs.Stages.{refused_first, refused_second}
use Rattle.holding.proofs.Ranges.{identity-listed, term-listed, worth-listed}
use Rattle.holding.specs.Holding.{identity_faults, term_faults, worth_faults, money_faults, row_faults, fault_of}
use Rattle.holding.specs.declared.Row.{Row}
use Rattle.holding.specs.declared.Account.{Account}
use Rattle.holding.proofs.fault.Goals as goal

module _ (a : Account) (r : Row) where
  -- what the row is decides, or else the lists after it; of those its term, or else its worth and its money
  here : (x : Refusal) → number_of x ≡ first_of (identity_faults r) 0 → number_of x ≡ fault_of a r
  unfolding fault_of row_faults identity_faults term_faults
  here x e = refused_first (identity_faults r) (term_faults a r ++ (worth_faults r ++ money_faults r)) x e

  later : {n : ℕ} → 0 ≡ first_of (identity_faults r) 0 → n ≡ first_of (term_faults a r ++ (worth_faults r ++ money_faults r)) 0 → n ≡ fault_of a r
  unfolding fault_of row_faults identity_faults term_faults
  later e f = refused_second (identity_faults r) (term_faults a r ++ (worth_faults r ++ money_faults r)) (identity-listed r) e f

pub returns-in_err-identity_fault : goal.returns-in_err-identity_fault
returns-in_err-identity_fault c = rw (handed_on c.from_residual.result _ c.from_residual.ensures.1) (here _ _ _ c.in_err-identity_fault.ensures)

pub returns-in_err-term_fault : goal.returns-in_err-term_fault
returns-in_err-term_fault c = rw (handed_on c.from_residual-in_err-term_fault.result _ c.from_residual-in_err-term_fault.ensures.1)
    (later _ _ c.in_ok-identity_fault.ensures (refused_first _ _ _ c.in_err-term_fault.ensures))

pub returns-in_err-worth_fault : goal.returns-in_err-worth_fault
returns-in_err-worth_fault c = rw (handed_on c.from_residual-in_err-worth_fault.result _ c.from_residual-in_err-worth_fault.ensures.1)
    (later _ _ c.in_ok-identity_fault.ensures
    (refused_second _ _ (term-listed _ _) c.in_ok-term_fault.ensures (refused_first _ _ _ c.in_err-worth_fault.ensures)))

pub returns : goal.returns
returns c = later _ _ c.in_ok-identity_fault.ensures
    (refused_second _ _ (term-listed _ _) c.in_ok-term_fault.ensures
    (refused_second _ _ (worth-listed _) c.in_ok-worth_fault.ensures c.money_fault.ensures))
