-- The rows before i are opened: their legs and values are in the lists. Assumes nothing.
use Rattle.positions.proofs.Opening.{Opening}
use Rattle.positions.proofs.open.Given as goal

abbrev pub invariant-loop-i : goal.invariant-loop-i
invariant-loop-i l = Opening l.account l.columns.holdings l.columns.price l.initial.legs l.initial.left l.legs l.left l.i
