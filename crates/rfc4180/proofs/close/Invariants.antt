-- `close` finds the quote that closes: from where the loop is it is the same quote. Assumes nothing.
use Rattle.std.proofs.Common.{◌≡◌, ◌-◌, length}
use Rattle.rfc4180.specs.Reading.{close_at}
use Rattle.rfc4180.proofs.close.Given as goal

abbrev pub invariant-loop-i : goal.invariant-loop-i
invariant-loop-i l = close_at l.text l.i ≡ close_at l.text l.at

abbrev pub decreases-loop-i : goal.decreases-loop-i
decreases-loop-i l = length l.text - l.i
