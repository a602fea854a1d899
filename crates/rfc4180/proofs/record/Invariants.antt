-- `record` reads field after field: those that it has and the record from where the loop is are the one that is asked for. Assumes nothing.
use Rattle.std.proofs.Common.{◌-◌, length}
use Rattle.rfc4180.proofs.Filling.{Filling}
use Rattle.rfc4180.proofs.record.Given as goal

abbrev pub invariant-loop-piece : goal.invariant-loop-piece
invariant-loop-piece l = Filling l.text l.at l.fn.spans l.spans l.count l.next

abbrev pub decreases-loop-piece : goal.decreases-loop-piece
decreases-loop-piece l = length l.text - l.next
