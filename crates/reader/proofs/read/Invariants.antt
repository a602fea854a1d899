-- `read`: the records before are passed, the head is that of the D, the others are in their tables, and the LEIs of the corporations in their list. Assumes nothing.
use Rattle.std.proofs.Common.{◌-◌, length, option_map}
use Rattle.layout.specs.Layout.{place_by}
use Rattle.reader.proofs.Reading.{Reading}
use Rattle.reader.proofs.read.Given as goal

abbrev pub invariant-loop-at : goal.invariant-loop-at
invariant-loop-at l =
    Reading l.text l.rows l.fn.book l.fn.lines l.fn.known l.book l.lines l.known (option_map place_by l.before) l.read.head l.read.holdings l.read.lines l.read.corporations l.place l.at

abbrev pub decreases-loop-at : goal.decreases-loop-at
decreases-loop-at l = length l.text - l.at
