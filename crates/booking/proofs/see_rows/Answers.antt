-- `see_rows`: holdings in turn, to the first fault or to the end. Assumes nothing.
use Rattle.std.proofs.Common.{◌≡◌, ℕ, Ok, take, subst, arith}
use lib.Seq.{length-take-le}
use Rattle.booking.specs.Seeing.{Seen}
use Rattle.booking.proofs.Refusals.{handed_on}
use Rattle.booking.proofs.Seen.{seen_countable}
use Rattle.booking.proofs.Scanned.{seen_next, seen_to_end}
use Rattle.booking.proofs.see_rows.Goals as goal

pub loop-i-init : goal.loop-i-init
loop-i-init g c = λ list lists long. c.unseen-scan.ensures c.args.account c.args.trade

pub see-requires : goal.see-requires
see-requires g c =
    let (list, lists, long) = c.requires.listed in
    seen_countable (c.loop-i.invariant list lists long) c.requires.valued (length-take-le c.loop-i.i list (omega (arith, long))) (omega (arith, c.requires.few))

pub returns-in_err-scan : goal.returns-in_err-scan
returns-in_err-scan g c = λ list lists long.
    rw (handed_on _ _ c.from_residual.ensures.1)
    (seen_to_end _ c.args.count list lists c.row.ensures c.loop-i-test.true (omega (arith, long)) (c.loop-i.invariant list lists long) c.in_err-scan.ensures)

pub loop-i-preserved : goal.loop-i-preserved
loop-i-preserved g c = λ list lists long.
    seen_next _ c.args.count list lists c.row.ensures c.loop-i-test.true (omega (arith, long)) (c.loop-i.invariant list lists long) c.in_ok-scan.ensures

pub returns : goal.returns
returns g c = λ list lists long.
    let end : c.loop-i.i ≡ c.args.count = omega arith in
    subst (λ (n : ℕ). Seen c.args.account c.args.trade (take n list) (Ok c.loop-i.scan)) end (c.loop-i.invariant list lists long)
