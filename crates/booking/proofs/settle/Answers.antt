-- `settle`: what refused the book before its holdings, the first fault of one, totals that are off, or what the order comes to. Assumes nothing.
use Rattle.std.proofs.Common.{ap}
use Rattle.daybook.specs.Orders.{whole}
use Rattle.booking.specs.Seeing.{trade_of}
use Rattle.booking.proofs.Refusals.{handed_on}
use Rattle.booking.proofs.Known.{concludes-before, concludes-row, concludes-totals, concludes-adding, concludes-taking, concludes-undated, concludes-matured, concludes-moved, tradable}
use Rattle.booking.proofs.settle.Goals as goal

pub returns-in_err-account : goal.returns-in_err-account
returns-in_err-account c = rw (handed_on _ (whole _) c.from_residual.ensures.1) (concludes-before _ _ _ _ _ _ c.in_err-account.was)

pub returns-in_err-scan : goal.returns-in_err-scan
returns-in_err-scan c = rw (handed_on _ _ c.from_residual-in_err-scan.ensures.1) (concludes-row _ _ _ _ _ _ c.in_ok-account.was c.in_err-scan.was)

pub returns-then-ne : goal.returns-then-ne
returns-then-ne c = rw c.from.ensures (concludes-totals _ _ _ _ _ _ c.in_ok-account.was c.in_ok-scan.was c.if-ne.ensures)

pub adding-requires : goal.adding-requires
unfolding trade_of
adding-requires c = tradable _ _ _ _ _ c.args.moved c.in_ok-account.was c.in_ok-scan.was c.if-ne.ensures c.requires (ap trade_of c.in-Add.is)

pub taking-requires : goal.taking-requires
unfolding trade_of
taking-requires c = tradable _ _ _ _ _ c.args.moved c.in_ok-account.was c.in_ok-scan.was c.if-ne.ensures c.requires (ap trade_of c.in-Take.is)

pub returns-in-Add : goal.returns-in-Add
returns-in-Add c = concludes-adding _ _ _ _ _ _ c.in_ok-account.was c.in_ok-scan.was c.if-ne.ensures c.requires c.in-Add.is c.adding.ensures

pub returns-in-Take : goal.returns-in-Take
returns-in-Take c = concludes-taking _ _ _ _ _ _ c.in_ok-account.was c.in_ok-scan.was c.if-ne.ensures c.requires c.in-Take.is c.taking.ensures

pub returns-in_err-later-in-MoveTo : goal.returns-in_err-later-in-MoveTo
returns-in_err-later-in-MoveTo c =
    rw (handed_on _ (whole _) c.from_residual-in_err-later-in-MoveTo.ensures.1)
    (concludes-undated _ _ _ _ _ _ c.in_ok-account.was c.in_ok-scan.was c.if-ne.ensures c.in-MoveTo.is c.in_err-later-in-MoveTo.ensures)

pub returns-in_err-moved-in-MoveTo : goal.returns-in_err-moved-in-MoveTo
returns-in_err-moved-in-MoveTo c =
    rw (handed_on _ _ c.from_residual-in_err-moved-in-MoveTo.ensures.1)
    (concludes-matured _ _ _ _ _ _ c.in_ok-account.was c.in_ok-scan.was c.if-ne.ensures c.in-MoveTo.is c.in_ok-later-in-MoveTo.ensures c.in_err-moved-in-MoveTo.was)

pub returns-in_ok-moved-in-MoveTo : goal.returns-in_ok-moved-in-MoveTo
returns-in_ok-moved-in-MoveTo c =
    concludes-moved _ _ _ _ _ _ c.in_ok-account.was c.in_ok-scan.was c.if-ne.ensures c.in-MoveTo.is c.in_ok-later-in-MoveTo.ensures c.in_ok-moved-in-MoveTo.was
