-- `judge`: what was seen by the rows that are given settles the order. Assumes nothing.
use Rattle.std.proofs.Common.{arith}
use Rattle.booking.proofs.Opened.{opened_ok}
use Rattle.booking.proofs.Judged.{judged-known, judged-again, judged-unreal, judged-once}
use Rattle.booking.proofs.judge.Goals as goal
use Rattle.booking.proofs.judge.Goals.{in-Some-Ok, in-Some-Err, in-None}

pub see_rows-scan-requires-clause-few : goal.see_rows-scan-requires-clause-few
see_rows-scan-requires-clause-few g c = (opened_ok _ _ _ c.in-Ok.ensures).few

pub see_rows-scan-requires-clause-callable : goal.see_rows-scan-requires-clause-callable
see_rows-scan-requires-clause-callable g c = λ i low. c.requires.callable i low (omega (arith, (opened_ok _ _ _ c.in-Ok.ensures).within))

pub see_rows-scan-requires-clause-listed : goal.see_rows-scan-requires-clause-listed
see_rows-scan-requires-clause-listed g c =
    let (list, lists, long) = c.requires.listed in
    (list, lists, omega (arith, long, (opened_ok _ _ _ c.in-Ok.ensures).within))

pub see_rows-moved-requires-clause-few : goal.see_rows-moved-requires-clause-few
see_rows-moved-requires-clause-few g c = (opened_ok _ _ _ c.in-Ok.ensures).few

pub see_rows-moved-requires-clause-callable : goal.see_rows-moved-requires-clause-callable
see_rows-moved-requires-clause-callable g c = λ i low. c.requires.callable i low (omega (arith, (opened_ok _ _ _ c.in-Ok.ensures).within))

pub see_rows-moved-requires-clause-listed : goal.see_rows-moved-requires-clause-listed
see_rows-moved-requires-clause-listed g c =
    let (list, lists, long) = c.requires.listed in
    (list, lists, omega (arith, long, (opened_ok _ _ _ c.in-Ok.ensures).within))

pub conclude-requires-2 : goal.conclude-requires-2
conclude-requires-2 g c = judged-known c.args.short _ _ _ _ c.in-Ok.ensures c.trade_of-trade.ensures c.see_rows-scan.ensures c.requires.listed

pub returns : goal.returns
returns g c =
    let opens = c.in-Ok.ensures in
    let trade = c.trade_of-trade.ensures in
    let seen = c.see_rows-scan.ensures in
    let concludes = c.conclude-2.ensures in
    elim c.match-again.branch [
      | in-Some-Ok w ↦
          judged-again c.args.short _ _ _ _ opens trade seen c.again.ensures concludes (rw w.in-Some-Ok.field-0-is at w.in-Some-Ok.is) (rw w.moved-is w.see_rows-moved.ensures)
      | in-Some-Err w ↦ judged-unreal c.args.short _ _ _ _ opens trade seen c.again.ensures concludes (rw w.in-Some-Err.field-0-is at w.in-Some-Err.is)
      | in-None w ↦ judged-once c.args.short _ _ _ _ opens trade seen c.again.ensures concludes w.in-None.is
    ]
