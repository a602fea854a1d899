-- `leis_into` writes the LEIs of a text's corporations, or refuses a record or the lengths. Assumes nothing.
use Rattle.std.proofs.Common.{arith, length-take}
use Rattle.received.proofs.Named.{record_refused, measured, list_refused, put_room, all_named}
use Rattle.received.proofs.leis_into.Goals as goal

pub returns-in-Err : goal.returns-in-Err
returns-in-Err c = record_refused c.args.text.now c.args.leis.now c.args.answer.now c.read.ensures _ _ c.in-Err.is c.put_fault-in-Err.ensures

pub returns-then-leis_too_short : goal.returns-then-leis_too_short
returns-then-leis_too_short c =
    let same = measured c.args.text.now c.args.leis.now c.args.answer.now c.read.ensures c.in-Ok.is c.leis_too_short.ensures in
    list_refused c.args.text.now c.args.leis.now c.args.answer.now c.read.ensures c.in-Ok.is same _ _ c.if-leis_too_short.true
    (rw c.fault_at.ensures at c.put_fault.ensures)

pub put_leis-requires : goal.put_leis-requires
put_leis-requires c =
    let same = measured c.args.text.now c.args.leis.now c.args.answer.now c.read.ensures c.in-Ok.is c.leis_too_short.ensures in
    let room = put_room c.args.text.now c.args.leis.now c.args.answer.now c.read.ensures c.in-Ok.is same c.if-leis_too_short.false in
    omega (arith, room, length-take c.in-Ok.contents.corporations c.read.new.known)

pub returns-else-leis_too_short : goal.returns-else-leis_too_short
returns-else-leis_too_short c =
    let same = measured c.args.text.now c.args.leis.now c.args.answer.now c.read.ensures c.in-Ok.is c.leis_too_short.ensures in
    all_named c.args.text.now c.args.leis.now c.args.answer.now c.read.ensures c.in-Ok.is same c.if-leis_too_short.false _ _ c.put_leis.ensures c.put_answer.ensures
