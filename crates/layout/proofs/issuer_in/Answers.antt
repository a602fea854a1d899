-- `issuer_in` looks an issuer up among the codes, and else judges it. Assumes nothing.
use Rattle.codes.specs.Codes.{cells}
use Rattle.layout.proofs.issuer_in.Goals as goal

pub returns-in-Some : goal.returns-in-Some
unfolding cells
returns-in-Some c = rw (← c.place_in.ensures, c.in-Some.is)

pub returns-in-Ok : goal.returns-in-Ok
unfolding cells
returns-in-Ok c = rw (← c.place_in.ensures, c.in_default.is, ← c.judge.ensures, c.in-Ok.is)

pub returns-in-Err-Form : goal.returns-in-Err-Form
unfolding cells
returns-in-Err-Form c = rw (← c.place_in.ensures, c.in_default.is, ← c.judge.ensures, c.in-Err-Form.is, c.in-Err-Form.field-0-is)

pub returns-in-Err-Remainder : goal.returns-in-Err-Remainder
unfolding cells
returns-in-Err-Remainder c = rw (← c.place_in.ensures, c.in_default.is, ← c.judge.ensures, c.in-Err-Remainder.is, c.in-Err-Remainder.field-0-is)
