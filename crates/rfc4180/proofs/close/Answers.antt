-- `close` goes on past a byte that may be quoted. Assumes nothing.
use Rattle.std.proofs.Common.{arith}
use Rattle.std.proofs.lemmas.Bool.Decides.{nat_tests}
use Rattle.rfc4180.proofs.Scan.{close_turn}
use Rattle.rfc4180.proofs.close.Goals as goal

pub loop-i-preserved : goal.loop-i-preserved
loop-i-preserved c =
    let turn = close_turn c.args.text.now c.loop-i.i c.loop-i-test.true in
    grind (arith, nat_tests)
