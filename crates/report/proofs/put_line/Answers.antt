-- `put_line` writes a line: the numbers stand after the letter, each in at most 21 bytes. Assumes nothing.
use Rattle.std.proofs.Common.{◌≡◌, length, arith, rules}
use mathlib.Core.List.{flat_map}
use Rattle.std.proofs.Math.Seq.{take-length}
use Rattle.report.specs.Report.{after_comma}
use Rattle.report.proofs.Written.{written_none, written-more}
use Rattle.report.proofs.Lines.{line-written}
use Rattle.report.proofs.put_line.Goals as goal

pub loop-x-init : goal.loop-x-init
unfolding flat_map
loop-x-init c = record { few = omega arith; written = written_none _ _ }

pub loop-x-preserved : goal.loop-x-preserved
loop-x-preserved c = record {
  few = omega (arith, c.put_number-next.ensures.1);
  written = written-more after_comma _ c.loop-x.x-index (omega arith) (search rules) c.loop-x.invariant.written c.put_number-next.ensures.0;
}

pub returns : goal.returns
returns c =
    let all : c.loop-x.x-index ≡ length c.args.numbers.now = omega arith in
    let numbers = rw (all, take-length) at c.loop-x.invariant.written in
    (line-written _ (omega arith) (search rules) (search rules) c.put_byte-next.ensures numbers c.put_byte-last.ensures c.put_byte.ensures, omega (arith, c.put_byte-next.ensures.ends))
