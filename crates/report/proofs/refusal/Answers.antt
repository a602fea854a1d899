-- `refusal` prints the line of a refusal. Assumes nothing.
use Rattle.std.proofs.Common.{rules}
use Rattle.report.specs.Report.{answer_numbers, refusal_line}
use Rattle.report.proofs.Prints.{buffer_prints}
use Rattle.report.proofs.refusal.Goals as goal

pub returns : goal.returns
unfolding refusal_line answer_numbers
returns c =
    let (printed, few) = buffer_prints (search rules) c.put_line-n.ensures.0 c.print.ensures in
    record { prints = printed; second_len_bound = few }
