-- `numbers_of` gives a verdict in the paper's numbers. Assumes nothing.
use Rattle.report.specs.Report.{answer_numbers}
use Rattle.report.proofs.numbers_of.Goals as goal

pub returns-in-Accepted : goal.returns-in-Accepted
unfolding answer_numbers
returns-in-Accepted c = rw c.in-Accepted.is

pub returns-in-Refused : goal.returns-in-Refused
unfolding answer_numbers
returns-in-Refused c = rw c.in-Refused.is
