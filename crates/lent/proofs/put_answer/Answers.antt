-- `put_answer` writes both numbers, or neither into fewer than 16 bytes. Assumes nothing.
use Rattle.std.proofs.Common.{rules}
use Rattle.lent.proofs.Answers.{two_answered, none_answered}
use Rattle.lent.proofs.put_answer.Goals as goal

pub returns-then-enough : goal.returns-then-enough
returns-then-enough c = two_answered (search rules) (search rules) (search rules) (search rules)

pub returns-else-enough : goal.returns-else-enough
returns-else-enough c = none_answered _ _ _ _ (search rules)
