-- `remainder_next` puts the digits of a character behind the remainder. Assumes nothing.
use Rattle.std.proofs.Common.{sym, ◌∙◌, arith}
use Rattle.lei.proofs.Characters.{ascii_capital, capital-test, next-capital, next-other}
use Rattle.lei.proofs.remainder_next.Goals as goal

pub returns-then-is_ascii_uppercase : goal.returns-then-is_ascii_uppercase
returns-then-is_ascii_uppercase c = (next-capital _ _ _ (capital-test _ c.if-is_ascii_uppercase.ensures.cases) c.value.ensures.0, omega arith)

pub returns : goal.returns
returns c = (next-other _ _ _ (sym (c.if-is_ascii_uppercase.ensures.value ∙ ascii_capital _)) c.value-2.ensures.0, omega arith)
