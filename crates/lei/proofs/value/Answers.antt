-- `value` goes by what a character is. Assumes nothing.
use Rattle.std.proofs.Common.{sym, ◌∙◌, arith}
use Rattle.lei.proofs.Characters.{ascii_capital, capital-test, value-capital, value-other}
use Rattle.lei.proofs.value.Goals as goal

pub returns-then-is_ascii_uppercase : goal.returns-then-is_ascii_uppercase
returns-then-is_ascii_uppercase c =
    let range = c.if-is_ascii_uppercase.ensures.cases in
    let value = value-capital _ (capital-test _ range) in
    let digit = c.saturating_sub-digit.ensures in
    (omega (arith, value, range, digit), omega (arith, range, digit))

pub returns : goal.returns
returns c =
    let digit = c.saturating_sub-digit.ensures in
    (rw digit (value-other _ (sym (c.if-is_ascii_uppercase.ensures.value ∙ ascii_capital _))), omega (arith, digit))
