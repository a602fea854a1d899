-- `word` reads the i-th number by the library's conversion. Assumes nothing.
use Rattle.std.proofs.Common.{◌*◌, arith}
use Rattle.words.specs.Words.{word_at}
use Rattle.words.proofs.Digits.{number-eight}
use Rattle.words.proofs.word.Goals as goal

pub returns : goal.returns
unfolding word_at
returns c = omega (arith, c.from_le_bytes.ensures, number-eight c.args.bytes.now (8 * c.args.i) c.requires)
