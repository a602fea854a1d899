-- `put_word` writes the i-th number by the library's conversion. Assumes nothing.
use Rattle.words.proofs.Digits.{with_eight}
use Rattle.words.proofs.put_word.Goals as goal

pub returns : goal.returns
returns c = with_eight _ _ _ _ c.requires c.to_le_bytes-eight.ensures
