-- `write_words` writes numbers at the front: the first i are there, and then what the bytes held. Assumes nothing.
use Rattle.std.proofs.Common.{◌≡◌, length, take}
use Rattle.lists.specs.Tables.{front}
use Rattle.words.specs.Words.{encode}
use Rattle.words.proofs.write_words.Given as goal

abbrev pub invariant-loop-i : goal.invariant-loop-i
invariant-loop-i l = (length l.bytes ≡ length l.initial.bytes) × (l.bytes ≡ front (encode (take l.i l.numbers)) l.initial.bytes)
