-- The totals before k were read. Assumes nothing.
use Rattle.std.proofs.Common.{◌≡◌, ◌<◌, ℕ, get_or, length}
use Rattle.words.specs.Words.{word_at}
use Rattle.records.proofs.day_of.Given as goal

abbrev pub invariant-loop-k : goal.invariant-loop-k
invariant-loop-k l = record { long : length l.five ≡ 5; read : (j : ℕ) → j < l.k → get_or l.five j 0 ≡ word_at l.totals j }
