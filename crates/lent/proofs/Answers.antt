-- The answer slice: two numbers in its first 16 bytes, or nothing written. Assumes nothing.
use mathlib.Core.Path.{◌≡◌, refl}
use mathlib.Core.List.{List, [], ◌∷◌}
use Prim.Native.Nat.{ℕ, ◌≤◌, ◌<◌, ◌^◌}
use native.Mathlib.Omega.{arith}
use lib.ListN.{length}
use borrow.Author.Tests.{lt-ltb, le-ltb}
use Rattle.article.specs.Answer.{make_answer}
use Rattle.lists.specs.Tables.{front}
use Rattle.words.specs.Words.{encode}
use Rattle.words.proofs.ReadBack.{read_back}
use Rattle.lent.specs.Boundary.{answered, Answers}

-- 16 bytes or more: both numbers are written
pub two_answered : {number first second : ℕ} {old new : List ℕ} → first < 2 ^ 64 → second < 2 ^ 64 → 16 ≤ length old
    → new ≡ front (encode (first ∷ second ∷ [])) old → Answers (make_answer number first second) old new number
unfolding answered
two_answered {number} {first} {second} {old} p q h in_bytes =
    let read = read_back (first ∷ second ∷ []) old (p, (q, tt)) in
    record {
      number = refl;
      slice = rw (le-ltb _ _ h) in_bytes;
      reads = λ _. rw (in_bytes, read 0 (omega arith), read 1 (omega arith));
      unwritten = λ l. absurd (omega arith);
    }

-- fewer: nothing is
pub none_answered : (number first second : ℕ) (old : List ℕ) → length old < 16 → Answers (make_answer number first second) old old number
unfolding answered
none_answered number first second old h = record { number = refl; slice = rw (lt-ltb _ _ h); reads = λ l. absurd (omega arith); unwritten = λ _. refl }
