-- A text printed into a list: with room for it and without, and what a caller takes from that. Assumes nothing.
use mathlib.Core.Path.{◌≡◌, sym, ◌∙◌}
use mathlib.Core.List.{List}
use Prim.Native.Nat.{ℕ, ◌≤◌, ◌<◌}
use Rattle.std.proofs.Common.{Result, Ok, Err}
use native.Mathlib.Omega.{arith}
use lib.Dec.{ltb}
use lib.ListN.{length, take}
use borrow.Author.Tests.{lt-ltb, le-ltb, ltb-true, ltb-false}
use Rattle.lists.specs.Tables.{front}
use Rattle.lists.proofs.Overwrite.{overwrite-front}
use Rattle.lists.proofs.Tests.{either_way}
use Rattle.article.specs.Answer.{make_answer}
use Rattle.report.specs.Report.{Written, printed_answer, Prints}
use Rattle.refusals.specs.declared.Refusal.{Refusal}
use Rattle.refusals.specs.declared.Refusal.TheVariants.{NoRoom}
use Rattle.report.proofs.Written.{written-part, written-counted, written-few}

module _ (text old : List ℕ) where
  -- written at the front, where there is room
  pub put-prints : {now : List ℕ} → length text ≤ length old → now ≡ front text old → Prints text old now (Ok (length text))
  put-prints h e =
      let t = le-ltb (length old) (length text) h in
      record { case = rw t; bytes = rw t e }

  -- left alone, where there is not
  pub refused_prints : length old < length text → Prints text old old (Err NoRoom)
  refused_prints h =
      let t = lt-ltb (length old) (length text) h in
      record { case = rw t; bytes = rw t }

-- written into a buffer and printed from there: no longer than the buffer
pub buffer_prints : {text blank buffer old now : List ℕ} {n room : ℕ} {r : Result ℕ Refusal} → length buffer ≤ room → Written text 0 n blank buffer → Prints (take n buffer) old now r
    → Prints text old now r × (length text ≤ room)
buffer_prints h w p = (rw (written-part w) at p, omega (arith, w.ends, written-few w))

module _ {text old now : List ℕ} {r : Result ℕ Refusal} (p : Prints text old now r) where
  put-case : length text ≤ length old → (r ≡ Ok (length text)) × Written text 0 (length text) old now
  put-case h =
      let t = le-ltb (length old) (length text) h in
      (rw t at p.case, record { ends = omega arith; bytes = rw t at p.bytes ∙ sym (overwrite-front text old) })

  refused-case : length old < length text → (r ≡ Err NoRoom) × (now ≡ old)
  refused-case h =
      let t = lt-ltb (length old) (length text) h in
      (rw t at p.case, rw t at p.bytes)

  pub prints-written : length text ≤ length old → (printed_answer r ≡ make_answer 0 (length text) 0) × (now ≡ front text old)
  prints-written h =
      let (e, w) = put-case h in
      (rw e, w.bytes ∙ overwrite-front text old)

  pub prints-too_short : length old < length text → (printed_answer r ≡ make_answer 2 0 0) × (now ≡ old)
  prints-too_short h =
      let (e, same) = refused-case h in
      (rw e, same)

  -- the bytes that are counted are within the list
  pub written-within : {n : ℕ} → r ≡ Ok n → (n ≤ length now) × (n ≡ length (take n now))
  written-within {n} e =
      either_way (ltb (length old) (length text))
      (λ t.
      let (f, _) = refused-case (ltb-true _ _ t) in
      let z : ◌≡◌ {A = ℕ} 0 1 = cc in
      absurd (omega arith))
      (λ t.
      let (f, w) = put-case (ltb-false _ _ t) in
      let all : n ≡ length text = cc in
      rw all (written-few w, written-counted w))
