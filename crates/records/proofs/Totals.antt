-- The five totals of a list of bytes: read, and read back when they were written; and a finding with them. Assumes nothing.
use mathlib.Core.Path.{◌≡◌, refl, sym, ◌∙◌}
use mathlib.Core.List.{List, [], ◌∷◌}
use Prim.Native.Nat.{ℕ, ◌+◌, ◌/◌, ◌≤◌, ◌<◌, ◌^◌}
use native.Mathlib.Omega.{arith}
use lib.ListN.{length, get_or, set, length-set}
use lib.Seq.{get_or-set_same, get_or-set_other}
use borrow.Author.Tests.{ne_eqb}
use Rattle.lists.specs.Tables.{Each, list_to, front}
use Rattle.lists.proofs.Tests.{same_or_not}
use Rattle.lists.proofs.Tables.{take-to, to_eq, to_back, front_long}
use Rattle.words.specs.Words.{word_at, entries, decode, encode}
use Rattle.words.proofs.Encoded.{length-encode}
use Rattle.words.proofs.ReadBack.{read_back}
use Rattle.holding.specs.declared.Head.{Head}
use Rattle.article.specs.Answer.{make_answer}
use Rattle.lent.specs.Boundary.{Answers}
use Rattle.std.specs.Prelude.{Ok, Err}
use Rattle.refusals.specs.Refusals.{number_of}
use Rattle.refusals.proofs.Refusals.{number-from_1}
use Rattle.daybook.specs.declared.Refused.{Refused}
use Rattle.records.specs.Records.{totals_in, day_in}
use Rattle.records.specs.Writing.{Stored, Replied}

totals-are : (bytes : List ℕ) → 40 ≤ length bytes → totals_in bytes ≡ list_to 5 (word_at bytes)
unfolding totals_in decode entries
totals-are bytes h = take-to (length bytes / 8) 5 (word_at bytes) (omega arith)

-- five numbers that were read
pub five-read : (bytes : List ℕ) {a b c d e : ℕ} → 40 ≤ length bytes
    → a ≡ word_at bytes 0 → b ≡ word_at bytes 1 → c ≡ word_at bytes 2 → d ≡ word_at bytes 3 → e ≡ word_at bytes 4
    → a ∷ b ∷ c ∷ d ∷ e ∷ [] ≡ totals_in bytes
unfolding list_to
five-read bytes h a b c d e = (λ t. a t ∷ b t ∷ c t ∷ d t ∷ e t ∷ []) ∙ sym (totals-are bytes h)

-- one more that was read
pub read_more : (bytes five : List ℕ) (k v : ℕ) → length five ≡ 5 → k < 5 → ((j : ℕ) → j < k → get_or five j 0 ≡ word_at bytes j) → v ≡ word_at bytes k
    → (length (set five k v) ≡ 5) × ((j : ℕ) → j < k + 1 → get_or (set five k v) j 0 ≡ word_at bytes j)
read_more bytes five k v long few read e = (
  length-set five k v ∙ long,
  λ j l. same_or_not j k
      (λ s. rw s (get_or-set_same five k v 0 (omega arith) ∙ e))
      (λ o. get_or-set_other {A = ℕ} five k j v 0 o ∙ read j (omega arith)),
)

-- all five
pub all-read : (bytes five : List ℕ) → length five ≡ 5 → ((j : ℕ) → j < 5 → get_or five j 0 ≡ word_at bytes j) → 40 ≤ length bytes → five ≡ totals_in bytes
all-read bytes five long read h =
    sym (to_back 5 five 0 long) ∙ to_eq 5 (λ j. get_or five j 0) (word_at bytes) read ∙ sym (totals-are bytes h)

-- what is stored with these
pub stored_with : (n : ℕ) (bytes : List ℕ) (h : Head) (xs : List ℕ) → (40 ≤ length bytes → xs ≡ totals_in bytes)
    → Stored n bytes h (record { date = h.date; letter = h.letter; count = n; totals = xs })
unfolding day_in
stored_with n bytes h xs e = record {
  date = refl;
  letter = refl;
  count = refl;
  whole = λ l t. record { date = h.date; letter = h.letter; count = n; totals = e l t };
}

-- and five that were written
pub five-back : (xs old : List ℕ) → length xs ≡ 5 → Each (λ x. x < 2 ^ 64) xs → 40 ≤ length old → totals_in (front (encode xs) old) ≡ xs
five-back xs old n fit h =
    let long : 40 ≤ length (front (encode xs) old) = omega (arith, front_long (encode xs) old (omega (arith, length-encode xs)), h) in
    totals-are (front (encode xs) old) long
    ∙ to_eq 5 (word_at (front (encode xs) old)) (λ k. get_or xs k 0) (λ k l. read_back xs old fit k (omega arith))
    ∙ to_back 5 xs 0 n

module _ {five old new slice slice' : List ℕ} {r : ℕ} where
  -- accepted: the totals are written
  pub replied_accepted : {count : ℕ} → Answers (make_answer 0 count 0) slice slice' r → 40 ≤ length old → length five ≡ 5 → Each (λ x. x < 2 ^ 64) five
      → new ≡ front (encode five) old → Replied (Ok count) five old new slice slice' r
  replied_accepted g room long fit wrote = record { returned = g; written = wrote; back = λ _. rw wrote (five-back five old long fit room) }

  -- refused: they are kept
  pub replied_refused : {x : Refused} → Answers (make_answer (number_of x.refusal) x.place 0) slice slice' r → new ≡ old → Replied (Err x) five old new slice slice' r
  replied_refused {x} g e =
      let other : number_of x.refusal ≡ 0 → ⊥ = λ z. omega (arith, number-from_1 x.refusal, z) in
      record { returned = g; written = rw (ne_eqb (number_of x.refusal) 0 other) e; back = λ z. absurd (other z) }
