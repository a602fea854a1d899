-- The byte lengths of what is lent: what it is that neither 1 nor 2 holds, and the outcome where one of 1, 3, 9, 2 does. Assumes nothing.
use mathlib.Core.Path.{◌≡◌, ap, ◌∙◌}
use mathlib.Core.Logic.{◌↔◌}
use mathlib.Core.Bool.{Bool, false, not, ◌||◌}
use mathlib.Core.List.{List, ◌∷◌}
use Prim.Native.Nat.{ℕ, ◌*◌, ◌/◌, ◌≤◌}
use native.Mathlib.Omega.{arith}
use lib.Dec.{eqb, ltb}
use lib.ListN.{length}
use borrow.Author.Tests.{eqb-true, eq-eqb, ltb-false, le-ltb, not-false}
use Rattle.lists.specs.Choice.{first_of, some}
use Rattle.lists.proofs.Firsts.{none_first, first-append}
use Rattle.lists.proofs.Tests.{neither}
use Rattle.lists.proofs.Entries.{none-some, one_of, one-some}
use Rattle.article.specs.Answer.{make_answer}
use Rattle.proposal.specs.Submission.{Submission, priced}
use Rattle.proposal.specs.Outcome.{at_place, size_faults, from_head, faults, accepted, outcome}
use Rattle.proposal.proofs.Places.{first-at}
use Rattle.sizes.specs.Sizes.{entries_of, Equal, unequal, differ, Room, too_short, Lengths, length_fault}

-- the test of one column, and of one list
abbrev other : ℕ → ℕ → Bool
other n size = not (eqb size (8 * n))

abbrev short : ℕ × ℕ → Bool
short list = ltb (list.1 / 8) list.0

pub equal-exactly : (xs : List ℕ) → (unequal xs ≡ false) ↔ Equal xs
unfolding unequal
equal-exactly xs = none-some (λ size. size ≡ 8 * entries_of xs) (other (entries_of xs)) (λ size. ((λ e. eqb-true _ _ (not-false _ e)), (λ e. ap not (eq-eqb _ _ e)))) xs

pub room-exactly : (lists : List (ℕ × ℕ)) (slice : ℕ) → (too_short lists slice ≡ false) ↔ Room lists slice
unfolding too_short
room-exactly lists slice =
    let each = none-some (λ (list : ℕ × ℕ). list.0 ≤ list.1 / 8) short (λ list. ((λ e. ltb-false _ _ e), (λ h. le-ltb _ _ h))) lists in (
      λ e.
          let (a, b) = neither (some short lists) (ltb slice 16) e in
          record { each = each.0 a; answer = ltb-false _ _ b },
      λ r. rw (each.1 r.each, le-ltb _ _ r.answer),
    )

pub differ-exactly : (holdings lines : List ℕ) → (differ holdings lines ≡ false) ↔ (Equal holdings × Equal lines)
unfolding differ
differ-exactly holdings lines = (
  λ e.
      let (a, b) = neither (unequal holdings) (unequal lines) e in
      ((equal-exactly holdings).0 a, (equal-exactly lines).0 b),
  λ h. rw ((equal-exactly holdings).1 h.0, (equal-exactly lines).1 h.1),
)

-- neither 1 nor 2 holds exactly when the lengths do
pub lengths-exactly : (holdings lines : List ℕ) (lists : List (ℕ × ℕ)) (slice : ℕ)
    → ((differ holdings lines ≡ false) × (too_short lists slice ≡ false)) ↔ Lengths holdings lines lists slice
lengths-exactly holdings lines lists slice =
    let equal = differ-exactly holdings lines in
    let room = room-exactly lists slice in (
      λ h. record { equal_holdings = (equal.0 h.0).0; equal_lines = (equal.0 h.0).1; room = room.0 h.1 },
      λ l. (equal.1 (l.equal_holdings, l.equal_lines), room.1 l.room),
    )

-- 2, and the first refusal of the lengths, by tests one after another
pub short-tested : (list : ℕ × ℕ) (lists : List (ℕ × ℕ)) (slice : ℕ) → too_short (list ∷ lists) slice ≡ (one_of short (short list) lists || ltb slice 16)
unfolding too_short some
short-tested list lists slice = ap (λ (b : Bool). b || ltb slice 16) (one-some short (short list) lists)

module _ (x y : ℕ) (xs ys : List ℕ) (two : Bool) where
  abbrev tested : Bool
  tested = one_of (other (x / 8)) (other (x / 8) x) xs

  pub first-tested : {n : ℕ} → n ≡ first_of (size_faults (one_of (other (y / 8)) tested (y ∷ ys)) two (x / 8) (y / 8)) 0 → n ≡ length_fault (x ∷ xs) (y ∷ ys) two
  unfolding length_fault differ unequal entries_of some
  first-tested e = rw (one-some (other (x / 8)) (other (x / 8) x) xs, one-some (other (y / 8)) tested (y ∷ ys)) e

-- what is known when the lengths are refused for nothing
pub record Fit (holdings lines : List ℕ) (two : Bool) : Type 0 where
  pub few-holdings : entries_of holdings ≤ 256
  pub few-lines : entries_of lines ≤ 512
  pub equal_holdings : Equal holdings
  pub equal_lines : Equal lines
  pub alike : differ holdings lines ≡ false
  pub room : two ≡ false

abbrev refusals : List ℕ → List ℕ → Bool → List (Bool × ℕ)
refusals holdings lines two = size_faults (differ holdings lines) two (entries_of holdings) (entries_of lines)

pub fits : {holdings lines : List ℕ} {two : Bool} → length_fault holdings lines two ≡ 0 → Fit holdings lines two
unfolding length_fault size_faults
fits {holdings} {lines} {two} e =
    let (one, (three, (nine, (none, _)))) = (none_first (λ (n : ℕ). n) (refusals holdings lines two) 0 (omega arith, (omega arith, (omega arith, (omega arith, tt)))) e).0 in
    let (a, b) = (differ-exactly holdings lines).0 one in
    record { few-holdings = ltb-false _ _ three; few-lines = ltb-false _ _ nine; equal_holdings = a; equal_lines = b; alike = one; room = none }

-- what the lengths are refused for is the outcome, whatever else there is
pub refused : (holdings lines : List ℕ) (two : Bool) (s : Submission) (n : ℕ) → length s.rows ≡ entries_of holdings → length s.lines ≡ entries_of lines
    → n ≡ length_fault holdings lines two → (n ≡ 0 → ⊥) → outcome (differ holdings lines) two s ≡ make_answer n 0 0
unfolding outcome faults length_fault
refused holdings lines two s n p q e h =
    let z = accepted (priced s) s.lines in
    rw (p, q) (first-append (at_place 0 (refusals holdings lines two)) (from_head s) z ∙ first-at 0 (refusals holdings lines two) n e h (first_of (from_head s) z))
