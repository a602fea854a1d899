-- From the check's answer and the two lists to what is promised of what is lent. Assumes nothing.
use mathlib.Core.Path.{◌≡◌, refl, sym, ap, subst, ◌∙◌}
use mathlib.Core.Bool.{Bool}
use mathlib.Core.List.{List}
use Prim.Native.Nat.{ℕ, ◌*◌, ◌≤◌}
use native.Mathlib.Omega.{arith}
use lib.ListN.{length, take, drop, length-append}
use lib.Seq.{take_at}
use borrow.Author.Tests.{eq-eqb}
use Rattle.lists.specs.Tables.{front}
use Rattle.lists.proofs.Tables.{length_to}
use Rattle.article.specs.Answer.{Answer, make_answer}
use Rattle.words.specs.Words.{encode}
use Rattle.holding.specs.declared.Head.{Head}
use Rattle.columns.specs.Columns.{Columns, count_in, rows_in, submission, holding_sizes, line_sizes}
use Rattle.columns.proofs.Submitted.{column-entries}
use Rattle.sizes.specs.Sizes.{Room}
use Rattle.sizes.proofs.Sizes.{room-exactly, lengths-exactly}
use Rattle.proposal.specs.Submission.{book_of, priced, remainders_of, ranked}
use Rattle.verdict.specs.Judges.{verdict_of, written, columns_differ, outcome_in, Scratch, Judges}
use Rattle.verdict.specs.declared.Verdict.{Verdict}
use Rattle.verdict.specs.declared.Verdict.TheVariants.{Accepted, Refused}
use Rattle.verdict.proofs.Judged.{written_none, ranked-length, all-ranked}
use Rattle.lent.specs.Boundary.{Lent, make_lent, Answers}
use Rattle.lent.specs.Boundary.{written_lists, two, outcome_of, Checks}
use Rattle.lent.proofs.Returned.{returned-demands}

-- a refusal leaves a list as it was
nothing_written : (a : Answer) (xs old : List ℕ) → (a.number ≡ 0 → ⊥) → old ≡ front (encode (written a xs)) old
unfolding front encode
nothing_written a xs old h = rw (written_none a xs h)

-- a verdict is not of both cases
is-refused : Verdict → Type 0
is-refused (Accepted units cents) = ⊥
is-refused (Refused number place second) = Unit {0}

refused-number : {number place second : ℕ} (a : Answer) → make_answer number place second ≡ a → Refused number place second ≡ verdict_of a → a.number ≡ 0 → ⊥
unfolding verdict_of is-refused
refused-number a e v z =
    let other : Refused _ _ _ ≡ Accepted a.first a.second = v ∙ rw (eq-eqb _ _ z) in
    subst is-refused other tt

-- a list with others written at its front holds them
held : (xs now old : List ℕ) (n : ℕ) → now ≡ front xs old → length xs ≡ n → n ≤ length now
unfolding front
held xs now old n e l = omega (arith, ap (λ (ys : List ℕ). length ys) e, length-append xs (drop (length xs) old))

module _ (head : Head) (c : Columns) where
  abbrev n : ℕ
  n = count_in c.holdings

  count-is : (priced (submission head c)).count ≡ n
  unfolding priced book_of submission rows_in
  count-is = length_to n _

  remainders-length : length (remainders_of (priced (submission head c)) (submission head c).lines) ≡ n
  unfolding remainders_of
  remainders-length = length_to (priced (submission head c)).count _ ∙ count-is

  module _ (before : Lent) where
    -- the answer on the outcome, and the two lists, are all that is promised
    checks_all : (remainder' ranking' out' : List ℕ) (r : ℕ) → Answers (outcome_of head c before) before.answer out' r
        → remainder' ≡ front (encode (written (outcome_of head c before) (remainders_of (priced (submission head c)) (submission head c).lines))) before.remainder
        → ranking' ≡ front (encode (written (outcome_of head c before) (ranked (priced (submission head c)) (submission head c).lines))) before.ranking
        → Checks head c before (make_lent remainder' ranking' out') r
    unfolding outcome_of outcome_in two
    checks_all remainder' ranking' out' r returned p q =
        let d = returned-demands (columns_differ c) (two c before) (submission head c) before.answer out' r
        (λ e. ((room-exactly (written_lists c before) (length before.answer)).0 e).answer) returned in
        let l = lengths-exactly (holding_sizes c) (line_sizes c) (written_lists c before) (length before.answer) in
        record {
          submitted = column-entries head c;
          returned = returned;
          remainder = p;
          ranking = q;
          untouched = λ h.
              let none : (outcome_of head c before).number ≡ 0 → ⊥ = λ e. h (returned.number ∙ e) in
              (p ∙ sym (nothing_written _ _ _ none), q ∙ sym (nothing_written _ _ _ none));
          order = all-ranked (submission head c);
          exactly = ((λ e. let (neither, rest) = d.exactly.0 e in (l.0 neither, rest)), (λ a. d.exactly.1 (l.1 a.0, a.1)));
          keeps = d;
        }

    -- what the check says of what is lent, by its case
    module _ {t : Bool} {s s' : Scratch} {v : Verdict} (same : t ≡ two c before) (given : Judges t head c s s' v) where
      judged_as : {w : Verdict} → v ≡ w → Judges (two c before) head c s s' w
      judged_as e = rw (← same, ← e) given

      -- refused: neither list is written
      pub refused_checks : {number place second r : ℕ} {out' : List ℕ} → v ≡ Refused number place second → Answers (make_answer number place second) before.answer out' r
          → Checks head c before (make_lent before.remainder before.ranking out') r
      unfolding outcome_of
      refused_checks e returned =
          let judges = judged_as e in
          let none = refused-number (outcome_of head c before) judges.answer judges.verdict in
          checks_all _ _ _ _ (rw (← judges.answer) returned) (nothing_written _ _ _ none) (nothing_written _ _ _ none)

      -- accepted: the lists are long enough, and have what the check left in its scratch
      module _ {units cents : ℕ} (e : v ≡ Accepted units cents) where
        judges : Judges (two c before) head c s s' (Accepted units cents)
        judges = judged_as e

        accepted : (outcome_of head c before).number ≡ 0
        unfolding outcome_of
        accepted = sym (ap (λ (a : Answer). a.number) judges.answer)

        room : Room (written_lists c before) (length before.answer)
        unfolding two
        room = (room-exactly _ _).0 (judges.keeps.exactly.0 refl).0.1

        order_length : length (ranked (priced (submission head c)) (submission head c).lines) ≡ n
        order_length = ranked-length (submission head c) ∙ count-is

        pub remainder_room : (n ≤ length s'.left) × (8 * n ≤ length before.remainder)
        unfolding written_lists
        remainder_room = (held _ _ _ _ (judges.worked refl).remainders remainders-length, omega (arith, room.each.0))

        pub ranking_room : (n ≤ length s'.ranks) × (8 * n ≤ length before.ranking)
        unfolding written_lists
        ranking_room = (held _ _ _ _ (judges.worked refl).ranking order_length, omega (arith, room.each.1.0))

        -- what is written of the scratch is what was put at its front
        in_list : (xs now old bytes : List ℕ) → now ≡ front xs old → length xs ≡ n → front (encode (take n now)) bytes ≡ front (encode (written (outcome_of head c before) xs)) bytes
        unfolding front written
        in_list xs now old bytes f l =
            rw (eq-eqb (outcome_of head c before).number 0 accepted) (ap (λ (ys : List ℕ). front (encode ys) bytes) (ap (take n) f ∙ take_at xs _ _ l))

        pub accepted_checks : {remainder' ranking' out' : List ℕ} {r : ℕ} → remainder' ≡ front (encode (take n s'.left)) before.remainder
            → ranking' ≡ front (encode (take n s'.ranks)) before.ranking → Answers (make_answer 0 units cents) before.answer out' r
            → Checks head c before (make_lent remainder' ranking' out') r
        unfolding outcome_of
        accepted_checks p q returned =
            checks_all _ _ _ _ (rw (← judges.answer) returned)
            (p ∙ in_list _ _ _ _ (judges.worked refl).remainders remainders-length)
            (q ∙ in_list _ _ _ _ (judges.worked refl).ranking order_length)
