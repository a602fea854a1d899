-- The outcome stage by stage, in the check's order: a stage that finds a fault decides, and one that finds none hands on. Assumes nothing.
use mathlib.Core.Path.{◌≡◌, refl, sym, ap, ◌∙◌}
use mathlib.Core.Bool.{Bool, false, not, cond}
use mathlib.Core.List.{List, ◌++◌}
use Prim.Native.Nat.{◌≤◌}
use lib.ListN.{length}
use borrow.Author.Tests.{le-ltb, eq-eqb, ne_eqb}
use Rattle.lists.specs.Choice.{first_of}
use Rattle.lists.proofs.Firsts.{Numbered, first-append, first_of-none, first_found, first-passed}
use Rattle.holding.specs.Holding.{head_faults, head_fault}
use Rattle.holding.proofs.Heads.{head-listed}
use Rattle.article.specs.Answer.{Answer, make_answer}
use Rattle.pairing.specs.Pairing.{saving, priced_total}
use Rattle.pairing.specs.declared.Line.{Line}
use Rattle.proposal.specs.Submission.{Submission, PricedBook, terms_of, priced}
use Rattle.proposal.specs.Outcome.{at_place, totals_differ, totals_faults, size_faults, from_book, from_head, faults, first_fault, accepted, outcome}
use Rattle.proposal.proofs.Places.{first-at, zero_at}
use Rattle.proposal.proofs.Clear.{number}

-- what a stage found of its refusals, with those that follow it
module _ (o : Answer) (stage rest : List (Bool × Answer)) (z : Answer) (so : o ≡ first_of (stage ++ rest) z) (f : Answer) (found : f ≡ first_fault stage) where
  pub refuses : (f.number ≡ 0 → ⊥) → o ≡ f
  refuses h = so ∙ first_found number stage rest (make_answer 0 0 0) z refl (λ e. h (ap number found ∙ e)) ∙ sym found

  pub passes : Numbered number stage → f.number ≡ 0 → o ≡ first_of rest z
  passes n e = so ∙ first-passed number stage rest (make_answer 0 0 0) z n (sym (ap number found) ∙ e)

module _ (one two : Bool) (s : Submission) where
  -- lengths that fit: the head, holdings, lines, pairs and totals decide
  pub from-lengths : one ≡ false → two ≡ false → length s.rows ≤ 256 → length s.lines ≤ 512 → outcome one two s ≡ first_of (from_head s) (accepted (priced s) s.lines)
  unfolding outcome faults size_faults at_place first_of
  from-lengths p q h m = rw (p, le-ltb _ _ h, le-ltb _ _ m, q)

-- 24 on the valuation date, 26 on the letter
module _ (s : Submission) (o z : Answer) (so : o ≡ first_of (from_head s) z) where
  pub unvalued : (head_fault s.head ≡ 0 → ⊥) → o ≡ make_answer (head_fault s.head) 0 0
  unfolding head_fault
  unvalued h = so ∙ first-append (at_place 0 (head_faults s.head)) (from_book s) z ∙ first-at 0 (head_faults s.head) _ refl h _

  pub valued : head_fault s.head ≡ 0 → o ≡ first_of (from_book s) z
  unfolding head_fault
  valued e =
      so ∙ first-append (at_place 0 (head_faults s.head)) (from_book s) z
      ∙ first_of-none (at_place 0 (head_faults s.head)) _ (zero_at 0 (head_faults s.head) (head-listed s.head) e)

-- 17 at the end
module _ (b : PricedBook) (lines : List Line) (o z : Answer) (so : o ≡ first_of (totals_faults b lines) z) where
  pub totals_differ_lem : (priced_total (terms_of b) b.price ≡ saving (terms_of b) lines → ⊥) → o ≡ make_answer 17 0 0
  unfolding first_of totals_faults totals_differ
  totals_differ_lem h = so ∙ ap (λ (t : Bool). cond (not t) (make_answer 17 0 0) z) (ne_eqb _ _ h)

  pub totals-equal : priced_total (terms_of b) b.price ≡ saving (terms_of b) lines → o ≡ z
  unfolding first_of totals_faults totals_differ
  totals-equal e = so ∙ ap (λ (t : Bool). cond (not t) (make_answer 17 0 0) z) (eq-eqb _ _ e)
