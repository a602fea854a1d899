-- What the host reads keeps the demands on the outcome. Assumes nothing.
use mathlib.Core.Path.{◌≡◌, sym, ap, ◌∙◌}
use mathlib.Core.Bool.{Bool, false}
use mathlib.Core.List.{List}
use Prim.Native.Nat.{ℕ, ◌≤◌}
use lib.ListN.{length}
use Rattle.article.specs.Answer.{Answer, make_answer}
use Rattle.proposal.specs.Submission.{Submission}
use Rattle.proposal.specs.Outcome.{outcome}
use Rattle.proposal.specs.Demands.{Demands}
use Rattle.proposal.proofs.Demands.{demands}
use Rattle.lent.specs.Boundary.{answer_in, Answers}

-- demands on an answer are demands on one of the same number, with the same figures where it is accepted
same-demands : (s : Submission) (one two : Bool) (a : Answer) (r x y : ℕ) → r ≡ a.number → (a.number ≡ 0 → (x ≡ a.first) × (y ≡ a.second))
    → Demands s one two a → Demands s one two (make_answer r x y)
same-demands s one two a r x y e f d = record {
  exactly = rw e d.exactly;
  cheapest = λ z. let n : a.number ≡ 0 = sym e ∙ z in rw (f n).0 (d.cheapest n);
  rounding = λ z. let n : a.number ≡ 0 = sym e ∙ z in rw ((f n).0, (f n).1) (d.rounding n);
  undated = d.undated;
  unlettered = d.unlettered;
  count = d.count;
  terms = d.terms;
  remainders = d.remainders;
  each_remainder = d.each_remainder;
}

-- where a slice below 16 bytes is refused, what is accepted is read
pub returned-demands : (one two : Bool) (s : Submission) (old after : List ℕ) (r : ℕ) → (two ≡ false → 16 ≤ length old) → Answers (outcome one two s) old after r
    → Demands s one two (answer_in r after)
returned-demands one two s old after r long returned =
    let d = demands one two s in
    same-demands s one two (outcome one two s) r _ _ returned.number
    (λ z.
    let read = returned.reads (long (d.exactly.0 z).0.1) in
    (ap (λ (a : Answer). a.first) read, ap (λ (a : Answer). a.second) read))
    d
