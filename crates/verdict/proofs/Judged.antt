-- From an outcome to what the check promises: of a refusal, and of the figures. Assumes nothing.
use mathlib.Core.Path.{◌≡◌, sym}
use mathlib.Core.Bool.{Bool}
use mathlib.Core.List.{List, []}
use Prim.Native.Nat.{ℕ}
use native.Mathlib.Omega.{arith}
use Rattle.std.specs.Prelude.{Err}
use Rattle.refusals.specs.Refusals.{number_of}
use Rattle.refusals.proofs.Refusals.{number-from_1}
use lib.ListN.{length}
use borrow.Author.Tests.{ne_eqb}
use Rattle.ranking.proofs.Ranking.{ranking, ranking-length}
use Rattle.article.specs.Answer.{Answer, make_answer}
use Rattle.holding.specs.declared.Head.{Head}
use Rattle.columns.specs.Columns.{Columns, submission, holding_sizes, line_sizes}
use Rattle.sizes.specs.Sizes.{differ}
use Rattle.proposal.specs.Submission.{Submission, priced, margin, units_of, ranked, InRankingOrder, cents_of, RoundedUp}
use Rattle.proposal.specs.Outcome.{fault_answer, accepted}
use Rattle.refusals.specs.declared.Refusal.{Refusal}
use Rattle.proposal.specs.declared.Fault.{Fault}
use Rattle.proposal.proofs.Demands.{demands}
use Rattle.proposal.proofs.Figures.{rounded, rounded_once}
use Rattle.verdict.specs.Judges.{verdict_of, written, refusal_of, outcome_in, Scratch, Worked, Judges}
use Rattle.verdict.specs.declared.Verdict.TheVariants.{Accepted}

-- a refusal writes nothing into a list
pub written_none : (a : Answer) (xs : List ℕ) → (a.number ≡ 0 → ⊥) → written a xs ≡ []
unfolding written
written_none a xs h = rw (ne_eqb _ _ h)

module _ (s : Submission) where
  pub ranked-length : length (ranked (priced s) s.lines) ≡ (priced s).count
  unfolding ranked
  ranked-length = ranking-length (margin (priced s) s.lines) (priced s).count

  -- the ranking has every holding once, in order
  pub all-ranked : InRankingOrder (priced s) s.lines
  unfolding ranked
  all-ranked = (ranking (margin (priced s) s.lines) (priced s).count).order

module _ (two : Bool) (h : Head) (c : Columns) (before after : Scratch) where
  pub refusal-judged : (f : Fault Refusal) → outcome_in two h c ≡ fault_answer {A = ℕ} (Err f) → Judges two h c before after (refusal_of f)
  unfolding fault_answer verdict_of outcome_in
  refusal-judged f e =
      let n : number_of f.refusal ≡ 0 → ⊥ = λ z. omega (arith, number-from_1 f.refusal) in
      record {
        answer = sym e;
        verdict = rw (e, ne_eqb (number_of f.refusal) 0 n);
        worked = λ z. absurd (n z);
        order = all-ranked (submission h c);
        keeps = rw (← e) (demands (differ (holding_sizes c) (line_sizes c)) two (submission h c));
      }

  pub figures-judged : (units cents : ℕ) → outcome_in two h c ≡ accepted (priced (submission h c)) (submission h c).lines → units ≡ units_of (priced (submission h c)) (submission h c).lines
      → RoundedUp units cents → Worked h c before after → Judges two h c before after (Accepted units cents)
  unfolding accepted verdict_of outcome_in
  figures-judged units cents e u r w =
      let answered : make_answer 0 units cents ≡ outcome_in two h c = rw (rounded_once units cents (cents_of units) r (rounded units), u) (sym e) in
      record {
        answer = answered;
        verdict = rw (← answered);
        worked = λ _. w;
        order = all-ranked (submission h c);
        keeps = rw answered (demands (differ (holding_sizes c) (line_sizes c)) two (submission h c));
      }
