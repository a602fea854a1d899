-- Document 01, "An answer is either accepted with its figures or refused with number and places": what the check promises of columns. Assumes nothing.
use mathlib.Core.{Path.◌≡◌, Bool.Bool, Bool.cond, List.List, List.[]}
use Rattle.std.specs.Prelude.{ℕ, ◌≤◌, Result, Ok, Err}
use lib.{Dec.eqb, ListN.length}
use Rattle.lists.specs.Tables.{front}
use Rattle.article.specs.Answer.{Answer, make_answer}
use Rattle.holding.specs.declared.Head.{Head}
use Rattle.refusals.specs.Refusals.{number_of}
use Rattle.columns.specs.Columns.{Columns, submission, holding_sizes, line_sizes}
use Rattle.sizes.specs.Sizes.{differ}
use Rattle.proposal.specs.{Submission.priced, Submission.remainders_of, Submission.margins_of, Submission.ranked, Submission.InRankingOrder, Outcome.outcome, Demands.Demands}
use Rattle.proposal.specs.{Submission.units_of, Outcome.fault_answer, Outcome.accepted}
use Rattle.refusals.specs.declared.Refusal.{Refusal}
use Rattle.proposal.specs.declared.Fault.{Fault}
use Rattle.verdict.specs.declared.Verdict.{Verdict, TheVariants.Accepted, TheVariants.Refused}

-- the paper's number and values of each answer: 0 with total units and cents, or the refusal's number with its two places
abbrev pub answer_of : Verdict → Answer
answer_of (Accepted units cents) = make_answer 0 units cents
answer_of (Refused number place second) = make_answer number place second

-- the case of an answer: accepted for the number 0 and for no other
unfoldable pub verdict_of : Answer → Verdict
verdict_of a = cond (eqb a.number 0) (Accepted a.first a.second) (Refused a.number a.first a.second)

-- what goes into a list: on a refusal nothing
unfoldable pub written : Answer → List ℕ → List ℕ
written a xs = cond (eqb a.number 0) xs []

-- a refusal: its number and places
abbrev pub refusal_of : Fault Refusal → Verdict
refusal_of f = Refused (number_of f.refusal) f.place f.second

-- whether 1 holds of the columns, and the outcome of what they hold with a head; `two` says whether 2 holds of what is lent
abbrev pub columns_differ : Columns → Bool
columns_differ c = differ (holding_sizes c) (line_sizes c)

unfoldable pub outcome_in : Bool → Head → Columns → Answer
outcome_in two h c = outcome (columns_differ c) two (submission h c)

-- scratch for a book of n holdings: where there are no more than 256, an entry for each in each list
pub record ScratchRoom (n : ℕ) (legs left margins ranks : List ℕ) : Type 0 where
  pub legs_held : n ≤ 256 → n ≤ length legs
  pub left_held : n ≤ 256 → n ≤ length left
  pub margins_held : n ≤ 256 → n ≤ length margins
  pub ranks_held : n ≤ 256 → n ≤ length ranks

-- what the check leaves in its scratch when it accepts; what it keeps in `legs` is its own, and free
pub record Scratch : Type 0 where
  pub left : List ℕ
  pub margins : List ℕ
  pub ranks : List ℕ

abbrev pub make_scratch : List ℕ → List ℕ → List ℕ → Scratch
make_scratch left margins ranks = record { left = left; margins = margins; ranks = ranks }

-- each holding's remainder, its margin and the ranking, at the front of the lists, the entries past them kept
pub record Worked (h : Head) (c : Columns) (before after : Scratch) : Type 0 where
  pub remainders : after.left ≡ front (remainders_of (priced (submission h c)) (submission h c).lines) before.left
  pub margins : after.margins ≡ front (margins_of (priced (submission h c)) (submission h c).lines) before.margins
  pub ranking : after.ranks ≡ front (ranked (priced (submission h c)) (submission h c).lines) before.ranks

-- what it finds: the first fault is the outcome; where there is none the figures are, and total units are at hand
unfoldable pub Found : Bool → Head → Columns → Scratch → Scratch → Result ℕ (Fault Refusal) → Type 0
Found two h c before after (Ok units) =
    (outcome_in two h c ≡ accepted (priced (submission h c)) (submission h c).lines) × (units ≡ units_of (priced (submission h c)) (submission h c).lines) × Worked h c before after
Found two h c before after (Err f) = outcome_in two h c ≡ fault_answer {A = ℕ} (Err f)

-- what the check promises
pub record Judges (two : Bool) (h : Head) (c : Columns) (before after : Scratch) (r : Verdict) : Type 0 where
  -- the first refusal in the check's order, or the figures
  pub answer : answer_of r ≡ outcome_in two h c
  -- accepted is a case of its own
  pub verdict : r ≡ verdict_of (outcome_in two h c)
  -- after a refusal what the scratch holds is free
  pub worked : (answer_of r).number ≡ 0 → Worked h c before after
  -- the ranking has every holding once, by margin of the remainder, largest first, ties by lower number
  pub order : InRankingOrder (priced (submission h c)) (submission h c).lines
  -- accepted exactly when, the least, and the rounding
  pub keeps : Demands (submission h c) (columns_differ c) two (answer_of r)
