-- What is printed of the check's verdict and of its lists is what is printed of its submission. Assumes nothing.
use mathlib.Core.Path.{◌≡◌, refl, sym, ◌∙◌}
use mathlib.Core.Bool.{Bool, true, false, cond}
use mathlib.Core.List.{List, [], ◌∷◌, ◌++◌, flat_map}
use Prim.Native.Nat.{ℕ, ◌≤◌, ◌<◌}
use lib.Dec.{eqb}
use lib.ListN.{length, get_or, take}
use borrow.Author.Tests.{eqb-true}
use Rattle.lists.specs.Tables.{Each, list_to, front}
use Rattle.lists.specs.Order.{ordered}
use Rattle.lists.proofs.Entries.{each_so}
use Rattle.lists.proofs.Order.{ordered_below}
use Rattle.lists.proofs.Tables.{length_to, get_or-to, to_eq, to_back, take-to, front_at}
use Rattle.article.specs.Answer.{Answer}
use Rattle.holding.specs.declared.Head.{Head}
use Rattle.columns.specs.Columns.{Columns, submission}
use Rattle.ranking.specs.Ranking.{ranks_before, ranking_of}
use Rattle.proposal.specs.Submission.{Submission, book_of, priced, remainder, margin, remainders_of, margins_of, ranked}
use Rattle.verdict.specs.Judges.{answer_of, outcome_in, Scratch, Worked, Judges}
use Rattle.verdict.specs.declared.Verdict.{Verdict}
use Rattle.verdict.proofs.Judged.{ranked-length}
use Rattle.report.specs.Report.{margin_line, refusal_line, printed_lines, book_line, printed_of, judged_line, report_of}

-- the R lines count where the answer is accepted
same_lines : (a : Answer) (f g : ℕ → List ℕ) (xs ys : List ℕ) → (a.number ≡ 0 → flat_map f xs ≡ flat_map g ys) → printed_lines a f xs ≡ printed_lines a g ys
unfolding printed_lines
same_lines a f g xs ys h = by (eqb a.number 0) refl
  where
    by : (t : Bool) → eqb a.number 0 ≡ t → cond t (margin_line a ++ flat_map f xs) (refusal_line a) ≡ cond t (margin_line a ++ flat_map g ys) (refusal_line a)
    by true e = rw (h (eqb-true _ _ e))
    by false e = refl

same-texts : (f g : ℕ → List ℕ) (xs : List ℕ) → Each (λ k. f k ≡ g k) xs → flat_map f xs ≡ flat_map g xs
unfolding flat_map
same-texts f g [] h = refl
same-texts f g (x ∷ xs) h = rw (h.0, same-texts f g xs h.1)

-- what is read of lists at the front
reads : (n : ℕ) (f : ℕ → ℕ) (old : List ℕ) (k : ℕ) → k < n → get_or (front (list_to n f) old) k 0 ≡ f k
reads n f old k h = front_at (list_to n f) old k (rw (length_to n f) h) ∙ get_or-to n f k 0 h

first_read : (n : ℕ) (xs old : List ℕ) → length xs ≡ n → n ≤ 256 → take n (list_to 256 (λ k. get_or (front xs old) k 0)) ≡ xs
first_read n xs old e h =
    take-to 256 n (λ k. get_or (front xs old) k 0) h ∙ to_eq n _ (λ k. get_or xs k 0) (λ k l. front_at xs old k (rw e l)) ∙ to_back n xs 0 e

-- the ranking has none but holdings of the book
pub ranked-texts : (s : Submission) (f g : ℕ → List ℕ) → ((k : ℕ) → k < (priced s).count → f k ≡ g k)
    → flat_map f (ranked (priced s) s.lines) ≡ flat_map g (ranked (priced s) s.lines)
unfolding ranked ranking_of
ranked-texts s f g h =
    let n = (priced s).count in
    let before = ranks_before (margin (priced s) s.lines) in
    same-texts f g (ordered before n) (each_so (◌< n) (λ k. f k ≡ g k) h (ordered before n) (ordered_below before n))

module _ (head : Head) (c : Columns) (before after : Scratch) (worked : Worked head c before after) where
  abbrev s : Submission
  s = submission head c

  line : (k : ℕ) → k < (priced s).count → judged_line after.left after.margins k ≡ book_line (priced s) s.lines k
  unfolding judged_line book_line remainders_of margins_of
  line k h =
      let n = (priced s).count in
      rw (worked.remainders, worked.margins, reads n (remainder (priced s) s.lines) before.left k h, reads n (margin (priced s) s.lines) before.margins k h)

  worked-lines : (count : ℕ) → count ≡ length s.rows → count ≤ 256
      → flat_map (judged_line after.left after.margins) (take count (list_to 256 (λ k. get_or after.ranks k 0))) ≡ flat_map (book_line (priced s) s.lines) (ranked (priced s) s.lines)
  unfolding priced book_of
  worked-lines count e h =
      rw (worked.ranking, first_read count (ranked (priced s) s.lines) before.ranks (ranked-length s ∙ sym e) h) (ranked-texts s _ _ line)

pub report_judged : (head : Head) (c : Columns) (before after : Scratch) (v : Verdict) (count : ℕ) → Judges false head c before after v → count ≡ length (submission head c).rows
    → report_of v count after.left after.margins after.ranks ≡ printed_of (submission head c) (outcome_in false head c)
unfolding report_of printed_of
report_judged head c before after v count judges e =
    let few : (answer_of v).number ≡ 0 → count ≤ 256 = λ z. rw e (judges.keeps.exactly.0 z).1.in_limits.holdings in
    rw (← judges.answer) (same_lines (answer_of v) _ _ _ _ (λ z. worked-lines head c before after (judges.worked z) count e (few z)))
