-- THE PAGE OF THE EXPORTED CHECK: the lists to be written, and what it promises of the bytes that a host lends. Assumes nothing.
use mathlib.Core.{Path.◌≡◌, Logic.◌↔◌, Bool.Bool, Bool.cond, List.List, List.[], List.◌∷◌}
use Rattle.std.specs.Prelude.{ℕ, ◌≤◌, ◌<◌}
use lib.{Dec.ltb, ListN.length}
use Rattle.lists.specs.Tables.{front}
use Rattle.article.specs.Answer.{Answer, make_answer}
use Rattle.proposal.specs.{Submission.priced, Submission.remainders_of, Submission.ranked, Submission.InRankingOrder, Demands.Acceptable, Demands.Demands}
use Rattle.verdict.specs.Judges.{written, columns_differ, outcome_in}
use Rattle.words.specs.Words.{word_at, encode}
use Rattle.holding.specs.declared.Head.{Head}
use Rattle.columns.specs.Columns.{Columns, count_in, submission, holding_sizes, line_sizes, ColumnEntries}
use Rattle.sizes.specs.Sizes.{Lengths, too_short}

-- the lists to be written, as bytes
pub record Lent : Type 0 where
  pub remainder : List ℕ
  pub ranking : List ℕ
  pub answer : List ℕ

abbrev pub make_lent : List ℕ → List ℕ → List ℕ → Lent
make_lent remainder ranking answer = record { remainder = remainder; ranking = ranking; answer = answer }

-- units and cents, or the two places, in the first 16 bytes of the answer slice; one below 16 bytes stays unwritten
unfoldable pub answered : Answer → List ℕ → List ℕ
answered a old = cond (ltb (length old) 16) old (front (encode (a.first ∷ a.second ∷ [])) old)

-- what the host reads: the number returned, and the two numbers in the answer slice
abbrev pub answer_in : ℕ → List ℕ → Answer
answer_in r bytes = make_answer r (word_at bytes 0) (word_at bytes 1)

-- an answer: its number is returned, and its two values stand in the answer slice, where the host reads them; below 16 bytes that stays unwritten
pub record Answers (a : Answer) (before after : List ℕ) (r : ℕ) : Type 0 where
  pub number : r ≡ a.number
  pub slice : after ≡ answered a before
  pub reads : 16 ≤ length before → answer_in r after ≡ a
  pub unwritten : length before < 16 → after ≡ before

-- what they are to hold: an entry for each holding in the remainders and in the ranking, beside the bytes that are lent
unfoldable pub written_lists : Columns → Lent → List (ℕ × ℕ)
written_lists c l = (count_in c.holdings, length l.remainder) ∷ (count_in c.holdings, length l.ranking) ∷ []

-- whether 2 holds of what is lent, and the outcome of it with a head
unfoldable pub two : Columns → Lent → Bool
two c l = too_short (written_lists c l) (length l.answer)

unfoldable pub outcome_of : Head → Columns → Lent → Answer
outcome_of h c l = outcome_in (two c l) h c

-- what the exported check promises of what is lent, before and after, and of the number that it returns
module _ (h : Head) (c : Columns) (before after : Lent) (r : ℕ) where
  pub record Checks : Type 0 where
    -- a book or proposal has as many holdings or lines as its columns have entries, of each the numbers that stand there, and its head
    pub submitted : ColumnEntries h c
    -- the refusal number, 0 for accepted, is returned; units and cents, or the two places, stand in the answer slice, where the host reads them
    pub returned : Answers (outcome_of h c before) before.answer after.answer r
    -- each holding's remainder; on a refusal nothing is written, and entries past what the list is to hold keep what they held
    pub remainder : after.remainder ≡ front (encode (written (outcome_of h c before) (remainders_of (priced (submission h c)) (submission h c).lines))) before.remainder
    -- the ranking, in the same way
    pub ranking : after.ranking ≡ front (encode (written (outcome_of h c before) (ranked (priced (submission h c)) (submission h c).lines))) before.ranking
    -- a refusal writes to neither
    pub untouched : (r ≡ 0 → ⊥) → (after.remainder ≡ before.remainder) × (after.ranking ≡ before.ranking)
    -- what is called the ranking has every holding once, by margin of the remainder, largest first, ties by lower number
    pub order : InRankingOrder (priced (submission h c)) (submission h c).lines
    -- accepted exactly when what is lent has the lengths, and the proposal is within the limits, keeps the article, is covered and has equal totals
    pub exactly : (r ≡ 0) ↔ (Lengths (holding_sizes c) (line_sizes c) (written_lists c before) (length before.answer) × Acceptable (submission h c))
    -- the least and the rounding, of what the host reads, and the terms that they speak of
    pub keeps : Demands (submission h c) (columns_differ c) (two c before) (answer_in r after.answer)
