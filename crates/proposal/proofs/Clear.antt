-- None of the refusals holds exactly when none of each sort does, wherever it may stand. Assumes nothing.
use mathlib.Core.Path.{◌≡◌}
use mathlib.Core.Bool.{Bool, false}
use mathlib.Core.List.{List}
use Prim.Native.Nat.{ℕ, ◌<◌}
use native.Mathlib.Omega.{arith}
use lib.Dec.{ltb}
use lib.ListN.{length, get_or, take}
use Rattle.lists.proofs.Firsts.{None, Numbered, none-append, append-none, none-in_turn, in_turn-none, numbered-append, numbered-in_turn}
use Rattle.holding.specs.Holding.{head_faults}
use Rattle.holding.proofs.Heads.{head-listed}
use Rattle.article.specs.Answer.{Answer}
use Rattle.proposal.specs.Submission.{Submission, account_in, priced, no_row, no_line}
use Rattle.proposal.specs.Outcome.{at_place, holding_faults, line_faults, at_holding, book_faults, at_line, lines_faults, uncovered, at_pair}
use Rattle.proposal.specs.Outcome.{at_long, uncovered_pairs, totals_differ, totals_faults, size_faults, from_pairs, from_lines, from_book, from_head, faults}
use Rattle.proposal.proofs.Places.{none-at, at_none, listed_at, holding-listed, line-listed}

abbrev pub number : Answer → ℕ
number a = a.number

module _ (one two : Bool) (s : Submission) where
  -- each test by itself
  pub record Clear : Type 0 where
    pub no_1 : one ≡ false
    pub no_2 : two ≡ false
    pub no_3 : ltb 256 (length s.rows) ≡ false
    pub no_9 : ltb 512 (length s.lines) ≡ false
    pub head : None (head_faults s.head)
    pub holdings : (k : ℕ) → k < length s.rows → None (holding_faults (account_in s) (get_or s.rows k no_row) (get_or s.prices k 0))
    pub lines : (k : ℕ) → k < length s.lines → None (line_faults (priced s) (take k s.lines) (get_or s.lines k no_line))
    pub pairs : (i j : ℕ) → i < (priced s).count → j < (priced s).count → uncovered (priced s) i j ≡ false
    pub totals : totals_differ (priced s) s.lines ≡ false

  abbrev sizes : List (Bool × ℕ)
  sizes = size_faults one two (length s.rows) (length s.lines)

  pub none_clear : None (faults one two s) → Clear
  unfolding faults size_faults book_faults at_holding lines_faults at_line uncovered_pairs at_long at_pair totals_faults
  none_clear h =
      let (at_first, rest₀) = append-none (at_place 0 sizes) (from_head s) h in
      let first = at_none 0 sizes at_first in
      let (at_head, rest) = append-none (at_place 0 (head_faults s.head)) (from_book s) rest₀ in
      let (book, rest₁) = append-none (book_faults (account_in s) s.rows s.prices) (from_lines s) rest in
      let (lines, rest₂) = append-none (lines_faults (priced s) s.lines) (from_pairs s) rest₁ in
      let (pairs, last) = append-none (uncovered_pairs (priced s)) (totals_faults (priced s) s.lines) rest₂ in
      record {
        no_1 = first.0;
        no_3 = first.1.0;
        no_9 = first.1.1.0;
        no_2 = first.1.1.1.0;
        head = at_none 0 (head_faults s.head) at_head;
        holdings = λ k q. at_none k _ (in_turn-none (at_holding (account_in s) s.rows s.prices) _ book k q);
        lines = λ k q. at_none k _ (in_turn-none (at_line (priced s) s.lines) _ lines k q);
        pairs = λ i j p q. (in_turn-none (at_pair (priced s) i) _ (in_turn-none (at_long (priced s)) _ pairs i p) j q).0;
        totals = last.0;
      }

  pub clear_none : Clear → None (faults one two s)
  unfolding faults size_faults book_faults at_holding lines_faults at_line uncovered_pairs at_long at_pair totals_faults
  clear_none c =
      none-append (at_place 0 sizes) (from_head s) (none-at 0 sizes (c.no_1, (c.no_3, (c.no_9, (c.no_2, tt)))))
      (none-append (at_place 0 (head_faults s.head)) (from_book s) (none-at 0 (head_faults s.head) c.head)
      (none-append (book_faults (account_in s) s.rows s.prices) (from_lines s) (none-in_turn (at_holding (account_in s) s.rows s.prices) _ (λ k q. none-at k _ (c.holdings k q)))
      (none-append (lines_faults (priced s) s.lines) (from_pairs s) (none-in_turn (at_line (priced s) s.lines) _ (λ k q. none-at k _ (c.lines k q)))
      (none-append (uncovered_pairs (priced s)) (totals_faults (priced s) s.lines)
      (none-in_turn (at_long (priced s)) _ (λ i p. none-in_turn (at_pair (priced s) i) _ (λ j q. (c.pairs i j p q, tt))))
      (c.totals, tt)))))

  -- every refusal has a number, from 1
  pub book_numbered : Numbered number (book_faults (account_in s) s.rows s.prices)
  unfolding book_faults at_holding
  book_numbered = numbered-in_turn number (at_holding (account_in s) s.rows s.prices) (λ k. listed_at k _ (holding-listed _ _ _)) _

  pub lines_numbered : Numbered number (lines_faults (priced s) s.lines)
  unfolding lines_faults at_line
  lines_numbered = numbered-in_turn number (at_line (priced s) s.lines) (λ k. listed_at k _ (line-listed _ _ _)) _

  pub uncovered_numbered : Numbered number (uncovered_pairs (priced s))
  unfolding uncovered_pairs at_long at_pair
  uncovered_numbered = numbered-in_turn number (at_long (priced s)) (λ i. numbered-in_turn number (at_pair (priced s) i) (λ j. (omega arith, tt)) _) _

  pub numbered : Numbered number (faults one two s)
  unfolding faults size_faults totals_faults
  numbered =
      numbered-append number (at_place 0 sizes) (from_head s) (listed_at 0 sizes (omega arith, (omega arith, (omega arith, (omega arith, tt)))))
      (numbered-append number (at_place 0 (head_faults s.head)) (from_book s) (listed_at 0 (head_faults s.head) (head-listed s.head))
      (numbered-append number (book_faults (account_in s) s.rows s.prices) (from_lines s) book_numbered
      (numbered-append number (lines_faults (priced s) s.lines) (from_pairs s) lines_numbered
      (numbered-append number (uncovered_pairs (priced s)) (totals_faults (priced s) s.lines) uncovered_numbered (omega arith, tt)))))
