-- The outcome keeps what document 01 demands of the check's answer. Assumes nothing.
use mathlib.Core.Path.{◌≡◌, refl, ap, ◌∙◌}
use mathlib.Core.Bool.{Bool, false, not}
use Prim.Native.Nat.{ℕ, ◌≤◌, ◌<◌}
use native.Mathlib.Omega.{arith}
use lib.ListN.{length}
use borrow.Author.Tests.{ltb-false, le-ltb, eqb-true, eq-eqb, not-false}
use Rattle.lists.proofs.Tests.{either_way}
use Rattle.lists.proofs.Entries.{at_each}
use Rattle.lists.proofs.Firsts.{none_first, first_of-none}
use Rattle.lists.proofs.Tables.{length_to, get_or-to}
use Rattle.holding.specs.Holding.{head_fault}
use Rattle.holding.proofs.Heads.{sound_head, unvalued_head, unlettered-head, none-of-head, head_kept_lem}
use Rattle.holding.proofs.Ranges.{row_kept}
use Rattle.article.specs.Answer.{Answer, make_answer}
use Rattle.article.proofs.Article.{article}
use Rattle.article.specs.Pair.{leg_of, allowed}
use Rattle.article.specs.declared.pair.Leg.{Leg}
use Rattle.pairing.specs.Pairing.{AllowedPair, IsPairing, Covers, Least}
use Rattle.pairing.proofs.Least.{least}
use Rattle.proposal.specs.Submission.{Submission, account_in, PricedBook, book_of, terms_of, priced, no_line, holding_at, remainder, margin, units_of, remainders_of}
use Rattle.proposal.specs.Outcome.{uncovered, totals_differ, faults, accepted, outcome}
use Rattle.proposal.specs.Demands.{Limits, Acceptable, PairTerms, RemainderOf, Demands}
use Rattle.proposal.proofs.PricedBooks.{leg_at_lem, value-at, book_in, holding_in_range, fair}
use Rattle.proposal.proofs.Clear.{Clear, none_clear, clear_none, numbered}
use Rattle.proposal.proofs.Limits.{limits, ranges-none}
use Rattle.proposal.proofs.Stages.{from-lengths, unvalued}
use Rattle.proposal.proofs.KeepsArticle.{none-fits, fits_none, all-within, may-exactly, fitting_keeps, keeps_fitting}
use Rattle.proposal.proofs.Figures.{units-sum, rounded}

-- an allowed pair that is not uncovered is covered
module _ (b : PricedBook) where
  clear_covers : ((i j : ℕ) → i < b.count → j < b.count → uncovered b i j ≡ false) → Covers (terms_of b) b.price
  unfolding uncovered terms_of
  clear_covers h i j p q e = ltb-false _ _ (rw e at (h i j p q))

  covers_clear : Covers (terms_of b) b.price → (i j : ℕ) → i < b.count → j < b.count → uncovered b i j ≡ false
  unfolding uncovered terms_of
  covers_clear h i j p q = either_way (allowed (b.leg i) (b.leg j)) (λ e. rw e (le-ltb _ _ (h i j p q e))) (λ e. rw e)

module _ (s : Submission) where
  -- acceptable lines are a pairing at 1
  pub lines-pair : Acceptable s → IsPairing (terms_of (priced s)) 1 s.lines
  lines-pair a =
      let f = keeps_fitting s a.in_limits a.article in
      record {
        pairs = at_each (AllowedPair (terms_of (priced s))) no_line s.lines (λ i h. let g = f i h in unfold terms_of in record { long = g.first; short = g.second; pair = g.pair });
        within = λ k h. unfold terms_of in omega (arith, all-within (priced s) s.lines f k);
      }

  units_least : Acceptable s → Least (terms_of (priced s)) s.lines (accepted (priced s) s.lines).first
  unfolding accepted
  units_least a =
      rw (← units-sum (priced s) s.lines) (least (terms_of (priced s)) (priced s).price s.lines (fair (priced s)) a.covered (lines-pair a) a.totals)

  -- the terms are the article's
  terms : Limits s → (i j : ℕ) → i < length s.rows → j < length s.rows → PairTerms s i j
  unfolding terms_of leg_of
  terms l i j p q = record {
    date = (head_kept_lem s.head).date;
    participant = (head_kept_lem s.head).participant;
    client = (head_kept_lem s.head).client;
    numbers = unfold holding_at in row_kept _ _ (l.each_row i p);
    value = value-at s i;
    price = unfold priced book_of in refl;
    rate = ap (λ (x : Leg). x.rate) (leg_at_lem s i p);
    allowed = may-exactly s l i j p q;
    pair_rate_lem = rw (leg_at_lem s i p, leg_at_lem s j q);
    pair = article.pairs (account_in s) (holding_at s i) (holding_at s j) (holding_in_range s l i p) (holding_in_range s l j q);
  }

  remains : (k : ℕ) → k < length s.rows → RemainderOf s k
  unfolding remainders_of margin leg_of
  remains k h =
      let left = get_or-to (priced s).count (remainder (priced s) s.lines) k 0 (book_in s k h) in
      record {
        left = left ∙ (unfold remainder in rw (value-at s k));
        units = rw (left, leg_at_lem s k h);
      }

module _ (one two : Bool) (s : Submission) where
  clear_acceptable : Clear one two s → Acceptable s
  unfolding totals_differ
  clear_acceptable c =
      let l = limits one two s c in
      record {
        in_limits = l;
        article = fitting_keeps s l (λ k h. none-fits _ _ _ (c.lines k h));
        covered = clear_covers (priced s) c.pairs;
        totals = eqb-true _ _ (not-false _ c.totals);
      }

  acceptable_clear : one ≡ false → two ≡ false → Acceptable s → Clear one two s
  unfolding totals_differ
  acceptable_clear p q a = record {
    no_1 = p;
    no_2 = q;
    no_3 = le-ltb _ _ a.in_limits.holdings;
    no_9 = le-ltb _ _ a.in_limits.lines;
    head = none-of-head s.head (sound_head s.head a.in_limits.valued a.in_limits.lettered);
    holdings = λ k h. ranges-none _ _ _ (a.in_limits.each_row k h) (a.in_limits.prices k h);
    lines = λ k h. fits_none _ _ _ (keeps_fitting s a.in_limits a.article k h);
    pairs = covers_clear (priced s) a.covered;
    totals = ap not (eq-eqb _ _ a.totals);
  }

  -- the number is 0 exactly when nothing is refused
  zero_clear : (outcome one two s).number ≡ 0 → Clear one two s
  unfolding outcome
  zero_clear e = none_clear one two s (none_first (λ (a : Answer). a.number) (faults one two s) _ (numbered one two s) e).0

  clear_accepted : Clear one two s → outcome one two s ≡ accepted (priced s) s.lines
  unfolding outcome
  clear_accepted c = first_of-none (faults one two s) _ (clear_none one two s c)

  -- the figures of an outcome that is not a refusal
  as_accepted : (outcome one two s).number ≡ 0 → outcome one two s ≡ accepted (priced s) s.lines
  as_accepted e = clear_accepted (zero_clear e)

  -- where lengths and counts fit, the head's refusal is given at place 0
  head_refused : one ≡ false → two ≡ false → length s.rows ≤ 256 → length s.lines ≤ 512 → {n : ℕ} → head_fault s.head ≡ n → 1 ≤ n
      → outcome one two s ≡ make_answer n 0 0
  head_refused p q h m {n} fault some =
      unvalued s _ _ (from-lengths one two s p q h m) (λ z. omega (arith, fault)) ∙ ap (λ (x : ℕ). make_answer x 0 0) fault

  pub demands : Demands s one two (outcome one two s)
  demands = record {
    exactly = (
      (λ e. let c = zero_clear e in ((c.no_1, c.no_2), clear_acceptable c)),
      (λ a. unfold accepted in ap (λ (x : Answer). x.number) (clear_accepted (acceptable_clear a.0.0 a.0.1 a.1))),
    );
    cheapest = λ e. rw (as_accepted e) (units_least s (clear_acceptable (zero_clear e)));
    undated = λ p q h m e. head_refused p q h m (unvalued_head s.head e) (omega arith);
    unlettered = λ p q h m e l. head_refused p q h m (unlettered-head s.head e l) (omega arith);
    count = unfold terms_of priced book_of in refl;
    terms = terms s;
    remainders = unfold remainders_of priced book_of in length_to (priced s).count _;
    each_remainder = remains s;
    rounding = λ e. rw (as_accepted e) (unfold accepted in rounded (units_of (priced s) s.lines));
  }
