-- Within the limits, a proposal keeps the article exactly when none of 11 to 15 holds of a line: what each line may take, by the lines
-- before it, is what all may take together. Assumes nothing.
use mathlib.Core.Path.{◌≡◌, ap, ◌∙◌}
use mathlib.Core.Bool.{true, and-eq-true_iff}
use mathlib.Core.Logic.{◌↔◌, ◌≢◌}
use mathlib.Core.List.{List, [], ◌∷◌, ◌++◌}
use Prim.Native.Nat.{ℕ, zero, suc, ◌+◌, ◌≤◌, ◌<◌}
use native.Mathlib.Omega.{arith}
use lib.Dec.{ltb}
use lib.ListN.{length, get_or, take}
use lib.Seq.{take-suc, take-length}
use borrow.Author.Tests.{ltb-true, ltb-false, lt-ltb, le-ltb, eqb-false, eq-eqb, ne_eqb, not-false}
use Rattle.lists.specs.Tables.{sum_of}
use Rattle.lists.proofs.Tests.{neither, same_or_not}
use Rattle.lists.proofs.Firsts.{None}
use Rattle.article.specs.Pair.{is_long, is_short, allowed}
use Rattle.article.specs.Article.{MayPair}
use Rattle.article.proofs.Article.{article}
use Rattle.article.proofs.Legs.{allowed_meets}
use Rattle.pairing.specs.Pairing.{used}
use Rattle.pairing.specs.declared.Line.{Line}
use Rattle.pairing.proofs.Used.{used-append, used-take_le, used-one-long, used-one-short, used-one-other}
use Rattle.proposal.specs.Submission.{Submission, account_in, PricedBook, priced, no_line, holding_at, remainder}
use Rattle.proposal.specs.Outcome.{pair_faults, line_faults}
use Rattle.proposal.specs.Demands.{Limits, KeepsLine, KeepsArticle}
use Rattle.proposal.proofs.PricedBooks.{leg_at_lem, value-at, holding_in_range, in_book, book_in}
use Rattle.lists.proofs.Entries.{each_at, at_each}

-- what a line without fault is, when those before it are taken off
pub record Fits (b : PricedBook) (earlier : List Line) (l : Line) : Type 0 where
  pub first : l.long < b.count
  pub second : l.short < b.count
  pub pair : allowed (b.leg l.long) (b.leg l.short) ≡ true
  pub amount : 1 ≤ l.amount
  pub long_left : l.amount ≤ remainder b earlier l.long
  pub short_left : l.amount ≤ remainder b earlier l.short

-- the two legs of an allowed pair have two numbers
legs-apart : (b : PricedBook) (i j : ℕ) → allowed (b.leg i) (b.leg j) ≡ true → i ≡ j → ⊥
legs-apart b i j pair e =
    let m = allowed_meets _ _ pair in
    let same : (b.leg i).side ≡ (b.leg j).side = ap (λ (k : ℕ). (b.leg k).side) e in
    omega (arith, m.long, m.short, same)

module _ (b : PricedBook) (earlier : List Line) (l : Line) where
  pub none-fits : None (line_faults b earlier l) → Fits b earlier l
  unfolding line_faults pair_faults
  none-fits h =
      let (numbers, (sides, (pair, (amount, (left, _))))) = h in
      let (first, second) = (and-eq-true_iff (ltb l.long b.count) (ltb l.short b.count)).0 (not-false _ numbers) in
      let (long_left, short_left) = neither (ltb (remainder b earlier l.long) l.amount) (ltb (remainder b earlier l.short) l.amount) left in
      let some : l.amount ≢ 0 = eqb-false l.amount 0 amount in
      record {
        first = ltb-true _ _ first;
        second = ltb-true _ _ second;
        pair = not-false _ pair;
        amount = omega arith;
        long_left = ltb-false _ _ long_left;
        short_left = ltb-false _ _ short_left;
      }

  pub fits_none : Fits b earlier l → None (line_faults b earlier l)
  unfolding line_faults pair_faults is_long is_short
  fits_none f =
      let m = allowed_meets _ _ f.pair in
      let some : l.amount ≢ 0 = λ e. omega (arith, f.amount) in
      (rw (lt-ltb _ _ f.first, lt-ltb _ _ f.second), (rw (eq-eqb _ _ m.long, eq-eqb _ _ m.short), (rw f.pair, (ne_eqb l.amount 0 some, (rw (le-ltb _ _ f.long_left, le-ltb _ _ f.short_left), tt)))))

  -- the line more takes no holding beyond its value
  pub fits_within : Fits b earlier l → (k : ℕ) → used earlier k ≤ b.value k → used (earlier ++ (l ∷ [])) k ≤ b.value k
  unfolding remainder
  fits_within f k h =
      same_or_not l.long k
      (λ e. rw (← e) (omega (arith, used-append earlier (l ∷ []) l.long, used-one-long l (legs-apart b _ _ f.pair), f.long_left, f.amount, rw (← e) at h)))
      (λ n. same_or_not l.short k
      (λ e. rw (← e) (omega (arith, used-append earlier (l ∷ []) l.short, used-one-short l (legs-apart b _ _ f.pair), f.short_left, f.amount, rw (← e) at h)))
      (λ o. omega (arith, used-append earlier (l ∷ []) k, used-one-other l k n o, h)))

-- over all lines
module _ (b : PricedBook) (lines : List Line) where
  abbrev pub Fitting : Type 0
  Fitting = (k : ℕ) → k < length lines → Fits b (take k lines) (get_or lines k no_line)

  first-within : Fitting → (i : ℕ) → i ≤ length lines → (k : ℕ) → used (take i lines) k ≤ b.value k
  unfolding used sum_of
  first-within f zero h k = omega arith
  first-within f (suc i) h k =
      rw (take-suc lines i no_line h)
      (fits_within b (take i lines) (get_or lines i no_line) (f i h) k (first-within f i (omega arith) k))

  pub all-within : Fitting → (k : ℕ) → used lines k ≤ b.value k
  all-within f k = rw (take-length lines) at (first-within f (length lines) (omega arith) k)

  -- a line of a proposal that takes no holding beyond its value finds its amount left of each leg
  pub amount-left : (i k : ℕ) → i < length lines → used lines k ≤ b.value k → used (get_or lines i no_line ∷ []) k ≤ remainder b (take i lines) k
  unfolding remainder
  amount-left i k h w =
      let more : used (take (suc i) lines) k ≡ used (take i lines) k + used (get_or lines i no_line ∷ []) k =
      ap (λ (ls : List Line). used ls k) (take-suc lines i no_line h) ∙ used-append (take i lines) (get_or lines i no_line ∷ []) k in
      omega (arith, more, used-take_le (suc i) lines k, w)

-- of what is submitted, within the limits
module _ (s : Submission) (l : Limits s) where
  pub may-exactly : (i j : ℕ) → i < length s.rows → j < length s.rows → (allowed ((priced s).leg i) ((priced s).leg j) ≡ true) ↔ MayPair (account_in s) (holding_at s i) (holding_at s j)
  may-exactly i j p q =
      rw (leg_at_lem s i p, leg_at_lem s j q) (article.pairs (account_in s) (holding_at s i) (holding_at s j) (holding_in_range s l i p) (holding_in_range s l j q)).permitted

  pub fitting_keeps : Fitting (priced s) s.lines → KeepsArticle s
  fitting_keeps f = record {
    lines = at_each (KeepsLine s) no_line s.lines (λ i h. let g = f i h in record {
      long = in_book s _ g.first;
      short = in_book s _ g.second;
      pair = (may-exactly _ _ (in_book s _ g.first) (in_book s _ g.second)).0 g.pair;
      amount = omega (arith, g.amount);
    });
    within = λ k h. omega (arith, value-at s k, all-within (priced s) s.lines f k);
  }

  pub keeps_fitting : KeepsArticle s → Fitting (priced s) s.lines
  keeps_fitting a i h =
      let g = each_at (KeepsLine s) no_line s.lines a.lines i h in
      let line = get_or s.lines i no_line in
      let pair = (may-exactly _ _ g.long g.short).1 g.pair in
      let two : line.long ≡ line.short → ⊥ = legs-apart (priced s) _ _ pair in
      let room : (k : ℕ) → k < length s.rows → used (line ∷ []) k ≤ remainder (priced s) (take i s.lines) k =
      λ k q. amount-left (priced s) s.lines i k h (omega (arith, value-at s k, a.within k q)) in
      record {
        first = book_in s _ g.long;
        second = book_in s _ g.short;
        pair = pair;
        amount = g.amount;
        long_left = omega (arith, used-one-long line two, room line.long g.long);
        short_left = omega (arith, used-one-short line two, room line.short g.short);
      }
