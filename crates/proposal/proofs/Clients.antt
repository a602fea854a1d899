-- The page specs/Clients.antt, proved: terms that allow fewer pairs, at the same rates, have no smaller least. Assumes nothing.
use mathlib.Core.Path.{◌≡◌, refl, sym, ap, ◌∙◌}
use mathlib.Core.Bool.{Bool, true, false}
use mathlib.Core.List.{List, [], ◌∷◌}
use Prim.Native.Nat.{ℕ, ◌*◌, ◌≤◌, ◌<◌}
use native.Mathlib.Omega.{arith}
use lib.ListN.{length}
use Rattle.lists.specs.Tables.{Each, sum_of}
use Rattle.lists.proofs.Sums.{sum_to_eq}
use Rattle.holding.specs.Holding.{letter_of, account_of}
use Rattle.holding.specs.declared.{Holding.Holding, Row.Row}
use Rattle.article.specs.Article.{ClientPairs}
use Rattle.article.proofs.Article.{article}
use Rattle.pairing.specs.Pairing.{Terms, AllowedPair, IsPairing, pair_units, rest_units, sum_at, Least}
use Rattle.pairing.specs.declared.Line.{Line}
use Rattle.proposal.specs.Submission.{Submission, account_in, terms_of, priced, book_of, holding_at}
use Rattle.proposal.specs.Outcome.{outcome}
use Rattle.proposal.specs.Demands.{Limits, PairTerms}
use Rattle.proposal.specs.Clients.{client, participant, Clients}
use Rattle.proposal.proofs.Demands.{demands}

-- the same holdings, and no pair that the second terms do not allow at the same rate
record Fewer (C P : Terms) : Type 0 where
  count : C.count ≡ P.count
  value : (k : ℕ) → k < P.count → C.value k ≡ P.value k
  rate : (k : ℕ) → k < P.count → C.rate k ≡ P.rate k
  pair : (i j : ℕ) → i < P.count → j < P.count → C.allowed i j ≡ true → (P.allowed i j ≡ true) × (C.pair_rate i j ≡ P.pair_rate i j)

module _ (C P : Terms) (fewer : Fewer C P) where
  -- an allowed pair of the first terms
  allowed-pair : (l : Line) → AllowedPair C l → AllowedPair P l × (C.pair_rate l.long l.short ≡ P.pair_rate l.long l.short)
  allowed-pair l h =
      let long : l.long < P.count = rw (← fewer.count) h.long in
      let short : l.short < P.count = rw (← fewer.count) h.short in
      let (may, rate) = fewer.pair l.long l.short long short h.pair in
      (record { long = long; short = short; pair = may }, rate)

  all-allowed : (lines : List Line) → Each (AllowedPair C) lines → Each (AllowedPair P) lines × (pair_units C lines ≡ pair_units P lines)
  unfolding pair_units sum_of
  all-allowed [] h = (tt, refl)
  all-allowed (l ∷ ls) h =
      let (first, rate) = allowed-pair l h.0 in
      let (rest, units) = all-allowed ls h.1 in
      ((first, rest), omega (arith, ap (λ (x : ℕ). x * l.amount) rate, units))

  rest-same : (N : ℕ) (lines : List Line) → rest_units C N lines ≡ rest_units P N lines
  unfolding rest_units
  rest-same N lines =
      rw fewer.count (sum_to_eq P.count _ _ (λ k h. rw (fewer.rate k h, fewer.value k h)))

  -- its pairings, with their sums
  pairing-same : (N : ℕ) (lines : List Line) → IsPairing C N lines → IsPairing P N lines × (sum_at P N lines ≡ sum_at C N lines)
  unfolding sum_at
  pairing-same N lines p =
      let (pairs, units) = all-allowed lines p.pairs in (
        record { pairs = pairs; within = λ k h. rw (fewer.value k h) at (p.within k (rw fewer.count h)) },
        omega (arith, units, rest-same N lines),
      )

  never_below : (a b : List Line) (u v : ℕ) → Least C a u → Least P b v → v ≤ u
  never_below a b u v c p =
      let (pairing, sum) = pairing-same 1 a c.pairing in
      omega (arith, p.every 1 (omega arith) a pairing, sum, c.sum)

-- what the terms of a submission are
terms_of_lem : (s : Submission) → Limits s → (i j : ℕ) → i < length s.rows → j < length s.rows → PairTerms s i j
terms_of_lem s = (demands false false s).terms

module _ (date : ℕ) (rows : List Row) (prices prices' : List ℕ) (lines lines' : List Line) where
  abbrev c : Submission
  c = client date rows prices prices' lines lines'

  abbrev p : Submission
  p = participant date rows prices prices' lines lines'

  -- what the article says of the two accounts
  of-article : (l s : Holding) → ClientPairs (account_in c) (account_in p) l s
  unfolding account_of letter_of
  of-article = article.clients (account_in c) (account_in p) refl refl refl

  -- a client's terms allow fewer pairs than a participant's, by the article
  fewer_pairs : Limits c → Limits p → Fewer (terms_of (priced c)) (terms_of (priced p))
  unfolding account_of letter_of holding_at terms_of priced book_of
  fewer_pairs lc lp = record {
    count = refl;
    value = λ k h. refl;
    rate = λ k h. (terms_of_lem c lc k k h h).rate ∙ (of-article (holding_at p k) (holding_at p k)).alone ∙ sym (terms_of_lem p lp k k h h).rate;
    pair = λ i j h g e.
        let pairs = of-article (holding_at p i) (holding_at p j) in
        let may = (terms_of_lem c lc i j h g).allowed.0 e in (
          (terms_of_lem p lp i j h g).allowed.1 (pairs.may.0 may).0,
          (terms_of_lem c lc i j h g).pair_rate_lem ∙ pairs.same-rate may ∙ sym (terms_of_lem p lp i j h g).pair_rate_lem,
        );
  }

  -- where both are accepted
  module _ (one two one' two' : Bool) (e : (outcome one two c).number ≡ 0) (f : (outcome one' two' p).number ≡ 0) where
    fewer_accepted : Fewer (terms_of (priced c)) (terms_of (priced p))
    fewer_accepted = fewer_pairs ((demands one two c).exactly.0 e).1.in_limits ((demands one' two' p).exactly.0 f).1.in_limits

    units_below : (outcome one' two' p).first ≤ (outcome one two c).first
    units_below =
        never_below (terms_of (priced c)) (terms_of (priced p)) fewer_accepted c.lines p.lines _ _ ((demands one two c).cheapest e) ((demands one' two' p).cheapest f)

    cents_below : (outcome one' two' p).second ≤ (outcome one two c).second
    cents_below =
        let enough = ((demands one two c).rounding e).enough in
        ((demands one' two' p).rounding f).smallest _ (omega (arith, units_below, enough))

  pub clients : Clients date rows prices prices' lines lines'
  unfolding account_of letter_of
  clients = record {
    a_client = refl;
    a_participant = refl;
    pairings = λ lc lp. pairing-same (terms_of (priced c)) (terms_of (priced p)) (fewer_pairs lc lp);
    units = units_below;
    cents = cents_below;
  }
