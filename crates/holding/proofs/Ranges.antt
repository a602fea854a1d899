-- A row has no fault exactly when its numbers are within their ranges; a row and its record then give each other back. Assumes nothing.
use mathlib.Core.Path.{◌≡◌, refl, sym}
use mathlib.Core.Logic.{◌⊎◌, inl, inr}
use mathlib.Core.Bool.{Bool, true, false, not}
use Prim.Native.Nat.{ℕ, zero, suc, ◌≤◌, ◌<◌}
use native.Mathlib.Omega.{arith}
use lib.Dec.{eqb}
use borrow.Author.Tests.{not-false, ne_eqb, eqb-true, eqb-false}
use Rattle.lists.proofs.Tests.{within_true, true_within, by-test}
use Rattle.lists.proofs.Firsts.{None, Listed, none_first}
use Rattle.lists.specs.Choice.{first_of, within}
use Rattle.dates.specs.Calendar.{is_date}
use Rattle.holding.proofs.Terms.{not-out, in_term, out}
use Rattle.holding.proofs.Issuers.{below_range, above_range, is_corporation_lem, corporation-is, no_corporation_lem, issuer-is, is_issuer_lem, no_issuer_lem, rated-is, is_rated_lem, not-rated}
use Rattle.holding.specs.Holding.{Government, Corporate, is_corporation, is_issuer, is_rated, Identified, Rated, Ranges, InRange}
use Rattle.holding.specs.Holding.{identity_faults, term_faults, worth_faults, money_faults, row_faults, fault_of, RowRefused}
use Rattle.holding.specs.Holding.{side_number, kind_number, no_issuer, issuer_number, currency_number, rating_number, side_of, kind_of, issuer_of, currency_of, rating_of, row_of, holding_of}
use Rattle.holding.specs.declared.Side.{Side}
use Rattle.holding.specs.declared.Side.TheVariants.{Long, Short}
use Rattle.holding.specs.declared.Kind.{Kind}
use Rattle.holding.specs.declared.Kind.TheVariants.{Bond, Coupon, Residual}
use Rattle.holding.specs.declared.Issuer.{Issuer}
use Rattle.holding.specs.declared.Issuer.TheVariants.{Canada, Province, UnitedStates, UnitedKingdom, Corporation}
use Rattle.holding.specs.declared.Currency.{Currency}
use Rattle.holding.specs.declared.Currency.TheVariants.{Cad, Usd, Gbp}
use Rattle.holding.specs.declared.Rating.{Rating}
use Rattle.holding.specs.declared.Rating.TheVariants.{SingleA, Lower, NotGiven}
use Rattle.holding.specs.declared.Holding.{Holding}
use Rattle.holding.specs.declared.Row.{Row}
use Rattle.holding.specs.declared.Account.{Account}

-- a range whose test did not fail
inside : (low high x : ℕ) → not (within low high x) ≡ false → (low ≤ x) × (x ≤ high)
inside low high x e = within_true low high x (not-false (within low high x) e)

-- the refusals of a row have numbers, from 1
pub identity-listed : (r : Row) → Listed (identity_faults r)
unfolding identity_faults
identity-listed r = (omega arith, (omega arith, (omega arith, tt)))

pub term-listed : (a : Account) (r : Row) → Listed (term_faults a r)
unfolding term_faults
term-listed a r = (omega arith, (omega arith, tt))

pub worth-listed : (r : Row) → Listed (worth_faults r)
unfolding worth_faults
worth-listed r = (omega arith, tt)

pub row_listed : (a : Account) (r : Row) → Listed (row_faults a r)
unfolding row_faults identity_faults term_faults worth_faults money_faults
row_listed a r = (omega arith, (omega arith, (omega arith, (omega arith, (omega arith, (omega arith, (omega arith, (omega arith, tt))))))))

module _ (a : Account) (r : Row) where
  pub none-of-row : fault_of a r ≡ 0 → None (row_faults a r)
  unfolding fault_of
  none-of-row e = (none_first (λ (n : ℕ). n) (row_faults a r) 0 (row_listed a r) e).0

  pub fault-none : fault_of a r ≡ 0 → Ranges a r
  unfolding row_faults identity_faults term_faults worth_faults money_faults
  fault-none e =
      let (side, (kind, (issuer, (unreal, (term, (value, (currency, (rating, _)))))))) = none-of-row e in
      let known = issuer-is r.issuer (not-false (is_issuer r.issuer) issuer) in
      let (low, high) = inside 1 100000000000 r.value value in
      record {
        identity = record { side = (inside 0 1 r.side side).1; kind = (inside 0 2 r.kind kind).1; issuer = known };
        maturity = not-out a r.maturity (not-false (is_date r.maturity) unreal) term;
        value = record { low = low; high = high };
        currency = (inside 0 2 r.currency currency).1;
        rating = rated-is r known (not-false (is_rated r.issuer r.rating) rating);
      }

  pub none_fault : Ranges a r → fault_of a r ≡ 0
  unfolding fault_of row_faults identity_faults term_faults worth_faults money_faults first_of
  none_fault g =
      rw (
        true_within 0 1 r.side (omega arith) g.identity.side,
        true_within 0 2 r.kind (omega arith) g.identity.kind,
        is_issuer_lem r.issuer g.identity.issuer,
        g.maturity.date,
        in_term a r.maturity g.maturity,
        true_within 1 100000000000 r.value g.value.low g.value.high,
        true_within 0 2 r.currency (omega arith) g.currency,
        is_rated_lem r g.identity.issuer g.rating,
      )

-- a number outside its range
outside : (low high x : ℕ) → (x < low) ⊎ (high < x) → within low high x ≡ false
outside low high x (inl h) = below_range low high x h
outside low high x (inr h) = above_range low high x h

-- the refusal of the first number outside its range
module _ (a : Account) (r : Row) where
  in_side : r.side ≤ 1 → within 0 1 r.side ≡ true
  in_side h = true_within 0 1 r.side (omega arith) h

  in_kind : r.kind ≤ 2 → within 0 2 r.kind ≡ true
  in_kind h = true_within 0 2 r.kind (omega arith) h

  module _ (i : Identified r) where
    in_identity : (within 0 1 r.side ≡ true) × ((within 0 2 r.kind ≡ true) × (is_issuer r.issuer ≡ true))
    in_identity = (in_side i.side, (in_kind i.kind, is_issuer_lem r.issuer i.issuer))

  pub row-refused : RowRefused a r
  unfolding fault_of row_faults identity_faults term_faults worth_faults money_faults first_of
  row-refused = record {
    side = λ h. rw (above_range 0 1 r.side h);
    kind = λ s h. rw (in_side s, above_range 0 2 r.kind h);
    issuer = λ s k h. rw (in_side s, in_kind k, no_issuer_lem r.issuer h);
    unreal = λ i d. let (s, (k, n)) = in_identity i in rw (s, k, n, d);
    term = λ i d h. let (s, (k, n)) = in_identity i in rw (s, k, n, d, out a r.maturity h);
    value = λ i t h. let (s, (k, n)) = in_identity i in rw (s, k, n, t.date, in_term a r.maturity t, outside 1 100000000000 r.value h);
    currency = λ i t v h.
        let (s, (k, n)) = in_identity i in
        rw (s, k, n, t.date, in_term a r.maturity t, true_within 1 100000000000 r.value v.low v.high, above_range 0 2 r.currency h);
    rating = λ i t v c h.
        let (s, (k, n)) = in_identity i in
        rw (
          s,
          k,
          n,
          t.date,
          in_term a r.maturity t,
          true_within 1 100000000000 r.value v.low v.high,
          true_within 0 2 r.currency (omega arith) c,
          not-rated r i.issuer h,
        );
  }

side_number_lem : (n : ℕ) → n ≤ 1 → side_number (side_of n) ≡ n
unfolding side_of
side_number_lem zero h = refl
side_number_lem (suc zero) h = refl
side_number_lem (suc (suc n)) h = omega arith

kind_number_lem : (n : ℕ) → n ≤ 2 → kind_number (kind_of n) ≡ n
unfolding kind_of
kind_number_lem zero h = refl
kind_number_lem (suc zero) h = refl
kind_number_lem (suc (suc zero)) h = refl
kind_number_lem (suc (suc (suc n))) h = omega arith

issuer_number_lem : (n : ℕ) → Government n ⊎ Corporate n → issuer_number (issuer_of n) ≡ n
unfolding issuer_of first_of
issuer_number_lem n (inr h) =
    rw (ne_eqb n 0 (λ z. omega (arith, h.0)), ne_eqb n 11 (λ z. omega (arith, h.0)), ne_eqb n 12 (λ z. omega (arith, h.0)), is_corporation_lem n h) (rw (is_corporation_lem n h))
issuer_number_lem n (inl h) =
    by-test (λ (i : Issuer). issuer_number i ≡ n) (eqb n 0) (λ e. sym (eqb-true n 0 e))
    (λ a. by-test (λ (i : Issuer). issuer_number i ≡ n) (eqb n 11) (λ e. sym (eqb-true n 11 e))
    (λ b. by-test (λ (i : Issuer). issuer_number i ≡ n) (eqb n 12) (λ e. sym (eqb-true n 12 e))
    (λ c. rw (no_corporation_lem n h, true_within 1 10 n (omega (arith, eqb-false n 0 a)) (omega (arith, h, eqb-false n 11 b, eqb-false n 12 c))))))

currency_number_lem : (n : ℕ) → n ≤ 2 → currency_number (currency_of n) ≡ n
unfolding currency_of
currency_number_lem zero h = refl
currency_number_lem (suc zero) h = refl
currency_number_lem (suc (suc zero)) h = refl
currency_number_lem (suc (suc (suc n))) h = omega arith

rating_number_lem : (n : ℕ) → n ≤ 2 → rating_number (rating_of n) ≡ n
unfolding rating_of
rating_number_lem zero h = refl
rating_number_lem (suc zero) h = refl
rating_number_lem (suc (suc zero)) h = refl
rating_number_lem (suc (suc (suc n))) h = omega arith

-- of any issuer a rating is at most 2
rating-few : (r : Row) → Identified r → Rated r → r.rating ≤ 2
rating-few r i h = by i.issuer
  where
    by : Government r.issuer ⊎ Corporate r.issuer → r.rating ≤ 2
    by (inl g) = omega (arith, h.government g)
    by (inr c) = omega (arith, h.corporation c)

-- a record keeps its row's numbers
pub row_kept : (a : Account) (r : Row) → Ranges a r → row_of (holding_of r) ≡ r
unfolding row_of holding_of
row_kept a r g =
    rw (
      side_number_lem r.side g.identity.side,
      kind_number_lem r.kind g.identity.kind,
      issuer_number_lem r.issuer g.identity.issuer,
      currency_number_lem r.currency g.currency,
      rating_number_lem r.rating (rating-few r g.identity g.rating),
    )

-- the record of a row without fault is within the ranges
pub in_range : (a : Account) (r : Row) → fault_of a r ≡ 0 → Ranges a (row_of (holding_of r))
in_range a r e =
    let g : Ranges a r = fault-none a r e in
    rw (row_kept a r g) g

-- a record's cases from their numbers
pub side-back : (s : Side) → side_of (side_number s) ≡ s
unfolding side_of
side-back Long = refl
side-back Short = refl

pub kind-back : (k : Kind) → kind_of (kind_number k) ≡ k
unfolding kind_of
kind-back Bond = refl
kind-back Coupon = refl
kind-back Residual = refl

-- a province within the ranges has a number from 1 to 10, and a corporation one from 100 to 355: no other is an issuer
no_number : Government no_issuer ⊎ Corporate no_issuer → ⊥
no_number (inl g) = omega arith
no_number (inr c) = omega (arith, c.1)

pub province_range : (p : ℕ) → Government (issuer_number (Province p)) ⊎ Corporate (issuer_number (Province p)) → within 1 10 p ≡ true
province_range p h = by (within 1 10 p) refl
  where
    by : (t : Bool) → within 1 10 p ≡ t → within 1 10 p ≡ true
    by true e = e
    by false e = absurd (no_number (rw e at h))

pub corporation_range : (c : ℕ) → Government (issuer_number (Corporation c)) ⊎ Corporate (issuer_number (Corporation c)) → is_corporation c ≡ true
corporation_range c h = by (is_corporation c) refl
  where
    by : (t : Bool) → is_corporation c ≡ t → is_corporation c ≡ true
    by true e = e
    by false e = absurd (no_number (rw e at h))

pub issuer-back : (i : Issuer) → Government (issuer_number i) ⊎ Corporate (issuer_number i) → issuer_of (issuer_number i) ≡ i
unfolding issuer_of first_of
issuer-back Canada h = refl
issuer-back (Province p) h =
    let e = province_range p h in
    let (low, high) = within_true 1 10 p e in
    rw (e, ne_eqb p 0 (λ z. omega arith), ne_eqb p 11 (λ z. omega arith), ne_eqb p 12 (λ z. omega arith), no_corporation_lem p (omega arith))
issuer-back UnitedStates h = refl
issuer-back UnitedKingdom h = refl
issuer-back (Corporation c) h =
    let e = corporation_range c h in
    let (low, high) = corporation-is c e in
    rw e (rw (ne_eqb c 0 (λ z. omega arith), ne_eqb c 11 (λ z. omega arith), ne_eqb c 12 (λ z. omega arith), e))

pub currency-back : (c : Currency) → currency_of (currency_number c) ≡ c
unfolding currency_of
currency-back Cad = refl
currency-back Usd = refl
currency-back Gbp = refl

pub rating-back : (r : Rating) → rating_of (rating_number r) ≡ r
unfolding rating_of
rating-back SingleA = refl
rating-back Lower = refl
rating-back NotGiven = refl

pub holding-kept : (a : Account) (h : Holding) → InRange a h → holding_of (row_of h) ≡ h
unfolding row_of holding_of
holding-kept a h g =
    rw (
      side-back h.side,
      kind-back h.kind,
      issuer-back h.issuer g.ranges.identity.issuer,
      currency-back h.currency,
      rating-back h.rating,
    )
