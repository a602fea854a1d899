-- One holding more at the end of a book: its faults, the first one equal to a trade, and the totals. Assumes nothing.
use mathlib.Core.Path.{◌≡◌, refl, sym, ap, ◌∙◌}
use mathlib.Core.Bool.{Bool, true, false}
use mathlib.Core.List.{List, [], ◌∷◌, ◌++◌, append-nil, append_assoc}
use Prim.Native.Nat.{ℕ, zero, suc, ◌+◌, ◌*◌, ◌≤◌, ◌<◌}
use native.Mathlib.Nat.{mul-le-mul}
use native.Mathlib.Omega.{arith}
use lib.Dec.{eqb}
use lib.ListN.{length, get_or, set, length-append, length-set, get_or-append, get_or-eq_default}
use lib.Seq.{get_or_at, get_or-set_same, get_or-set_other, ext_get_or}
use Rattle.lists.specs.Tables.{Each, list_to, turns, in_turn, sum_of, only}
use Rattle.lists.proofs.Tests.{by-test, by_end, same_or_not}
use Rattle.lists.proofs.Tables.{length_to, get_or-to}
use Rattle.lists.proofs.Sums.{sum_of-more, only_same, only-other}
use Rattle.dates.specs.Calendar.{is_date}
use Rattle.std.specs.Prelude.{Result, Ok}
use Rattle.refusals.specs.declared.Refusal.{Refusal}
use Rattle.holding.specs.Holding.{row_faults, fault_of, holding_of, Builds}
use Rattle.holding.specs.declared.{Account.Account, Row.Row, Holding.Holding}
use Rattle.holding.proofs.Ranges.{fault-none, in_range}
use Rattle.holding.proofs.Rows.{made_row}
use Rattle.rates.specs.Rate.{period_of, rate_of}
use Rattle.article.specs.{Answer.Answer, Pair.leg_of, Pair.rate_limit}
use Rattle.article.proofs.LegRates.{leg-rates}
use Rattle.proposal.specs.{Submission.no_row, Submission.margin_limit, Outcome.at_place}
use Rattle.daybook.specs.Book.{alike, place_in, held_in, margin_of, total_of, totals_of}
use Rattle.daybook.specs.Orders.{at_row, rows_faults}

-- lists in turn, with the last apart
module _ {A : Type 0} where
  turns_more : (f : ℕ → List A) (i k : ℕ) → turns i (suc k) f ≡ turns i k f ++ f (i + k)
  unfolding turns
  turns_more f i zero = append-nil (f i) ∙ ap f (omega arith)
  turns_more f i (suc k) =
      ap (λ (l : List A). f i ++ l) (turns_more f (suc i) k) ∙ sym (append_assoc (f i) (turns (suc i) k f) (f (suc i + k)))
      ∙ ap (λ (m : ℕ). f i ++ turns (suc i) k f ++ f m) (omega arith)

  turns-alike : (f g : ℕ → List A) (i k : ℕ) → ((m : ℕ) → m < i + k → f m ≡ g m) → turns i k f ≡ turns i k g
  unfolding turns
  turns-alike f g i zero h = refl
  turns-alike f g i (suc k) h = rw (h i (omega arith), turns-alike f g (suc i) k (λ m q. h m (omega arith)))

module _ (a : Account) (rows : List Row) (r : Row) where
  abbrev more : List Row
  more = rows ++ (r ∷ [])

  pub length_more : length more ≡ suc (length rows)
  length_more = length-append rows (r ∷ []) ∙ omega arith

  at_last : get_or more (length rows) no_row ≡ r
  at_last = get_or_at rows r [] no_row (length rows) refl

  -- the faults of the last come after those of the others
  pub faults-more : rows_faults a more ≡ rows_faults a rows ++ at_place (length rows) (row_faults a r)
  unfolding rows_faults in_turn at_row
  faults-more =
      ap (λ (n : ℕ). turns 0 n (at_row a more)) length_more
      ∙ turns_more (at_row a more) 0 (length rows)
      ∙ ap (λ (m : ℕ). turns 0 (length rows) (at_row a more) ++ at_row a more m) (omega arith)
      ∙ ap (λ (l : List (Bool × Answer)). l ++ at_row a more (length rows))
      (turns-alike (at_row a more) (at_row a rows) 0 (length rows) (λ m q. ap (λ (x : Row). at_place m (row_faults a x)) (get_or-append rows (r ∷ []) no_row m (omega arith))))
      ∙ ap (λ (x : Row). rows_faults a rows ++ at_place (length rows) (row_faults a x)) at_last

-- the first one equal to a trade, and what it holds
module _ (t : Row) where
  pub place-few : (rows : List Row) → place_in rows t ≤ length rows
  unfolding place_in
  place-few [] = omega arith
  place-few (r ∷ rs) = by-test (λ (n : ℕ). n ≤ suc (length rs)) (alike r t) (λ _. omega arith) (λ _. omega (arith, place-few rs))

  module _ (x : Row) where
    -- where one of the others is equal
    pub found-more : (rows : List Row) → place_in rows t < length rows
        → (place_in (rows ++ (x ∷ [])) t ≡ place_in rows t) × (held_in (rows ++ (x ∷ [])) t ≡ held_in rows t)
    unfolding place_in held_in
    found-more [] h = absurd (omega arith)
    found-more (r ∷ rs) h = by (alike r t) refl (found-more rs)
      where
        by : (b : Bool) → alike r t ≡ b
            → (place_in rs t < length rs → (place_in (rs ++ (x ∷ [])) t ≡ place_in rs t) × (held_in (rs ++ (x ∷ [])) t ≡ held_in rs t))
            → (place_in (r ∷ (rs ++ (x ∷ []))) t ≡ place_in (r ∷ rs) t) × (held_in (r ∷ (rs ++ (x ∷ []))) t ≡ held_in (r ∷ rs) t)
        by true e later = (rw e, rw e)
        by false e later =
            let q : suc (place_in rs t) < suc (length rs) = rw e at h in
            let (p, v) = later (omega arith) in
            (rw e (ap suc p), rw e v)

    -- where none is, and the last is or is not
    pub none_more : (rows : List Row) → place_in rows t ≡ length rows
        → (place_in (rows ++ (x ∷ [])) t ≡ length rows + place_in (x ∷ []) t) × (held_in (rows ++ (x ∷ [])) t ≡ held_in (x ∷ []) t) × (held_in rows t ≡ 0)
    unfolding place_in held_in
    none_more [] h = (omega arith, refl, refl)
    none_more (r ∷ rs) h = by (alike r t) refl (none_more rs)
      where
        by : (b : Bool) → alike r t ≡ b
            → (place_in rs t ≡ length rs
            → (place_in (rs ++ (x ∷ [])) t ≡ length rs + place_in (x ∷ []) t) × (held_in (rs ++ (x ∷ [])) t ≡ held_in (x ∷ []) t) × (held_in rs t ≡ 0))
            → (place_in (r ∷ (rs ++ (x ∷ []))) t ≡ suc (length rs) + place_in (x ∷ []) t) × (held_in (r ∷ (rs ++ (x ∷ []))) t ≡ held_in (x ∷ []) t) × (held_in (r ∷ rs) t ≡ 0)
        by true e later = let never : 0 ≡ suc (length rs) = rw e at h in absurd (omega arith)
        by false e later =
            let q : suc (place_in rs t) ≡ suc (length rs) = rw e at h in
            let (p, v, n) = later (omega arith) in
            (rw e (omega (arith, p)), rw e v, rw e n)

-- five totals, of which one is changed
pub set-total : (f g : ℕ → ℕ) (p v : ℕ) → p < 5 → v ≡ g p → ((k : ℕ) → (k ≡ p → ⊥) → f k ≡ g k) → set (list_to 5 f) p v ≡ list_to 5 g
set-total f g p v q e h =
    ext_get_or 0 (set (list_to 5 f) p v) (list_to 5 g) (length-set (list_to 5 f) p v ∙ length_to 5 f ∙ sym (length_to 5 g)) (λ k l.
    let l' : k < 5 = omega (arith, length-set (list_to 5 f) p v, length_to 5 f) in
    same_or_not k p
    (λ s. rw s (get_or-set_same (list_to 5 f) p v 0 (omega (arith, length_to 5 f)) ∙ e ∙ sym (get_or-to 5 g p 0 q)))
    (λ o. get_or-set_other {A = ℕ} (list_to 5 f) p k v 0 o ∙ get_or-to 5 f k 0 l' ∙ h k o ∙ sym (get_or-to 5 g k 0 l')))

module _ (a : Account) where
  total-more : (rows : List Row) (r : Row) (k : ℕ) → total_of a (rows ++ (r ∷ [])) k ≡ total_of a rows k + only (period_of a r.maturity) (margin_of a r) k
  unfolding total_of
  total-more rows r k = sym (sum_of-more rows r (λ x. only (period_of a x.maturity) (margin_of a x) k))

  -- the margin of the last is added to its period's total
  pub totals-more : (rows : List Row) (r : Row) (p : ℕ) → p < 5 → period_of a r.maturity ≡ suc p
      → set (totals_of a rows) p (get_or (totals_of a rows) p 0 + margin_of a r) ≡ totals_of a (rows ++ (r ∷ []))
  unfolding totals_of
  totals-more rows r p q e =
      set-total (λ k. total_of a rows (suc k)) (λ k. total_of a (rows ++ (r ∷ [])) (suc k)) p _ q
      (ap (λ (n : ℕ). n + margin_of a r) (get_or-to 5 (λ k. total_of a rows (suc k)) p 0 q)
      ∙ ap (λ (n : ℕ). total_of a rows (suc p) + n) (sym (only_same (suc p) (margin_of a r)) ∙ ap (λ (n : ℕ). only n (margin_of a r) (suc p)) (sym e))
      ∙ sym (total-more rows r (suc p)))
      (λ k o.
      let other = only-other (period_of a r.maturity) (margin_of a r) (suc k) (λ z. o (omega (arith, z, e))) in
      sym (total-more rows r (suc k) ∙ ap (λ (n : ℕ). total_of a rows (suc k) + n) other ∙ omega arith))

  -- a margin alone, and the totals of so many holdings, are bounded
  module _ (valued : is_date a.date ≡ true) where
    pub rate-high : (r : Row) → fault_of a r ≡ 0 → rate_of a (holding_of r) ≤ rate_limit
    unfolding leg_of
    rate-high r e = (leg-rates a (holding_of r) (record { valued = valued; ranges = in_range a r e })).high

    pub margin-high : (r : Row) → fault_of a r ≡ 0 → margin_of a r ≤ margin_limit
    unfolding margin_of
    margin-high r e = mul-le-mul (rate-high r e) (fault-none a r e).value.high

    total-high : (rows : List Row) (k : ℕ) → Each (λ r. fault_of a r ≡ 0) rows → total_of a rows k ≤ length rows * margin_limit
    unfolding total_of sum_of only
    total-high [] k h = omega arith
    total-high (r ∷ rows) k h =
        by-test (λ (n : ℕ). n + total_of a rows k ≤ suc (length rows) * margin_limit) (eqb (period_of a r.maturity) k)
        (λ _. omega (arith, margin-high r h.0, total-high rows k h.1))
        (λ _. omega (arith, total-high rows k h.1))

    pub totals-high : (rows : List Row) → Each (λ r. fault_of a r ≡ 0) rows → (k : ℕ) → get_or (totals_of a rows) k 0 ≤ length rows * margin_limit
    unfolding totals_of
    totals-high rows h =
        by_end (λ (k : ℕ). get_or (totals_of a rows) k 0 ≤ length rows * margin_limit) 5
        (λ k q. rw (get_or-to 5 (λ k. total_of a rows (suc k)) k 0 q) (total-high rows (suc k) h))
        (λ k q. rw (get_or-eq_default (totals_of a rows) 0 {n = k} (omega (arith, length_to 5 (λ k. total_of a rows (suc k))))) (omega arith))

-- the record that a row made, by its rate and its period
module _ {a : Account} {r : Row} {b : Result Holding Refusal} {h : Holding} (p : Builds a r b) (e : b ≡ Ok h) where
  pub made-margin : {rate : ℕ} → rate ≡ rate_of a h → rate * h.value ≡ margin_of a r
  unfolding margin_of holding_of
  made-margin s = rw (s, (made_row p e).2)

  pub made-high : {rate : ℕ} → is_date a.date ≡ true → rate ≡ rate_of a h → rate * h.value ≤ margin_limit
  made-high valued s = rw (made-margin s) (margin-high a valued r (made_row p e).1)

  pub made-period : {period p : ℕ} → period ≡ period_of a h.maturity → p + 1 ≡ period → period_of a r.maturity ≡ suc p
  unfolding holding_of
  made-period s q = ap (λ (x : Holding). period_of a x.maturity) (sym (made_row p e).2) ∙ sym s ∙ omega (arith, q)
