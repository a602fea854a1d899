-- A trade's description, judged as a holding of one cent; and what its totals have room for. Assumes nothing.
use mathlib.Core.Path.{◌≡◌, refl, sym, ap, subst, ◌∙◌}
use mathlib.Core.List.{List, ◌++◌}
use Prim.Native.Nat.{ℕ, suc, ◌+◌, ◌*◌, ◌≤◌, ◌<◌}
use native.Mathlib.Nat.{mul-le-mul_right}
use native.Mathlib.Omega.{arith}
use lib.ListN.{length, get_or}
use Rattle.lists.specs.Choice.{first_of, within}
use Rattle.lists.proofs.Firsts.{found_first}
use Rattle.lists.proofs.Tables.{get_or-to}
use Rattle.lists.proofs.Tests.{same_or_not}
use Rattle.std.specs.Prelude.{Result, Ok, Err}
use Rattle.refusals.specs.{Refusals.number_of, Refusals.refused_by, declared.Refusal.Refusal}
use Rattle.booking.proofs.Refusals.{has_number}
use Rattle.holding.specs.Holding.{identity_faults, term_faults, worth_faults, money_faults, row_faults, fault_of, holding_of, out_of_term, Builds}
use Rattle.holding.specs.declared.{Account.Account, Row.Row, Holding.Holding}
use Rattle.holding.proofs.Rows.{made_row}
use Rattle.rates.specs.Rate.{period_of, rate_of}
use Rattle.article.specs.{Pair.rate_limit}
use Rattle.proposal.specs.Submission.{no_row, margin_limit}
use Rattle.proposal.proofs.Places.{first-at}
use Rattle.daybook.specs.Book.{valued, place_in, held_in, total_of, totals_of, account_at}
use Rattle.daybook.specs.Orders.{whole, description_faults, sum_faults, join_faults, order_faults}
use Rattle.daybook.specs.declared.Day.{Day}
use Rattle.daybook.specs.declared.Order.{TheVariants.Add, TheVariants.Take}
use Rattle.daybook.proofs.Trades.{held_first, held_none}
use Rattle.booking.specs.Settling.{outcome_by, settlement, Settles, Rated, Raisable, Lowerable, Tradable, Rates}
use Rattle.booking.specs.declared.{Scan.Scan, AtRate.AtRate}
use Rattle.booking.proofs.Found.{first-at as first-there, nowhere_at, total-held}
use Rattle.booking.proofs.Rows.{place-few, rate-high, totals-high, made-period}
use Rattle.booking.proofs.Seen.{rows-clear}
use Rattle.booking.proofs.Settling.{settles_refused}

module _ (a : Account) (t : Row) where
  -- the check's own faults, without the value's
  pub described-number : first_of (description_faults a t) 0 ≡ fault_of a (valued t 1)
  unfolding description_faults fault_of row_faults identity_faults term_faults worth_faults money_faults valued within first_of out_of_term
  described-number = refl

  -- one cent more or less changes neither period nor rate
  pub valued-rate : (v : ℕ) → rate_of a (holding_of (valued t v)) ≡ rate_of a (holding_of t)
  unfolding rate_of holding_of valued
  valued-rate v = refl

module _ {a : Account} (t : Row) {b : Result Holding Refusal} (builds : Builds a (valued t 1) b) where
  -- its first fault is the description's
  pub described-first : refused_by b ≡ first_of (description_faults a t) 0
  described-first = builds.number ∙ sym (described-number a t)

  pub described-rated : {h : Holding} → b ≡ Ok h → {period p rate : ℕ} → period ≡ period_of a h.maturity → p + 1 ≡ period → rate ≡ rate_of a h → Rated a t p rate
  unfolding valued
  described-rated e place low units = record {
    described = described-number a t ∙ (made_row builds e).1;
    place = made-period builds e place low;
    units = sym (units ∙ ap (rate_of a) (made_row builds e).2 ∙ valued-rate a t 1);
  }

-- a description with a fault
module _ {a : Account} {t : Row} {d : Day} (room : ℕ) (rows : List Row) {x : Refusal} (found : number_of x ≡ first_of (description_faults a t) 0) (w : a ≡ account_at d) where
  pub adding_undescribed : Settles d room rows (Add t) (outcome_by d (Err (whole x)))
  unfolding settlement order_faults
  adding_undescribed =
      let description = description_faults a t in
      let first = found_first (number_of x) (description ++ sum_faults (held_in rows t) t.value) (join_faults room rows t)
      (found_first (number_of x) description _ found (has_number x)) (has_number x) in
      settles_refused (rw (← w) (first-at 0 _ (number_of x) first (has_number x) _))

  pub taking_undescribed : Settles d room rows (Take t) (outcome_by d (Err (whole x)))
  unfolding settlement order_faults
  taking_undescribed = settles_refused (rw (← w) (first-at 0 _ (number_of x) (found_first (number_of x) (description_faults a t) _ found (has_number x)) (has_number x) _))

-- what the totals have room for
module _ {a : Account} {t : Row} {p rate : ℕ} (rated : Rated a t p rate) {d : Day} {s : Scan} (tradable : Tradable d s a t) (few : p < 5) where
  rate-low : rate ≤ rate_limit
  rate-low = rw (sym rated.units ∙ sym (valued-rate a t 1)) (rate-high a tradable.valued (valued t 1) (sym (described-number a t) ∙ rated.described))

  totals-are : d.totals ≡ totals_of a tradable.rows
  totals-are = tradable.totals ∙ tradable.counted.totals

  totals-low : get_or d.totals p 0 ≤ 256 * margin_limit
  totals-low =
      let high = totals-high a tradable.valued tradable.rows (rows-clear a tradable.rows tradable.clear) p in
      let many : length tradable.rows * margin_limit ≤ 256 * margin_limit = mul-le-mul_right margin_limit tradable.few in
      omega (arith, ap (λ (l : List ℕ). get_or l p 0) totals-are, high, many)

  raisable : Raisable d p rate
  raisable = record { place = few; high = rate-low; low = totals-low }

  -- what is held is in its period's total
  held_low : rate * s.held ≤ get_or d.totals p 0
  unfolding totals_of
  held_low =
      let total : get_or d.totals p 0 ≡ total_of a tradable.rows (suc p) = ap (λ (l : List ℕ). get_or l p 0) totals-are ∙ get_or-to 5 (λ k. total_of a tradable.rows (suc k)) p 0 few in
      same_or_not (place_in tradable.rows t) (length tradable.rows)
      (λ z.
      let nothing : s.held ≡ 0 = tradable.counted.held ∙ held_none t tradable.rows (nowhere_at t tradable.rows z) in
      rw nothing (omega arith))
      (λ o.
      let f = first-there t tradable.rows (omega (arith, place-few t tradable.rows)) in
      let held : s.held ≡ (get_or tradable.rows (place_in tradable.rows t) no_row).value = tradable.counted.held ∙ held_first t tradable.rows _ f in
      rw (held, total) (total-held a t p rate rated.place rated.units tradable.rows _ f))

  lowerable : Lowerable d s p rate
  lowerable = record {
    place = few;
    low = totals-low;
    enough = held_low;
    there = λ h. same_or_not (place_in tradable.rows t) (length tradable.rows)
        (λ z.
        let nothing : s.held ≡ 0 = tradable.counted.held ∙ held_none t tradable.rows (nowhere_at t tradable.rows z) in
        absurd (omega arith))
        (λ o. omega (arith, place-few t tradable.rows, tradable.counted.at, tradable.count));
  }

-- the place that was counted is one of the holdings', or past their end
pub tradable-there : {d : Day} {s : Scan} {a : Account} {t : Row} → Tradable d s a t → (s.at ≡ d.count → ⊥) → s.at < d.count
tradable-there {d} {s} {a} {t} tradable other =
    let few : s.at ≤ d.count = omega (arith, place-few t tradable.rows, tradable.counted.at, tradable.count) in
    same_or_not s.at d.count (λ e. absurd (other e)) (λ o. omega arith)

-- a trade at its rate
module _ {a : Account} (t : Row) where
  pub rates_none : {x : Refusal} → Builds a (valued t 1) (Err x) → Rates a t (Err x)
  rates_none builds = record { number = described-first t builds; place = λ p e. absurd (cc); rated = λ p e. absurd (cc) }

  pub rates_at : {h : Holding} → Builds a (valued t 1) (Ok h) → {period p rate : ℕ} → period ≡ period_of a h.maturity → p + 1 ≡ period → p < 5 → rate ≡ rate_of a h
      → Rates a t (Ok (record { place = p; rate = rate }))
  rates_at builds {period} {p} {rate} place low few units =
      let rated = described-rated t builds refl place low units in
      record {
        number = described-first t builds;
        place = λ x e. let same : record { place = p; rate = rate } ≡ x = cc in subst (λ (y : AtRate). y.place < 5) same few;
        rated = λ x e. let same : record { place = p; rate = rate } ≡ x = cc in subst (λ (y : AtRate). Rated a t y.place y.rate) same rated;
      }

module _ {a : Account} {t : Row} {at : AtRate} (rates : Rates a t (Ok at)) where
  pub raises : {d : Day} {s : Scan} → Tradable d s a t → Raisable d at.place at.rate
  raises tradable = raisable (rates.rated at refl) tradable (rates.place at refl)

  pub lowers : {d : Day} {s : Scan} → Tradable d s a t → Lowerable d s at.place at.rate
  lowers tradable = lowerable (rates.rated at refl) tradable (rates.place at refl)

  -- in the account of the book
  pub rated_in : (d : Day) → a ≡ account_at d → Rated (account_at d) t at.place at.rate
  rated_in d w = subst (λ (x : Account). Rated x t at.place at.rate) w (rates.rated at refl)
