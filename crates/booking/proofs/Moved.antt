-- A book on a later date: what the check then finds of a holding without fault is whether it has matured. Assumes nothing.
use mathlib.Core.Path.{◌≡◌, refl, sym, ap, ◌∙◌}
use mathlib.Core.Bool.{Bool, true, false}
use mathlib.Core.Logic.{inl}
use mathlib.Core.List.{List, [], ◌∷◌}
use Prim.Native.Nat.{ℕ, zero, suc, ◌+◌, ◌≤◌, ◌<◌}
use native.Mathlib.Omega.{arith}
use lib.Dec.{leb}
use lib.ListN.{length, get_or}
use borrow.Author.Tests.{leb-true, leb-false}
use Rattle.lists.specs.Choice.{first_of}
use Rattle.lists.specs.Tables.{Each, turns, in_turn, front}
use Rattle.lists.proofs.Entries.{each_at}
use Rattle.lists.proofs.Firsts.{None, first-append, first_of-none, first-refused, none_first}
use Rattle.lists.proofs.Tests.{either_way}
use Rattle.std.specs.Prelude.{Ok, Err}
use Rattle.refusals.specs.{Refusals.number_of, declared.Refusal.Refusal}
use Rattle.booking.proofs.Refusals.{has_number}
use Rattle.dates.proofs.Anniversaries.{anniversary-follows}
use Rattle.holding.specs.Holding.{fault_of, row_faults, Ranges, account_of}
use Rattle.holding.specs.declared.{Account.Account, Row.Row}
use Rattle.holding.proofs.Ranges.{fault-none, none_fault, row_listed, row-refused}
use Rattle.article.specs.Answer.{Answer, make_answer}
use Rattle.proposal.specs.{Submission.no_row, Outcome.at_place}
use Rattle.proposal.proofs.{Places.first-at, Places.none-at, Places.zero_at, Clear.number}
use Rattle.daybook.specs.Book.{head_of, account_at}
use Rattle.daybook.specs.Orders.{whole, at_row, rows_faults, date_faults, at_matured, matured_faults, order_faults, holdings_after, date_after, stored, day_after, accepted_answer}
use Rattle.daybook.specs.declared.{Day.Day, Refused.Refused}
use Rattle.daybook.specs.declared.Order.{TheVariants.MoveTo}
use Rattle.daybook.proofs.Written.{front_same}
use Rattle.booking.specs.Seeing.{on_date, Seen, changed}
use Rattle.booking.specs.Settling.{outcome_by, settlement, Settles, Held}
use Rattle.booking.specs.declared.{Scan.Scan, Change.TheVariants.Stay}
use Rattle.booking.proofs.Seen.{rows-clear, rows-numbered, counted}
use Rattle.booking.proofs.Settling.{settles_refused, settles_accepted}

-- lists in turn whose firsts are the same, whatever follows
turns-first : (f g : ℕ → List (Bool × Answer)) (i k : ℕ) → ((m : ℕ) → m < i + k → (w : Answer) → first_of (f m) w ≡ first_of (g m) w)
    → (z : Answer) → first_of (turns i k f) z ≡ first_of (turns i k g) z
unfolding turns
turns-first f g i zero h z = refl
turns-first f g i (suc k) h z =
    first-append (f i) (turns (suc i) k f) z
    ∙ h i (omega arith) (first_of (turns (suc i) k f) z)
    ∙ ap (first_of (g i)) (turns-first f g (suc i) k (λ m q. h m (omega arith)) z)
    ∙ sym (first-append (g i) (turns (suc i) k g) z)

module _ (a : Account) (to : ℕ) (later : a.date < to) where
  abbrev then : Account
  then = on_date to a

  matured : (r : Row) → Ranges a r → r.maturity ≤ to → fault_of then r ≡ 7
  unfolding on_date
  matured r g h = (row-refused then r).term g.identity g.maturity.date (inl h)

  unmatured : (r : Row) → Ranges a r → to < r.maturity → fault_of then r ≡ 0
  unfolding on_date
  unmatured r g h =
      let follows = anniversary-follows a.date to 100 (omega arith) in
      none_fault then r (record {
        identity = g.identity;
        maturity = record { date = g.maturity.date; after = h; until = omega (arith, g.maturity.until, follows) };
        value = g.value;
        currency = g.currency;
        rating = g.rating;
      })

  seven : (t : Bool) → t ≡ true → ◌≡◌ {A = ℕ} 7 (first_of ((t, 7) ∷ []) 0)
  unfolding first_of
  seven t e = rw e

  nothing : (t : Bool) → t ≡ false → ◌≡◌ {A = ℕ} (first_of ((t, 7) ∷ []) 0) 0
  unfolding first_of
  nothing t e = rw e

  -- of one holding, and of all
  first_of_lem : (r : Row) (k : ℕ) → fault_of a r ≡ 0 → (w : Answer) → first_of (at_place k (row_faults then r)) w ≡ first_of (at_place k ((leb r.maturity to, 7) ∷ [])) w
  unfolding fault_of
  first_of_lem r k e w =
      let g = fault-none a r e in
      either_way (leb r.maturity to)
      (λ t. first-at k (row_faults then r) 7 (sym (matured r g (leb-true _ _ t))) (λ z. omega arith) w
      ∙ sym (first-at k ((leb r.maturity to, 7) ∷ []) 7 (seven _ t) (λ z. omega arith) w))
      (λ f. first_of-none (at_place k (row_faults then r)) w (zero_at k (row_faults then r) (row_listed then r) (unmatured r g (leb-false _ _ f)))
      ∙ sym (first_of-none (at_place k ((leb r.maturity to, 7) ∷ [])) w (zero_at k ((leb r.maturity to, 7) ∷ []) (omega arith, tt) (nothing _ f))))

  pub first-matured : (rows : List Row) → Each (λ r. fault_of a r ≡ 0) rows → (z : Answer) → first_of (rows_faults then rows) z ≡ first_of (matured_faults rows to) z
  unfolding rows_faults matured_faults in_turn at_row at_matured
  first-matured rows h z =
      turns-first (at_row then rows) (at_matured rows to) 0 (length rows)
      (λ m q w. first_of_lem (get_or rows m no_row) m (each_at (λ r. fault_of a r ≡ 0) no_row rows h m (omega arith)) w) z

module _ {d : Day} {room : ℕ} {rows : List Row} (held : Held d room rows) (to : ℕ) where
  -- to no date, or to none that is later
  pub moving_refused : {x : Refusal} → number_of x ≡ first_of (date_faults d.date to) 0 → Settles d room rows (MoveTo to) (outcome_by d (Err (whole x)))
  unfolding settlement order_faults
  moving_refused {x} e =
      settles_refused
      (first-append (at_place 0 (date_faults d.date to)) (matured_faults rows to) _
      ∙ first-at 0 (date_faults d.date to) (number_of x) e (has_number x) _)

  module _ (none : 0 ≡ first_of (date_faults d.date to) 0) where
    unrefused : None (date_faults d.date to)
    unfolding date_faults
    unrefused = (none_first (λ (n : ℕ). n) (date_faults d.date to) 0 (omega arith, (omega arith, tt)) (sym none)).0

    later : d.date < to
    unfolding date_faults
    later = leb-false to d.date unrefused.1.0

    from-matured : (z : Answer) → first_of (order_faults room d rows (MoveTo to)) z ≡ first_of (matured_faults rows to) z
    unfolding order_faults
    from-matured z =
        first-append (at_place 0 (date_faults d.date to)) (matured_faults rows to) z
        ∙ first_of-none (at_place 0 (date_faults d.date to)) _ (none-at 0 (date_faults d.date to) unrefused)

    account-later : (account_at d).date < to
    unfolding account_at account_of head_of
    account-later = later

    same_first : (z : Answer) → first_of (rows_faults (on_date to (account_at d)) rows) z ≡ first_of (matured_faults rows to) z
    same_first z = first-matured (account_at d) to account-later rows (rows-clear (account_at d) rows held.clear) z

    -- matured by then
    pub moving_matured : {t : Row} {x : Refused} → Seen (on_date to (account_at d)) t rows (Err x) → Settles d room rows (MoveTo to) (outcome_by d (Err x))
    unfolding settlement
    moving_matured {t} {x} seen =
        settles_refused
        (from-matured _ ∙ sym (same_first _)
        ∙ first-refused number (rows_faults (on_date to (account_at d)) rows) (make_answer 0 0 0) (accepted_answer rows (MoveTo to)) refl
        (λ z. has_number x.refusal (ap number seen.fault ∙ z))
        ∙ sym seen.fault)

    -- none has
    pub moving_on : {t : Row} {moved : Scan} → Seen (on_date to (account_at d)) t rows (Ok moved)
        → Settles d room rows (MoveTo to) (outcome_by d (Ok (record {
          day = record { date = to; letter = d.letter; count = d.count; totals = moved.totals };
          change = Stay;
        })))
    unfolding settlement day_after date_after holdings_after stored account_at account_of head_of on_date changed
    moving_on {t} {moved} seen =
        settles_accepted
        (from-matured _ ∙ sym (same_first _)
        ∙ first_of-none (rows_faults (on_date to (account_at d)) rows) _ (none_first number (rows_faults (on_date to (account_at d)) rows) (make_answer 0 0 0)
        (rows-numbered (on_date to (account_at d)) rows) (sym (ap number seen.fault))).0)
        (λ i. record { date = to; letter = d.letter; count = sym held.count i; totals = (counted seen).totals i })
        (λ xs l k. sym (ap (λ (ys : List Row). front ys xs) (sym k) ∙ front_same (length rows) xs (omega (arith, l, held.within))))
