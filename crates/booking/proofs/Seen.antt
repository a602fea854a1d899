-- A book seen one holding more. Assumes nothing.
use mathlib.Core.Path.{◌≡◌, refl, sym, ap, subst, ◌∙◌}
use mathlib.Core.Bool.{true, false}
use mathlib.Core.List.{List, [], ◌∷◌, ◌++◌, append-nil, append_assoc}
use Prim.Native.Nat.{ℕ, suc, ◌+◌, ◌≤◌, ◌<◌}
use native.Mathlib.Omega.{arith}
use lib.ListN.{length, get_or, set}
use Rattle.lists.specs.Choice.{first_of}
use Rattle.lists.specs.Tables.{Each, turns, in_turn, list_to, sum_of}
use Rattle.lists.proofs.Entries.{at_each}
use Rattle.lists.proofs.Firsts.{Numbered, first-append, first_of-none, first_found, none_first, in_turn-none, numbered-in_turn}
use Rattle.lists.proofs.Tests.{same_or_not}
use Rattle.std.specs.Prelude.{Result, Ok, Err}
use Rattle.refusals.specs.{Refusals.number_of, declared.Refusal.Refusal}
use Rattle.booking.proofs.Refusals.{has_number}
use Rattle.dates.specs.Calendar.{is_date}
use Rattle.holding.specs.Holding.{row_faults, fault_of}
use Rattle.holding.specs.declared.{Account.Account, Row.Row}
use Rattle.holding.proofs.Ranges.{row_listed}
use Rattle.rates.specs.Rate.{period_of}
use Rattle.article.specs.Answer.{Answer, make_answer}
use Rattle.proposal.specs.{Submission.no_row, Outcome.at_place, Outcome.first_fault}
use Rattle.proposal.proofs.{Places.at_none, Places.listed_at, Places.zero_at, Places.first-at, Clear.number}
use Rattle.daybook.specs.Book.{alike, place_in, held_in, margin_of, total_of, totals_of}
use Rattle.daybook.specs.Orders.{at_row, rows_faults}
use Rattle.daybook.specs.declared.Refused.{Refused}
use Rattle.booking.specs.Seeing.{Counted, Seen, Countable}
use Rattle.booking.specs.declared.Scan.{Scan}
use Rattle.booking.proofs.Rows.{faults-more, place-few, found-more, none_more, totals-more, totals-high}

-- every refusal of a holding has a number
pub rows-numbered : (a : Account) (rows : List Row) → Numbered number (rows_faults a rows)
unfolding rows_faults at_row
rows-numbered a rows = numbered-in_turn number (at_row a rows) (λ k. listed_at k _ (row_listed a _)) (length rows)

-- holdings without fault, one by one
pub rows-clear : (a : Account) (rows : List Row) → (first_fault (rows_faults a rows)).number ≡ 0 → Each (λ r. fault_of a r ≡ 0) rows
unfolding rows_faults at_row fault_of
rows-clear a rows e =
    let none = (none_first number (rows_faults a rows) (make_answer 0 0 0) (rows-numbered a rows) e).0 in
    at_each (λ r. fault_of a r ≡ 0) no_row rows (λ k q.
    first_of-none (row_faults a (get_or rows k no_row)) 0 (at_none k (row_faults a (get_or rows k no_row)) (in_turn-none (at_row a rows) (length rows) none k q)))

-- what is accepted is one thing
pub accepted_is : {x y : Scan} → ◌≡◌ {A = Result Scan Refused} (Ok x) (Ok y) → x ≡ y
accepted_is e = cc

module _ {a : Account} {t : Row} {rows : List Row} {x : Refused} (seen : Seen a t rows (Err x)) where
  -- after a fault nothing changes
  seen-refused : (r : Row) → Seen a t (rows ++ (r ∷ [])) (Err x)
  seen-refused r = record {
    fault =
        seen.fault
        ∙ sym (ap first_fault (faults-more a rows r)
        ∙ first_found number (rows_faults a rows) (at_place (length rows) (row_faults a r)) (make_answer 0 0 0) (make_answer 0 0 0) refl
        (λ z. has_number x.refusal (ap number seen.fault ∙ z)));
    clear = λ s e. absurd (cc);
  }

pub seen_past : {a : Account} {t : Row} {x : Refused} (rows rest : List Row) → Seen a t rows (Err x) → Seen a t (rows ++ rest) (Err x)
seen_past {a} {t} {x} rows [] seen = subst (λ (l : List Row). Seen a t l (Err x)) (sym (append-nil rows)) seen
seen_past {a} {t} {x} rows (r ∷ rest) seen =
    subst (λ (l : List Row). Seen a t l (Err x)) (append_assoc rows (r ∷ []) rest) (seen_past (rows ++ (r ∷ [])) rest (seen-refused seen r))

module _ {a : Account} {t : Row} {rows : List Row} {s : Scan} (seen : Seen a t rows (Ok s)) where
  first-number : (first_fault (rows_faults a rows)).number ≡ 0
  first-number = sym (ap number seen.fault)

  pub counted : Counted a t rows s
  counted = seen.clear s refl

  pub seen-clear : Each (λ r. fault_of a r ≡ 0) rows
  seen-clear = rows-clear a rows first-number

  -- there is room for one more
  pub seen_countable : {i : ℕ} → is_date a.date ≡ true → length rows ≡ i → i < 256 → Countable a i s
  seen_countable valued l few = record {
    valued = valued;
    few = few;
    low = λ k. rw (counted.totals, ← l) (totals-high a valued rows seen-clear k);
  }

  module _ (r : Row) where
    abbrev more : List Row
    more = rows ++ (r ∷ [])

    passed : (w : Answer) → first_of (rows_faults a rows) w ≡ w
    passed w = first_of-none (rows_faults a rows) w (none_first number (rows_faults a rows) (make_answer 0 0 0) (rows-numbered a rows) first-number).0

    -- the last decides
    last : first_fault (rows_faults a more) ≡ first_fault (at_place (length rows) (row_faults a r))
    last = ap first_fault (faults-more a rows r) ∙ first-append (rows_faults a rows) (at_place (length rows) (row_faults a r)) (make_answer 0 0 0) ∙ passed _

    -- its fault is the first
    pub seen-fault : {y : Refusal} {i : ℕ} → length rows ≡ i → number_of y ≡ fault_of a r → (fault_of a r ≡ 0 → ⊥) → Seen a t more (Err (record { refusal = y; place = i }))
    unfolding fault_of
    seen-fault {y} {i} l f other = record {
      fault =
          (λ j. make_answer (number_of y) (sym l j) 0)
          ∙ sym (last ∙ first-at (length rows) (row_faults a r) (number_of y) f (λ z. other (sym f ∙ z)) (make_answer 0 0 0));
      clear = λ s e. absurd (cc);
    }

    -- it has none, and is counted
    pub seen-counted : {next : Scan} → fault_of a r ≡ 0 → Counted a t more next → Seen a t more (Ok next)
    unfolding fault_of
    seen-counted {next} f c = record {
      fault =
          sym (last ∙ first_of-none (at_place (length rows) (row_faults a r)) (make_answer 0 0 0) (zero_at (length rows) (row_faults a r) (row_listed a r) f));
      clear = λ s e. subst (λ (x : Scan). Counted a t more x) (accepted_is e) c;
    }

    -- its margin is added to its period's total
    module _ {p m : ℕ} (low : p < 5) (period : period_of a r.maturity ≡ suc p) (margin : m ≡ margin_of a r) where
      pub totals-next : set s.totals p (get_or s.totals p 0 + m) ≡ totals_of a more
      totals-next = rw (counted.totals, margin) (totals-more a rows r p low period)

    module _ {i : ℕ} (l : length rows ≡ i) where
      -- it is equal to the trade, and the first
      pub counted-here : {next : Scan} → s.at ≡ i → alike r t ≡ true → next.at ≡ s.at → next.held ≡ r.value → next.totals ≡ totals_of a more → Counted a t more next
      unfolding place_in held_in
      counted-here {next} w b g h c =
          let (p, v, n) = none_more t r rows (sym counted.at ∙ w ∙ sym l) in
          record {
            at = g ∙ w ∙ sym l ∙ sym (p ∙ rw b (omega arith));
            held = h ∙ sym (v ∙ rw b);
            totals = c;
          }

      -- neither it nor any before it is equal
      pub counted_past : {next : Scan} → s.at ≡ i → alike r t ≡ false → next.at ≡ i + 1 → next.held ≡ s.held → next.totals ≡ totals_of a more → Counted a t more next
      unfolding place_in held_in
      counted_past {next} w b g h c =
          let (p, v, n) = none_more t r rows (sym counted.at ∙ w ∙ sym l) in
          record {
            at = g ∙ ap (λ (x : ℕ). x + 1) (sym l) ∙ sym (p ∙ rw b);
            held = h ∙ counted.held ∙ n ∙ sym (v ∙ rw b);
            totals = c;
          }

      -- one before it is
      pub counted_later : {next : Scan} → (s.at ≡ i → ⊥) → next.at ≡ s.at → next.held ≡ s.held → next.totals ≡ totals_of a more → Counted a t more next
      counted_later {next} w g h c =
          let few : place_in rows t ≤ length rows = place-few t rows in
          let found : place_in rows t < length rows = same_or_not (place_in rows t) (length rows) (λ z. absurd (w (counted.at ∙ z ∙ l))) (λ z. omega arith) in
          let (p, v) = found-more t r rows found in
          record {
            at = g ∙ counted.at ∙ sym p;
            held = h ∙ counted.held ∙ sym v;
            totals = c;
          }

-- nothing was seen yet
pub seen_none : (a : Account) (t : Row) (s : Scan) → s.at ≡ 0 → s.held ≡ 0 → s.totals ≡ 0 ∷ 0 ∷ 0 ∷ 0 ∷ 0 ∷ [] → Seen a t [] (Ok s)
unfolding rows_faults in_turn turns first_of place_in held_in totals_of total_of sum_of list_to
seen_none a t s w h c = record {
  fault = refl;
  clear = λ x e. subst (λ (y : Scan). Counted a t [] y) (accepted_is e) (record { at = w; held = h; totals = c });
}
