-- A lent book is checked first: the refusal of its first fault, whatever the order; and past it, what the order is given. Assumes nothing.
use mathlib.Core.Path.{◌≡◌, refl, sym, ap, ◌∙◌}
use mathlib.Core.Logic.{◌⊎◌, inl, inr}
use mathlib.Core.Bool.{Bool, true, false, not, ◌||◌, or-true}
use mathlib.Core.List.{List, ◌++◌}
use Prim.Native.Nat.{ℕ, ◌≤◌, ◌<◌}
use native.Mathlib.Omega.{arith}
use lib.Dec.{ltb}
use lib.ListN.{length}
use borrow.Author.Tests.{lt-ltb, le-ltb, ne_eqb}
use Rattle.lists.specs.Choice.{first_of}
use Rattle.lists.proofs.Entries.{eq_same, ne_same}
use Rattle.lists.proofs.Firsts.{None, first-append, skip_none, first-in_turn, none-in_turn}
use Rattle.dates.specs.Calendar.{is_date}
use Rattle.holding.specs.Holding.{head_fault, row_faults, fault_of, Ranges}
use Rattle.holding.proofs.Heads.{sound_head, unvalued_head, unlettered-head, none-of-head}
use Rattle.holding.proofs.Ranges.{none-of-row, fault-none, none_fault}
use Rattle.article.specs.Answer.{Answer, make_answer}
use Rattle.proposal.specs.{Outcome.at_place}
use Rattle.proposal.proofs.Places.{none-at, first-at}
use Rattle.holding.specs.declared.Row.{Row}
use Rattle.daybook.specs.Book.{totals_of, head_of, account_at, Book, holdings_in}
use Rattle.daybook.specs.Orders.{lent_faults, at_row, rows_faults, totals_faults}
use Rattle.daybook.specs.Orders.{order_faults, from_totals, from_rows, faults, accepted_answer, outcome, accepted, booked}
use Rattle.daybook.specs.Bookings.{entry_at, book_account, EachInRange, TotalsRight, Fits, Headed, InOrder, Checked}
use Rattle.daybook.specs.declared.Order.{Order}
use Rattle.daybook.proofs.Holdings.{length-holdings, holding_at_lem}
use Rattle.daybook.proofs.Totals.{totals_afresh, afresh_totals}
use Rattle.daybook.proofs.Cases.{lent_cases}

-- refusals at place 0: the first decides, and where none holds what follows does
pub refused-at : (fs : List (Bool × ℕ)) (rest : List (Bool × Answer)) (z : Answer) (n : ℕ) → first_of fs 0 ≡ n → 1 ≤ n
    → first_of (at_place 0 fs ++ rest) z ≡ make_answer n 0 0
refused-at fs rest z n e some = first-append (at_place 0 fs) rest z ∙ first-at 0 fs n (sym e) (λ none. omega arith) _

pub passed-at : (fs : List (Bool × ℕ)) (rest : List (Bool × Answer)) (z : Answer) → None fs → first_of (at_place 0 fs ++ rest) z ≡ first_of rest z
passed-at fs rest z h = skip_none (at_place 0 fs) rest z (none-at 0 fs h)

module _ (short : Bool) (b : Book) (o : Order Row) where
  abbrev room : ℕ
  room = length b.list

  abbrev last : Answer
  last = accepted_answer (holdings_in b) o

  -- what the lent book is refused with
  abbrev lent : List (Bool × ℕ)
  lent = lent_faults short room b.day

  refused-lent : (n : ℕ) → first_of lent 0 ≡ n → 1 ≤ n → outcome short b o ≡ make_answer n 0 0
  unfolding outcome faults
  refused-lent n e some = refused-at lent (from_rows room b.day (holdings_in b) o) last n e some

  fits_head : Fits short b → first_of lent 0 ≡ head_fault (head_of b.day)
  unfolding lent_faults head_fault first_of
  fits_head f = rw (le-ltb 256 b.day.count f.holdings, le-ltb room b.day.count f.entries, f.others)

  refused-many : 256 < b.day.count → outcome short b o ≡ make_answer 3 0 0
  unfolding lent_faults first_of
  refused-many h = refused-lent 3 (rw (lt-ltb 256 b.day.count h)) (omega arith)

  refused_brief : b.day.count ≤ 256 → (room < b.day.count) ⊎ (short ≡ true) → outcome short b o ≡ make_answer 2 0 0
  unfolding lent_faults first_of
  refused_brief h s = refused-lent 2 (rw (le-ltb 256 b.day.count h, brief s)) (omega arith)
    where
      brief : (room < b.day.count) ⊎ (short ≡ true) → (ltb room b.day.count || short) ≡ true
      brief (inl h) = rw (lt-ltb room b.day.count h)
      brief (inr e) = rw e (or-true (ltb room b.day.count))

  refused-undated : Fits short b → is_date b.day.date ≡ false → outcome short b o ≡ make_answer 24 0 0
  unfolding head_of
  refused-undated f e = refused-lent 24 (fits_head f ∙ unvalued_head (head_of b.day) e) (omega arith)

  refused-unlettered : Fits short b → is_date b.day.date ≡ true → 1 < b.day.letter → outcome short b o ≡ make_answer 26 0 0
  unfolding head_of
  refused-unlettered f e l = refused-lent 26 (fits_head f ∙ unlettered-head (head_of b.day) e l) (omega arith)

  -- with a date and a letter
  module _ (h : Headed short b) where
    abbrev fit : b.day.count ≤ room
    fit = h.sizes.entries

    no_fault : head_fault (head_of b.day) ≡ 0
    unfolding head_of
    no_fault = sound_head (head_of b.day) h.dated h.lettered

    from_head_lem : outcome short b o ≡ first_of (from_rows room b.day (holdings_in b) o) last
    unfolding outcome faults lent_faults
    from_head_lem =
        passed-at lent (from_rows room b.day (holdings_in b) o) last
        (le-ltb 256 b.day.count h.sizes.holdings, (rw (le-ltb room b.day.count fit, h.sizes.others), none-of-head (head_of b.day) no_fault))

    -- the first holding outside its ranges
    none-at_row : (k : ℕ) → k < b.day.count → Ranges (book_account b) (entry_at b k) → None (at_row (account_at b.day) (holdings_in b) k)
    unfolding at_row account_at head_of
    none-at_row k q g = rw (holding_at_lem b fit k q) (none-at k _ (none-of-row _ _ (none_fault _ _ g)))

    fault-at_row : (k : ℕ) → k < b.day.count → (Ranges (book_account b) (entry_at b k) → ⊥) → (w : Answer)
        → first_of (at_row (account_at b.day) (holdings_in b) k) w ≡ make_answer (fault_of (book_account b) (entry_at b k)) k 0
    unfolding at_row account_at head_of fault_of
    fault-at_row k q n w =
        rw (holding_at_lem b fit k q) (first-at k (row_faults (book_account b) (entry_at b k)) _ refl (λ z. n (fault-none _ _ z)) w)

    refused-row : (k : ℕ) → k < b.day.count → ((j : ℕ) → j < k → Ranges (book_account b) (entry_at b j)) → (Ranges (book_account b) (entry_at b k) → ⊥)
        → outcome short b o ≡ make_answer (fault_of (book_account b) (entry_at b k)) k 0
    unfolding rows_faults
    refused-row k q before n =
        from_head_lem ∙ first-append (rows_faults (account_at b.day) (holdings_in b)) (from_totals room b.day (holdings_in b) o) last
        ∙ first-in_turn (at_row (account_at b.day) (holdings_in b)) (length (holdings_in b)) k _ _ (omega (arith, length-holdings b fit))
        (λ j i. none-at_row j (omega arith) (before j i)) (fault-at_row k q n)

    -- each within its ranges
    module _ (each : EachInRange b) where
      from_rows_lem : outcome short b o ≡ first_of (from_totals room b.day (holdings_in b) o) last
      unfolding rows_faults
      from_rows_lem =
          from_head_lem
          ∙ skip_none (rows_faults (account_at b.day) (holdings_in b)) (from_totals room b.day (holdings_in b) o) last
          (none-in_turn (at_row (account_at b.day) (holdings_in b)) _
          (λ k q. let below : k < b.day.count = omega (arith, length-holdings b fit) in none-at_row k below (each k below)))

      refused-totals : (TotalsRight b → ⊥) → outcome short b o ≡ make_answer 27 0 0
      unfolding totals_faults first_of holdings_in account_at head_of
      refused-totals n =
          from_rows_lem
          ∙ refused-at (totals_faults b.day (holdings_in b)) (order_faults room b.day (holdings_in b) o) last 27
          (rw (ne_same b.day.totals (totals_of (book_account b) (holdings_in b)) (λ e. n (rw e (totals_afresh _ _))))) (omega arith)

  -- a book in order: the order decides
  pub from-order : InOrder short b → outcome short b o ≡ first_of (order_faults room b.day (holdings_in b) o) last
  unfolding totals_faults holdings_in account_at head_of
  from-order i =
      from_rows_lem i.head i.each_holding
      ∙ passed-at (totals_faults b.day (holdings_in b)) (order_faults room b.day (holdings_in b) o) last
      (ap not (eq_same b.day.totals (totals_of (book_account b) (holdings_in b)) (afresh_totals _ _ _ i.totals)), tt)

  -- an order that is accepted has none of these refusals
  pub accepted-in_order : (outcome short b o).number ≡ 0 → InOrder short b
  accepted-in_order e =
      lent_cases short b
      (λ many. never (refused-many many) (λ z. omega arith))
      (λ few brief. never (refused_brief few brief) (λ z. omega arith))
      (λ fits date. never (refused-undated fits date) (λ z. omega arith))
      (λ fits date letter. never (refused-unlettered fits date letter) (λ z. omega arith))
      (λ h k q before bad. never (refused-row h k q before bad) (λ z. bad (fault-none _ _ z)))
      (λ h each off. never (refused-totals h each off) (λ z. omega arith))
      (λ i. i)
    where
      never : {n p : ℕ} → outcome short b o ≡ make_answer n p 0 → (n ≡ 0 → ⊥) → InOrder short b
      never r some = absurd (some (sym (ap (λ (a : Answer). a.number) r) ∙ e))

  pub checked : Checked b (outcome short b o) (booked short b o) short
  unfolding booked accepted
  checked = record {
    too_many = refused-many;
    too_short = refused_brief;
    undated = refused-undated;
    unlettered = refused-unlettered;
    bad_record = refused-row;
    totals_off = refused-totals;
    in_order = accepted-in_order;
    unchanged = λ n. rw (ne_eqb (outcome short b o).number 0 n);
  }
