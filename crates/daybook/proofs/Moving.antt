-- Moving a book in order to a date: 24, 27 and 7 in turn, or the same list with totals on that date. Assumes nothing.
use mathlib.Core.Path.{◌≡◌, refl, ◌∙◌}
use mathlib.Core.Bool.{Bool, true}
use Prim.Native.Nat.{ℕ, ◌≤◌, ◌<◌}
use native.Mathlib.Omega.{arith}
use lib.ListN.{length}
use borrow.Author.Tests.{le-leb, lt-leb}
use Rattle.lists.specs.Choice.{first_of}
use Rattle.lists.proofs.Firsts.{None, none-append, first-in_turn, none-in_turn}
use Rattle.dates.specs.Calendar.{is_date}
use Rattle.article.specs.Answer.{Answer, make_answer}
use Rattle.proposal.specs.{Outcome.at_place}
use Rattle.proposal.proofs.Places.{none-at, first-at}
use Rattle.daybook.specs.Book.{Book, holdings_in}
use Rattle.daybook.specs.Orders.{date_faults, at_matured, matured_faults, order_faults, holdings_after, date_after, outcome, booked}
use Rattle.daybook.specs.Bookings.{entry_at, InOrder, Moving}
use Rattle.daybook.specs.declared.Order.{TheVariants.MoveTo}
use Rattle.daybook.proofs.Holdings.{length-holdings, holding_at_lem}
use Rattle.daybook.proofs.Written.{front_same}
use Rattle.daybook.proofs.Checked.{refused-at, passed-at, from-order}
use Rattle.daybook.proofs.Executed.{Executes, executed}

module _ (short : Bool) (b : Book) (i : InOrder short b) (to : ℕ) where
  abbrev fit : b.day.count ≤ length b.list
  fit = i.head.sizes.entries

  refused : (n : ℕ) → first_of (date_faults b.day.date to) 0 ≡ n → 1 ≤ n → outcome short b (MoveTo to) ≡ make_answer n 0 0
  unfolding order_faults
  refused n e some = from-order short b (MoveTo to) i ∙ refused-at (date_faults b.day.date to) (matured_faults (holdings_in b) to) _ n e some

  -- a later date
  module _ (e : is_date to ≡ true) (h : b.day.date < to) where
    later : None (date_faults b.day.date to)
    unfolding date_faults
    later = (rw e, (lt-leb to b.day.date h, tt))

    not-matured : (k : ℕ) → k < b.day.count → to < (entry_at b k).maturity → None (at_matured (holdings_in b) to k)
    unfolding at_matured
    not-matured k q m = rw (holding_at_lem b fit k q) (none-at k _ (lt-leb (entry_at b k).maturity to m, tt))

    matured-at : (k : ℕ) → k < b.day.count → (entry_at b k).maturity ≤ to → (w : Answer) → first_of (at_matured (holdings_in b) to k) w ≡ make_answer 7 k 0
    unfolding at_matured first_of
    matured-at k q m w = rw (holding_at_lem b fit k q) (first-at k _ 7 (rw (le-leb (entry_at b k).maturity to m)) (λ z. omega arith) w)

    first-matured : (k : ℕ) → k < b.day.count → ((j : ℕ) → j < k → to < (entry_at b j).maturity) → (entry_at b k).maturity ≤ to
        → outcome short b (MoveTo to) ≡ make_answer 7 k 0
    unfolding order_faults matured_faults
    first-matured k q before m =
        from-order short b (MoveTo to) i ∙ passed-at (date_faults b.day.date to) (matured_faults (holdings_in b) to) _ later
        ∙ first-in_turn (at_matured (holdings_in b) to) (length (holdings_in b)) k _ _ (omega (arith, length-holdings b fit))
        (λ j p. not-matured j (omega arith) (before j p)) (matured-at k q m)

    moves : ((k : ℕ) → k < b.day.count → to < (entry_at b k).maturity) → Executes short b (MoveTo to) to b.day.count (◌≡ b.list)
    unfolding order_faults matured_faults date_after holdings_after
    moves all =
        executed short b (MoveTo to) i
        (none-append (at_place 0 (date_faults b.day.date to)) (matured_faults (holdings_in b) to) (none-at 0 _ later)
        (none-in_turn (at_matured (holdings_in b) to) _
        (λ k q. let below : k < b.day.count = omega (arith, length-holdings b fit) in not-matured k below (all k below))))
        (holdings_in b) refl b.day.count (length-holdings b fit)
        (◌≡ b.list) (unfold holdings_in in front_same b.day.count b.list fit)

  pub moving : Moving b (outcome short b (MoveTo to)) (booked short b (MoveTo to)) to
  unfolding date_faults first_of
  moving = record {
    unreal = λ e. refused 24 (rw e) (omega arith);
    not_later = λ e h. refused 27 (rw (e, le-leb to b.day.date h)) (omega arith);
    matured = first-matured;
    moved = moves;
  }
