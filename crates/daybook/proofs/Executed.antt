-- An order that nothing refuses: its answer, and the book that it leaves. Assumes nothing.
use mathlib.Core.Path.{◌≡◌, ap, ◌∙◌}
use mathlib.Core.Bool.{Bool}
use mathlib.Core.List.{List}
use Prim.Native.Nat.{ℕ}
use lib.ListN.{length}
use borrow.Author.Tests.{eq-eqb}
use Rattle.lists.specs.Tables.{front}
use Rattle.lists.proofs.Firsts.{None, first_of-none}
use Rattle.holding.specs.declared.Row.{Row}
use Rattle.article.specs.Answer.{Answer, make_answer}
use Rattle.daybook.specs.Book.{Book, holdings_in}
use Rattle.daybook.specs.Orders.{order_faults, holdings_after, date_after, stored, day_after, book_after, accepted_answer, outcome, accepted, booked}
use Rattle.daybook.specs.Bookings.{InOrder, Executed}
use Rattle.daybook.specs.declared.Order.{Order}
use Rattle.daybook.proofs.Totals.{totals_afresh}
use Rattle.daybook.proofs.Written.{take-front}
use Rattle.daybook.proofs.Checked.{from-order}

module _ (short : Bool) (b : Book) (o : Order Row) where
  -- the order, by its outcome and the book that is left
  abbrev pub Executes : ℕ → ℕ → (List Row → Type 0) → Type 0
  Executes new-date new_count Such = Executed b (outcome short b o) (booked short b o) new-date new_count Such

  changed : (outcome short b o).number ≡ 0 → booked short b o ≡ book_after b o
  unfolding booked accepted
  changed e = rw (eq-eqb (outcome short b o).number 0 e)

  -- none of its refusals holds, and the holdings after it are these
  pub executed : InOrder short b → None (order_faults (length b.list) b.day (holdings_in b) o) → (rows : List Row) → holdings_after o (holdings_in b) ≡ rows
      → (count : ℕ) → length rows ≡ count → (Such : List Row → Type 0) → Such (front rows b.list) → Executes (date_after o b.day.date) count Such
  unfolding book_after day_after stored accepted_answer
  executed i none rows e count c Such s =
      let answer : outcome short b o ≡ make_answer 0 count 0
      = from-order short b o i ∙ first_of-none (order_faults (length b.list) b.day (holdings_in b) o) _ none
      ∙ ap (λ (n : ℕ). make_answer 0 n 0) (ap (λ (xs : List Row). length xs) e ∙ c) in
      let after = changed (ap (λ (a : Answer). a.number) answer) in
      record {
        answered = answer;
        date = ap (λ (x : Book). x.day.date) after;
        letter = ap (λ (x : Book). x.day.letter) after;
        count = ap (λ (x : Book). x.day.count) after ∙ ap (λ (xs : List Row). length xs) e ∙ c;
        list = rw (after, e) s;
        totals = rw (after, e, take-front count rows b.list c) (totals_afresh _ rows);
      }
