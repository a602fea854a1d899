-- What an order that is accepted was not refused for. Assumes nothing.
use mathlib.Core.Path.{◌≡◌, sym, ap, ◌∙◌}
use mathlib.Core.Bool.{Bool, true, false, not, ◌&&◌}
use mathlib.Core.List.{List, ◌++◌}
use Prim.Native.Nat.{ℕ, ◌+◌, ◌≤◌}
use native.Mathlib.Omega.{arith}
use lib.Dec.{leb, ltb, eqb}
use lib.ListN.{length}
use borrow.Author.Tests.{eqb-true, ltb-false, not-false}
use Rattle.lists.specs.Choice.{within}
use Rattle.lists.proofs.Tests.{neither, within_true}
use Rattle.lists.proofs.Firsts.{None, Numbered, append-none, none_first, numbered-append, numbered-in_turn}
use Rattle.holding.specs.Holding.{value_limit}
use Rattle.holding.specs.declared.Row.{Row}
use Rattle.proposal.specs.{Outcome.at_place}
use Rattle.proposal.proofs.{Places.at_none, Places.listed_at, Clear.number}
use Rattle.daybook.specs.Book.{held_in, account_at, Book, holdings_in}
use Rattle.daybook.specs.Orders.{description_faults, sum_faults, joins, join_faults, taking_faults, date_faults, at_matured, matured_faults, order_faults, outcome, accepted}
use Rattle.daybook.specs.declared.Day.{Day}
use Rattle.daybook.specs.declared.Order.{Order, TheVariants.Add, TheVariants.Take, TheVariants.MoveTo}
use Rattle.daybook.proofs.{Described.description-listed, Checked.from-order, Checked.accepted-in_order}

-- every refusal has a number, from 1
order-numbered : (room : ℕ) (d : Day) (rows : List Row) (o : Order Row) → Numbered number (order_faults room d rows o)
unfolding order_faults sum_faults join_faults taking_faults date_faults matured_faults at_matured
order-numbered room d rows (Add t) =
    listed_at 0 _
    (numbered-append _ (description_faults (account_at d) t ++ sum_faults (held_in rows t) t.value) (join_faults room rows t)
    (numbered-append _ (description_faults (account_at d) t) (sum_faults (held_in rows t) t.value) (description-listed (account_at d) t) (omega arith, tt))
    (omega arith, (omega arith, tt)))
order-numbered room d rows (Take t) =
    listed_at 0 _
    (numbered-append _ (description_faults (account_at d) t) (taking_faults (held_in rows t) t.value) (description-listed (account_at d) t) (omega arith, tt))
order-numbered room d rows (MoveTo to) =
    numbered-append number (at_place 0 (date_faults d.date to)) (matured_faults rows to)
    (listed_at 0 (date_faults d.date to) (omega arith, (omega arith, tt)))
    (numbered-in_turn number (at_matured rows to) (λ k. listed_at k _ (omega arith, tt)) _)

module _ (short : Bool) (b : Book) (o : Order Row) where
  abbrev room : ℕ
  room = length b.list

  -- the book has no more holdings than 256 and than its list has entries, and nothing refuses the order
  pub record Passes : Type 0 where
    pub few : b.day.count ≤ 256
    pub fits : b.day.count ≤ room
    pub order : None (order_faults room b.day (holdings_in b) o)

  pub accepted_passes : accepted short b o ≡ true → Passes
  unfolding accepted
  accepted_passes e =
      let found = eqb-true (outcome short b o).number 0 e in
      let i = accepted-in_order short b o found in
      let refusals = order_faults room b.day (holdings_in b) o in
      record {
        few = i.head.sizes.holdings;
        fits = i.head.sizes.entries;
        order = (none_first number refusals _ (order-numbered room b.day (holdings_in b) o) (sym (ap number (from-order short b o i)) ∙ found)).0;
      }

module _ (room : ℕ) (d : Day) (rows : List Row) (t : Row) where
  -- an adding adds something, and joins only where there is room
  pub record Adding : Type 0 where
    pub some : 1 ≤ t.value
    pub no_3 : (joins rows t && leb 256 (length rows)) ≡ false
    pub no_2 : (joins rows t && leb room (length rows)) ≡ false

  pub none_adding : None (order_faults room d rows (Add t)) → Adding
  unfolding order_faults sum_faults join_faults
  none_adding h =
      let (first, last) = append-none (description_faults (account_at d) t ++ sum_faults (held_in rows t) t.value) (join_faults room rows t) (at_none 0 _ h) in
      let (_, sum) = append-none (description_faults (account_at d) t) (sum_faults (held_in rows t) t.value) first in
      let inside = (neither (not (within 1 value_limit t.value)) (not (within 1 value_limit (held_in rows t + t.value))) sum.0).0 in
      record {
        some = (within_true 1 value_limit t.value (not-false (within 1 value_limit t.value) inside)).0;
        no_3 = last.0;
        no_2 = last.1.0;
      }

  -- a taking takes no more than is held
  pub none_taking : None (order_faults room d rows (Take t)) → t.value ≤ held_in rows t
  unfolding order_faults taking_faults
  none_taking h =
      let (_, last) = append-none (description_faults (account_at d) t) (taking_faults (held_in rows t) t.value) (at_none 0 _ h) in
      ltb-false (held_in rows t) t.value (neither (eqb t.value 0) (ltb (held_in rows t) t.value) last.0).1
