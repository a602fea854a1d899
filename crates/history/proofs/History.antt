-- The page specs/History.antt, proved. Assumes nothing.
use mathlib.Core.Path.{◌≡◌, refl, sym, ap, ◌∙◌}
use mathlib.Core.Logic.{⊎_elim}
use mathlib.Core.Bool.{Bool}
use mathlib.Core.List.{List, [], ◌∷◌, map}
use Prim.Native.Nat.{◌≤◌}
use native.Mathlib.Omega.{arith}
use lib.ListN.{length}
use lib.Seq.{take_at}
use borrow.Author.Tests.{eq-eqb, ne_eqb}
use Rattle.lists.specs.Choice.{same}
use Rattle.lists.specs.Tables.{list_to, sum_of, front}
use Rattle.lists.proofs.Tests.{by-test, either_way}
use Rattle.lists.proofs.Overwrite.{overwrite-front, length-overwrite}
use Rattle.ledger.specs.Trades.{Trade}
use Rattle.ledger.proofs.Holdings.{held}
use Rattle.ledger.proofs.Reckoned.{Reckoned, reckoned-none, reckoned-added, reckoned-taken, reckoned_balance}
use Rattle.ledger.proofs.One.{one-balance}
use Rattle.holding.specs.declared.Row.{Row}
use Rattle.daybook.specs.Book.{description_of, total_of, totals_of, head_of, account_at, Book, holdings_in}
use Rattle.daybook.specs.Orders.{holdings_after, date_after, stored, day_after, book_after, accepted, booked}
use Rattle.daybook.specs.declared.Order.{Order, TheVariants.Add, TheVariants.Take, TheVariants.MoveTo}
use Rattle.history.specs.History.{Call, Description, entry_of, noted, after, trades, Empty, Kept, Continued}
use Rattle.history.proofs.Rows.{described, one-rows, entries-held, entries-added, entries-taken}
use Rattle.history.proofs.Accepted.{Passes, accepted_passes, none_adding, none_taking}
use Rattle.history.proofs.Lengths.{added-fits, taken-fits}

-- the holdings that an order leaves stand first, as many as are counted
after-holdings : (b : Book) (o : Order Row) → holdings_in (book_after b o) ≡ holdings_after o (holdings_in b)
unfolding holdings_in book_after day_after stored front
after-holdings b o = take_at (holdings_after o (holdings_in b)) _ _ refl

-- the date stays with every order that names no other
date_stays : (short : Bool) (b : Book) (o : Order Row) → date_after o b.day.date ≡ b.day.date → (booked short b o).day.date ≡ b.day.date
unfolding booked book_after day_after stored
date_stays short b o e = by-test (λ (x : Book). x.day.date ≡ b.day.date) (accepted short b o) (λ _. e) (λ _. refl)

module _ (start : Book) where
  -- a book whose holdings are reckoned from trades, with their totals and their count, and with the letter and the length that it started with
  record Right (sofar : List (Trade Description)) (b : Book) : Type 0 where
    reckoned : Reckoned same sofar (map entry_of (holdings_in b))
    totals : b.day.totals ≡ totals_of (account_at b.day) (holdings_in b)
    letter : b.day.letter ≡ start.day.letter
    count : length (holdings_in b) ≡ b.day.count
    few : b.day.count ≤ 256
    room : length b.list ≡ length start.list

  right_empty : Empty start → Right [] start
  unfolding holdings_in totals_of total_of list_to sum_of
  right_empty e =
      rw (e.none, e.totals) record { reckoned = reckoned-none described; totals = refl; letter = refl; count = refl; few = omega arith; room = refl }

  module _ (sofar : List (Trade Description)) (b : Book) (r : Right sofar b) where
    -- what an order that nothing refuses leaves: the balance of one trade more, in no more entries than 256 and than the list has
    record Leaves (o : Order Row) : Type 0 where
      reckoned : Reckoned same (noted o sofar) (map entry_of (holdings_after o (holdings_in b)))
      few : length (holdings_after o (holdings_in b)) ≤ 256
      fits : length (holdings_after o (holdings_in b)) ≤ length b.list

    leaving : (short : Bool) (o : Order Row) → Passes short b o → Leaves o
    unfolding noted holdings_after
    leaving short (Add t) p =
        let rows = holdings_in b in
        let a = none_adding (length b.list) b.day rows t p.order in
        record {
          reckoned = rw (entries-added t rows) (reckoned-added described sofar (map entry_of rows) (description_of t) t.value r.reckoned a.some);
          few = added-fits t 256 rows a.no_3 (omega (arith, r.count, p.few));
          fits = added-fits t (length b.list) rows a.no_2 (omega (arith, r.count, p.fits));
        }
    leaving short (Take t) p =
        let rows = holdings_in b in
        let enough : t.value ≤ held same (map entry_of rows) (description_of t) =
        rw (entries-held t rows) (none_taking (length b.list) b.day rows t p.order) in
        record {
          reckoned = rw (entries-taken t rows) (reckoned-taken described sofar (map entry_of rows) (description_of t) t.value r.reckoned enough);
          few = omega (arith, taken-fits t rows, r.count, p.few);
          fits = omega (arith, taken-fits t rows, r.count, p.fits);
        }
    leaving short (MoveTo to) p = record { reckoned = r.reckoned; few = omega (arith, r.count, p.few); fits = omega (arith, r.count, p.fits) }

    right_after : (short : Bool) (o : Order Row) → Passes short b o → Right (noted o sofar) (book_after b o)
    right_after short o p =
        let l = leaving short o p in
        let rows = holdings_after o (holdings_in b) in
        record {
          reckoned = rw (after-holdings b o) l.reckoned;
          totals = rw (after-holdings b o) (unfold book_after day_after stored account_at head_of in refl);
          letter = unfold book_after day_after stored in r.letter;
          count = rw (after-holdings b o) (unfold book_after day_after stored in refl);
          few = unfold book_after day_after stored in l.few;
          room = unfold book_after in ap length (sym (overwrite-front rows b.list)) ∙ length-overwrite 0 rows b.list (omega (arith, l.fits)) ∙ r.room;
        }

  right : Empty start → (calls : List Call) → Right (trades start calls) (after start calls)
  unfolding trades after booked
  right e [] = right_empty e
  right e (c ∷ earlier) =
      let r = right e earlier in
      let b = after start earlier in
      either_way (accepted c.short b c.order)
      (λ s. rw s (right_after (trades start earlier) b r c.short c.order (accepted_passes c.short b c.order s)))
      (λ s. rw s r)

  pub kept : Empty start → (calls : List Call) → Kept start calls
  kept e calls =
      let r = right e calls in
      let rows = holdings_in (after start calls) in
      let list = reckoned_balance described (trades start calls) (map entry_of rows) r.reckoned in
      record {
        totals = r.totals;
        letter = r.letter;
        count = r.count;
        few = r.few;
        room = r.room;
        list = list;
        only = λ others h. one-rows others rows (one-balance described (trades start calls) (map entry_of others) (map entry_of rows) h list);
      }

  pub continued : (calls : List Call) (c : Call) → Continued start calls c
  unfolding after trades booked accepted noted book_after day_after stored date_after
  continued calls c = record {
    refused = λ n. (rw (ne_eqb _ 0 n), rw (ne_eqb _ 0 n));
    changed = λ z. rw (eq-eqb _ 0 z);
    added = λ t e z. rw (eq-eqb _ 0 z, e);
    taken = λ t e z. rw (eq-eqb _ 0 z, e);
    moved = λ to e.
        rw e
        (by-test (λ (l : List (Trade Description)). l ≡ trades start calls) (accepted c.short (after start calls) (MoveTo to)) (λ _. refl) (λ _. refl));
    date = λ to e z. rw (eq-eqb _ 0 z, e);
    same-date = λ t. ⊎_elim (λ e. rw e (date_stays c.short (after start calls) (Add t) refl)) (λ e. rw e (date_stays c.short (after start calls) (Take t) refl));
  }
