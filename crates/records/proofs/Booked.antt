-- An order to what is lent: from the core's outcome, the records that were written and the reply that was put, to what the exported bookings promise. Assumes nothing.
use mathlib.Core.Path.{◌≡◌, refl, sym, ap, subst, ◌∙◌}
use mathlib.Core.Bool.{Bool, true, false, cond, or-true, false≢true}
use mathlib.Core.List.{List, ◌++◌, append-nil}
use Prim.Native.Nat.{ℕ, ◌*◌, ◌/◌, ◌≤◌}
use native.Mathlib.Omega.{arith}
use lib.Dec.{ltb}
use lib.ListN.{length, take, drop, length-append, length-drop, take-append-drop}
use lib.Seq.{take_all, drop-length, length-take-le}
use borrow.Author.Tests.{eqb-true, ltb-false, ne_eqb}
use Rattle.lists.specs.Choice.{first_of}
use Rattle.lists.specs.Tables.{front}
use Rattle.lists.proofs.Firsts.{Numbered, first_of-none, none_first, numbered-append, numbered-in_turn}
use Rattle.lists.proofs.Tables.{length_to}
use Rattle.lists.proofs.Tests.{by-test, by_end, either_way, neither}
use Rattle.holding.specs.Holding.{head_faults}
use Rattle.holding.specs.declared.{Head.Head, Row.Row}
use Rattle.article.specs.Answer.{Answer, make_answer}
use Rattle.proposal.specs.Outcome.{at_place}
use Rattle.proposal.proofs.Places.{listed_at}
use Rattle.words.specs.Words.{word_at, encode}
use Rattle.lent.specs.Boundary.{Answers}
use Rattle.daybook.specs.Book.{valued, held_in, totals_of, account_at, Book, make_book, holdings_in}
use Rattle.daybook.specs.Orders.{description_faults, sum_faults, join_faults, taking_faults, date_faults, at_matured, matured_faults, order_faults, from_totals, from_rows}
use Rattle.daybook.specs.Orders.{answer_of, lent_faults, rows_faults, totals_faults, faults}
use Rattle.daybook.specs.Orders.{holdings_after, date_after, stored, day_after, book_after, accepted_answer, outcome, accepted, booked}
use Rattle.daybook.specs.declared.{Day.Day}
use Rattle.daybook.specs.declared.Order.{Order, TheVariants.Add, TheVariants.Take, TheVariants.MoveTo}
use Rattle.daybook.proofs.Described.{description-listed}
use Rattle.booking.specs.Seeing.{trade_of, changed, Concluded}
use Rattle.booking.specs.declared.Outcome.{Outcome}
use Rattle.booking.proofs.Seen.{rows-numbered}
use Rattle.records.specs.Records.{records_in, rows_in, encode_rows, totals_in, too_short, Slices, make_slices, short_in, day_in, lent_book, head_after, Books}
use Rattle.records.specs.Writing.{Rewritten, Stored, Writable, Replied}
use Rattle.records.proofs.Lent.{lent-numbers}
use Rattle.records.proofs.Bytes.{Bytes}
use Rattle.records.proofs.Rows.{length-rows, rows_back, front-rows}
use Rattle.records.proofs.Rewriting.{still}

-- a list lent with too little is refused with 3 or 2, whatever its totals are
short-refused : (b : Book) (o : Order Row) → outcome true b o ≡ cond (ltb 256 b.day.count) (make_answer 3 0 0) (make_answer 2 0 0)
unfolding outcome faults lent_faults at_place first_of
short-refused b o = rw (or-true (ltb (length b.list) b.day.count))

short-number : (b : Book) (o : Order Row) → accepted true b o ≡ false
unfolding accepted
short-number b o = rw (short-refused b o) (either_way (ltb 256 b.day.count) (λ e. rw e) (λ e. rw e))

-- rows that were written over the list's: none, or at its front
module _ {before after : List ℕ} (own : Bytes before) (its : Bytes after) where
  rewritten_all : {rows : List Row} → Rewritten rows before after → after ≡ encode_rows rows ++ drop (56 * records_in before) before
  unfolding records_in
  rewritten_all w =
      let same : records_in after ≡ records_in before = ap (◌/ 56) w.long in
      sym (rows_back after its) ∙ rw (w.rows, same, w.rest)

  rewritten_same : Rewritten (rows_in before) before after → after ≡ before
  rewritten_same w = rewritten_all w ∙ rows_back before own

  rewritten_front : (hs : List Row) → Rewritten (front hs (rows_in before)) before after → after ≡ front (encode_rows hs) before
  unfolding front records_in
  rewritten_front hs w =
      let rows = rows_in before in
      let same : records_in after ≡ records_in before = ap (◌/ 56) w.long in
      let long : length (hs ++ drop (length hs) rows) ≡ records_in before = ap (length {A = Row}) (sym w.rows) ∙ length-rows after ∙ same in
      let few : length hs ≤ records_in before = omega (arith, long, length-append hs (drop (length hs) rows), length-drop (length hs) rows) in
      rewritten_all w ∙ front-rows before own hs few

-- a refusal has a number, so that an accepted order has the answer of one
abbrev number : Answer → ℕ
number a = a.number

order-numbered : (room : ℕ) (d : Day) (rows : List Row) (o : Order Row) → Numbered number (order_faults room d rows o)
unfolding order_faults sum_faults join_faults taking_faults date_faults matured_faults at_matured
order-numbered room d rows (Add t) =
    let described = description_faults (account_at d) t in
    let summed = sum_faults (held_in rows t) t.value in
    let listed = numbered-append (λ n. n) described summed (description-listed (account_at d) t) (omega arith, tt) in
    listed_at 0 _ (numbered-append (λ n. n) (described ++ summed) (join_faults room rows t) listed (omega arith, (omega arith, tt)))
order-numbered room d rows (Take t) =
    let described = description_faults (account_at d) t in
    listed_at 0 _ (numbered-append (λ n. n) described (taking_faults (held_in rows t) t.value) (description-listed (account_at d) t) (omega arith, tt))
order-numbered room d rows (MoveTo to) =
    numbered-append number (at_place 0 (date_faults d.date to)) (matured_faults rows to) (listed_at 0 _ (omega arith, (omega arith, tt)))
    (numbered-in_turn number (at_matured rows to) (λ k. listed_at k _ (omega arith, tt)) (length rows))

faults-numbered : (short : Bool) (b : Book) (o : Order Row) → Numbered number (faults short b o)
unfolding faults lent_faults head_faults totals_faults
faults-numbered short b o =
    let room = length b.list in
    let d = b.day in
    let rows = holdings_in b in
    let off = at_place 0 (totals_faults d rows) in
    let from-totals = numbered-append number off (order_faults room d rows o) (listed_at 0 _ (omega arith, tt)) (order-numbered room d rows o) in
    numbered-append number (at_place 0 (lent_faults short room d)) (from_rows room d rows o) (listed_at 0 _ (omega arith, (omega arith, (omega arith, (omega arith, tt)))))
    (numbered-append number (rows_faults (account_at d) rows) (from_totals room d rows o) (rows-numbered (account_at d) rows) from-totals)

accepted_answer_lem : (short : Bool) (b : Book) (o : Order Row) → (outcome short b o).number ≡ 0 → outcome short b o ≡ accepted_answer (holdings_in b) o
unfolding outcome
accepted_answer_lem short b o z =
    first_of-none (faults short b o) _ (none_first number (faults short b o) (accepted_answer (holdings_in b) o) (faults-numbered short b o) z).0

-- the first entries of a list at its front
front-taken : (n : ℕ) (xs : List Row) → front (take n xs) xs ≡ xs
unfolding front
front-taken n xs =
    by_end (λ (k : ℕ). k ≡ length xs → take n xs ++ drop (length (take n xs)) xs ≡ xs) n
    (λ k l e. rw (take_all n xs (omega arith)) (drop_past xs))
    (λ k l e. rw (length-take-le n xs (omega arith)) (take-append-drop n xs))
    (length xs) refl
  where
    drop_past : (ys : List Row) → ys ++ drop (length ys) ys ≡ ys
    drop_past ys = rw (drop-length ys) (append-nil ys)

-- an order to what is lent, which the core judged with what was read as stored
module _ (before : Slices) {s : Bool} {o : Order Row} {count : ℕ} {h : Head} {d : Day} {out : Outcome}
    (is : s ≡ too_short (length before.totals) (length before.answer))
    (st : Stored count before.totals h d) (judged : Concluded s (make_book d (rows_in before.list)) o out) where
  abbrev short : Bool
  short = short_in before

  abbrev lent : Book
  lent = lent_book count h before

  abbrev read : Book
  read = make_book d (rows_in before.list)

  con : Concluded short read o out
  unfolding short_in
  con = subst (λ (x : Bool). Concluded x read o out) is judged

  -- where nothing else is too short, that is the book
  long-totals : short ≡ false → 40 ≤ length before.totals
  unfolding short_in too_short
  long-totals e = ltb-false (length before.totals) 40 (neither (ltb (length before.totals) 40) (ltb (length before.answer) 16) e).0

  long-answer : short ≡ false → 16 ≤ length before.answer
  unfolding short_in too_short
  long-answer e = ltb-false (length before.answer) 16 (neither (ltb (length before.totals) 40) (ltb (length before.answer) 16) e).1

  same-book : short ≡ false → read ≡ lent
  unfolding lent_book
  same-book e = λ i. make_book (st.whole (long-totals e) i) (rows_in before.list)

  same_outcome : outcome short read o ≡ outcome short lent o
  unfolding lent_book day_in
  same_outcome =
      either_way short
      (λ e. rw e (short-refused read o ∙ rw st.count (sym (short-refused lent o))))
      (λ e. ap (λ (x : Book). outcome short x o) (same-book e))

  -- an accepted order was lent enough
  not_short : (b : Book) → accepted short b o ≡ true → short ≡ false
  not_short b y = either_way short (λ e. absurd (false≢true (sym (short-number b o) ∙ rw e at y))) (λ e. e)

  -- there is room for its totals
  pub room : Writable out.reply.finding out.reply.day.totals before.totals
  unfolding accepted booked book_after day_after stored totals_of
  room z =
      let y : accepted short read o ≡ true = rw (sym (ap number con.answer) ∙ z) in
      let five : out.reply.day.totals ≡ (book_after read o).day.totals = ap (λ (x : Day). x.totals) con.day ∙ rw y in
      (rw five (length_to 5 _), long-totals (not_short read y))

  -- a change that was written leaves the book's rows, and so does a move, which changes none
  abbrev change_by : Row → List Row
  change_by t = changed out.change (valued t) (rows_in before.list)

  as_booked : {t : Row} {after : List ℕ} → t ≡ trade_of o → Rewritten (change_by t) before.list after → Rewritten (booked short read o).list before.list after
  as_booked {after = after} e w =
      subst (λ (xs : List Row). Rewritten xs before.list after) (ap change_by e ∙ con.list) w

  as_moved : (to : ℕ) → o ≡ MoveTo to → Rewritten (booked short read o).list before.list before.list
  unfolding booked book_after holdings_after holdings_in
  as_moved to e =
      let rows = rows_in before.list in
      rw e (still (by-test (λ (x : Book). x.list ≡ rows) (accepted short read (MoveTo to)) (λ _. front-taken d.count rows) (λ _. refl)))

  -- what is written
  module _ {after : Slices} {r : ℕ} (own : Bytes before.list) (its : Bytes after.list) (w : Rewritten (booked short read o).list before.list after.list)
      (p : Replied out.reply.finding out.reply.day.totals before.totals after.totals before.answer after.answer r) where
    answered : Answers (outcome short lent o) before.answer after.answer r
    answered = subst (λ (a : Answer). Answers a before.answer after.answer r) (con.answer ∙ same_outcome) p.returned

    same_number : (answer_of out.reply.finding).number ≡ (outcome short lent o).number
    same_number = ap number (con.answer ∙ same_outcome)

    -- of an accepted order its records and its totals
    module _ (y : accepted short lent o ≡ true) where
      long : short ≡ false
      long = not_short lent y

      left : booked short read o ≡ book_after lent o
      unfolding booked
      left = ap (λ (x : Book). booked short x o) (same-book long) ∙ rw y

      list_written : after.list ≡ front (encode_rows (holdings_after o (holdings_in lent))) before.list
      unfolding book_after lent_book
      list_written = rewritten_front own its (holdings_after o (holdings_in lent)) (rw left at w)

      five : out.reply.day.totals ≡ (day_after lent.day (holdings_in lent) o).totals
      unfolding book_after
      five = ap (λ (x : Day). x.totals) (con.day ∙ ap (λ (x : Book). x.day) left)

      zero_number : (outcome short lent o).number ≡ 0
      unfolding accepted
      zero_number = eqb-true (outcome short lent o).number 0 y

      totals-written : after.totals ≡ front (encode (day_after lent.day (holdings_in lent) o).totals) before.totals
      totals-written = p.written ∙ rw (same_number, zero_number, five)

    -- of a refused one nothing
    module _ (n : accepted short lent o ≡ false) where
      list-kept : after.list ≡ before.list
      unfolding accepted booked
      list-kept =
          let kept : (booked short read o).list ≡ rows_in before.list = rw (same_outcome, n) in
          rewritten_same own its (rw kept at w)

      totals-kept : after.totals ≡ before.totals
      unfolding accepted
      totals-kept = p.written ∙ rw (same_number, n)

    -- the book that is lent next
    lent-next : r ≡ 0 → lent_book (word_at after.answer 0) (head_after o h) after ≡ booked short lent o
    unfolding lent_book day_in head_after booked book_after day_after stored accepted accepted_answer
    lent-next z =
        let zero : (outcome short lent o).number ≡ 0 = sym answered.number ∙ z in
        let y : accepted short lent o ≡ true = rw zero in
        let new : word_at after.answer 0 ≡ length (holdings_after o (holdings_in lent)) =
        ap (λ (a : Answer). a.first) (answered.reads (long-answer (long y)) ∙ accepted_answer_lem short lent o zero) in
        let totals : totals_in after.totals ≡ (day_after lent.day (holdings_in lent) o).totals = p.back (same_number ∙ zero) ∙ five y in
        let rows : rows_in after.list ≡ (book_after lent o).list = w.rows ∙ ap (λ (x : Book). x.list) (left y) in
        let next : lent_book (word_at after.answer 0) (head_after o h) after ≡ book_after lent o =
        λ i. make_book (record { date = date_after o h.date; letter = h.letter; count = new i; totals = totals i }) (rows i) in
        next ∙ rw zero

    books : Books o count h before after r
    books = record {
      numbers = lent-numbers count h before;
      returned = answered;
      list = by-test (λ (xs : List ℕ). after.list ≡ xs) (accepted short lent o) list_written list-kept;
      totals = by-test (λ (xs : List ℕ). after.totals ≡ xs) (accepted short lent o) totals-written totals-kept;
      next = lent-next;
      untouched = λ other.
          let n : accepted short lent o ≡ false = unfold accepted in ne_eqb (outcome short lent o).number 0 (λ z. other (answered.number ∙ z)) in
          (list-kept n, totals-kept n);
    }

  -- a change that was written, and a move, which writes none
  pub books_written : {after : Slices} {r : ℕ} {t : Row} → Bytes before.list → Bytes after.list → t ≡ trade_of o → Rewritten (change_by t) before.list after.list
      → Replied out.reply.finding out.reply.day.totals before.totals after.totals before.answer after.answer r → Books o count h before after r
  books_written own its e w p = books own its (as_booked e w) p

  pub books_moved : {totals answer : List ℕ} {r : ℕ} (to : ℕ) → o ≡ MoveTo to → Bytes before.list
      → Replied out.reply.finding out.reply.day.totals before.totals totals before.answer answer r
      → Books o count h before (make_slices before.list totals answer) r
  books_moved to e own p = books own own (as_moved to e) p
