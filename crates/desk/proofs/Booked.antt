-- The list after an order, to the last entry. The core promises a book by its rows, and one row may be that of several records; but it promises it of
-- every list that begins with the book's holdings, so also of one whose later rows tell any two records apart. Assumes nothing.
use mathlib.Core.Path.{◌≡◌, refl, sym, ap, ◌∙◌}
use mathlib.Core.Logic.{◌⊎◌, inl}
use mathlib.Core.Bool.{false}
use mathlib.Core.List.{List, [], ◌∷◌, ◌++◌, map, map-append}
use Prim.Native.Nat.{ℕ, ◌≤◌, ◌<◌}
use native.Mathlib.Omega.{arith}
use lib.Dec.{eqb}
use lib.ListN.{length, take, drop, length-append, length-map, length-drop, take-append-drop}
use lib.Seq.{take_at, length-take-le, get_or-take}
use borrow.Author.Tests.{eqb-true, eqb-false, eq-eqb}
use Rattle.lists.specs.Tables.{Each, front}
use Rattle.lists.proofs.Tests.{by-test, either_way}
use Rattle.lists.proofs.Entries.{each_map, each_back, at_each}
use Rattle.holding.specs.Holding.{row_of, holding_of, Government, Corporate, Worth, fault_of}
use Rattle.holding.specs.declared.{Holding.Holding, Row.Row}
use Rattle.holding.proofs.Ranges.{side-back, kind-back, issuer-back, currency-back, rating-back}
use Rattle.article.specs.Answer.{Answer}
use Rattle.proposal.specs.Submission.{no_row}
use Rattle.proposal.proofs.Clear.{number}
use Rattle.daybook.specs.Book.{alike, valued, added, taken, Book, make_book, holdings_in}
use Rattle.daybook.specs.Orders.{holdings_after, outcome, accepted, booked, book_after}
use Rattle.daybook.specs.Bookings.{book_account, InOrder, Described, DescribedFirst}
use Rattle.daybook.specs.declared.{Day.Day}
use Rattle.daybook.specs.declared.Order.{Order, TheVariants.Add, TheVariants.Take, TheVariants.MoveTo}
use Rattle.daybook.proofs.Bookings.{bookings}
use Rattle.daybook.proofs.Described.{described-or-not, some-fault}
use Rattle.daybook.proofs.Descriptions.{valued_equal}
use Rattle.booking.specs.Seeing.{trade_of, changed, Concluded}
use Rattle.booking.specs.declared.{Change.Change, Outcome.Outcome}
use Rattle.booking.proofs.Changed.{unchanged}
use Rattle.desk.specs.Desk.{order_of, Books, worth, blank, traded_by, put_of}
use Rattle.desk.proofs.Mapped.{map-take, map-front, map-changed}
use Rattle.desk.proofs.Apart.{apart_of, back_of, backs_apart, back-row, backs_rows, side-low}

-- a row whose issuer has a number; a record of such a row is its record
abbrev Issued : Row → Type 0
Issued r = Government r.issuer ⊎ Corporate r.issuer

kept : (h : Holding) → Issued (row_of h) → holding_of (row_of h) ≡ h
unfolding row_of holding_of
kept h known = rw (side-back h.side, kind-back h.kind, issuer-back h.issuer known, currency-back h.currency, rating-back h.rating)

-- the row of what is put is the trade's with its value
put-row : (o : Order Holding) (v : ℕ) → row_of (put_of o v) ≡ valued (trade_of (order_of o)) v
unfolding row_of put_of traded_by worth blank valued trade_of order_of
put-row (Add h) v = refl
put-row (Take h) v = refl
put-row (MoveTo to) v = refl

-- every row's side is one, before an order and after it
abbrev Low : Row → Type 0
Low r = r.side ≤ 1

low-added : (rows : List Row) (t : Row) → Each Low rows → Low t → Each Low (added rows t)
unfolding added valued
low-added [] t h p = (p, tt)
low-added (r ∷ rs) t h p = by-test (Each Low) (alike r t) (λ _. (h.0, h.1)) (λ _. (h.0, low-added rs t h.1 p))

low-taken : (rows : List Row) (t : Row) → Each Low rows → Each Low (taken rows t)
unfolding taken valued
low-taken [] t h = tt
low-taken (r ∷ rs) t h =
    by-test (Each Low) (alike r t) (λ _. by-test (Each Low) (eqb r.value t.value) (λ _. h.1) (λ _. (h.0, h.1))) (λ _. (h.0, low-taken rs t h.1))

low-after : (o : Order Holding) (rows : List Row) → Each Low rows → Each Low (holdings_after (order_of o) rows)
unfolding holdings_after order_of
low-after (Add t) rows h = low-added rows (row_of t) h (side-low t)
low-after (Take t) rows h = low-taken rows (row_of t) h
low-after (MoveTo to) rows h = h

cent : (t : Row) → Worth (valued t 1)
unfolding valued
cent t = record { low = omega arith; high = omega arith }

-- a trade that is not refused for its description is described
described-by : (b : Book) (answer : Answer) (t : Row) → DescribedFirst b answer b t → answer.number ≡ 0 → Described (book_account b) t
described-by b answer t first zero = described-or-not (book_account b) t (λ d. d) (λ n. absurd (some-fault b t n (valued t 1) (valued_equal t 1) (none n)))
  where
    none : (Described (book_account b) t → ⊥) → fault_of (book_account b) (valued t 1) ≡ 0
    none n = sym (ap number (first n (valued t 1) (valued_equal t 1) (cent t))) ∙ zero

-- of an accepted order what is put is the record of its row
put-kept : (b : Book) (o : Order Holding) → InOrder false b → (outcome false b (order_of o)).number ≡ 0 → (v : ℕ) → holding_of (row_of (put_of o v)) ≡ put_of o v
unfolding row_of order_of put_of traded_by worth blank
put-kept b (Add h) i zero v =
    let d = described-by b _ (row_of h) ((bookings.outcomes false b (Add (row_of h))).next i).0 zero in
    kept (worth h v) d.identity.issuer
put-kept b (Take h) i zero v =
    let d = described-by b _ (row_of h) ((bookings.outcomes false b (Take (row_of h))).next i).0 zero in
    kept (worth h v) d.identity.issuer
put-kept b (MoveTo to) i zero v = kept (worth blank v) (inl (omega arith))

-- so are the holdings of a book without fault
backs_kept : (hs : List Holding) → Each (λ h. Issued (row_of h)) hs → map back_of (map row_of hs) ≡ hs
backs_kept [] e = refl
backs_kept (h ∷ hs) e = rw (back-row (row_of h) (side-low h), kept h e.0) (ap (λ (l : List Holding). h ∷ l) (backs_kept hs e.1))

module _ (ys : List Holding) (d : Day) (o : Order Holding) (core : Outcome)
    (concluded : (list : List Row) → length list ≡ length ys → take d.count list ≡ take d.count (map row_of ys)
    → Concluded false (make_book d list) (order_of o) core) where
  abbrev n : ℕ
  n = d.count

  abbrev b : Book
  b = make_book d (map row_of ys)

  here : Concluded false b (order_of o) core
  here = concluded (map row_of ys) (length-map ys row_of) refl

  -- an accepted order
  module _ (zero : (outcome false b (order_of o)).number ≡ 0) where
    in_order : InOrder false b
    in_order = (bookings.outcomes false b (order_of o)).at_first.in_order zero

    within : n ≤ length ys
    within = omega (arith, in_order.head.sizes.entries, length-map ys row_of)

    -- the same holdings, and behind them rows that tell records apart
    abbrev rows : List Row
    rows = take n (map row_of ys)

    distinct : List Row
    distinct = rows ++ map apart_of (drop n ys)

    rows_long : length rows ≡ n
    rows_long = length-take-le n (map row_of ys) (omega (arith, length-map ys row_of, within))

    distinct-rows : take n distinct ≡ rows
    unfolding distinct
    distinct-rows = take_at rows (map apart_of (drop n ys)) n rows_long

    distinct-long : length distinct ≡ length ys
    unfolding distinct
    distinct-long = length-append rows (map apart_of (drop n ys)) ∙ omega (arith, rows_long, length-map (drop n ys) apart_of, length-drop n ys, within)

    issuers : Each (λ h. Issued (row_of h)) (take n ys)
    issuers =
        each_back Issued row_of (take n ys)
        (rw (map-take row_of n ys)
        (at_each Issued no_row rows (λ k q.
        let below : k < n = omega (arith, rows_long) in
        rw (get_or-take n (map row_of ys) k no_row below) (in_order.each_holding k below).identity.issuer)))

    distinct-back : map back_of distinct ≡ ys
    unfolding distinct
    distinct-back =
        rw (map-append back_of rows (map apart_of (drop n ys)), backs_apart (drop n ys), ← map-take row_of n ys, backs_kept (take n ys) issuers)
        (take-append-drop n ys)

    there : Concluded false (make_book d distinct) (order_of o) core
    there = concluded distinct distinct-long distinct-rows

    abbrev after : List Row
    after = holdings_after (order_of o) (holdings_in b)

    -- the core's list of it
    distinct-after : changed core.change (valued (trade_of (order_of o))) distinct ≡ front after distinct
    unfolding booked accepted book_after holdings_in
    distinct-after =
        let number' : (outcome false (make_book d distinct) (order_of o)).number ≡ 0 = ap number (sym there.answer ∙ here.answer) ∙ zero in
        there.list ∙ rw (eq-eqb _ 0 number', distinct-rows)

    lows : Each Low after
    unfolding holdings_in
    lows = low-after o (holdings_in b) (rw (← map-take row_of n ys) (each_map Low row_of (take n ys) (each-low (take n ys))))
      where
        each-low : (hs : List Holding) → Each (λ h. Low (row_of h)) hs
        each-low [] = tt
        each-low (h ∷ hs) = (side-low h, each-low hs)

    pub list-after : changed core.change (put_of o) ys ≡ front (map holding_of after) ys
    list-after =
        let x = valued (trade_of (order_of o)) in
        let put : (v : ℕ) → back_of (x v) ≡ put_of o v = λ v. ap back_of (sym (put-row o v)) ∙ back-row (row_of (put_of o v)) (side-low (put_of o v)) ∙ put-kept b o in_order zero v in
        (λ i. changed core.change (λ v. sym (put v) i) ys)
        ∙ ap (changed core.change (λ v. back_of (x v))) (sym distinct-back)
        ∙ sym (map-changed back_of core.change x distinct)
        ∙ ap (map back_of) distinct-after
        ∙ map-front back_of after distinct
        ∙ rw (backs_rows after lows, distinct-back)

  rows-after : map row_of (changed core.change (put_of o) ys) ≡ (booked false b (order_of o)).list
  rows-after =
      map-changed row_of core.change (put_of o) ys
      ∙ (λ i. changed core.change (λ v. put-row o v i) (map row_of ys))
      ∙ here.list

  -- the list that the change left
  pub books : (zs : List Holding) → zs ≡ changed core.change (put_of o) ys → Books ys d o zs core.reply
  unfolding accepted booked
  books zs e =
      either_way (eqb (outcome false b (order_of o)).number 0)
      (λ t. record {
        answer = here.answer;
        day = here.day;
        list = rw t (e ∙ list-after (eqb-true _ 0 t));
        rows = ap (map row_of) e ∙ rows-after;
      })
      (λ t.
      let stays = here.stays (eqb-false _ 0 t) in
      record {
        answer = here.answer;
        day = here.day;
        list = rw t (e ∙ ap (λ (c : Change). changed c (put_of o) ys) stays ∙ unchanged (put_of o) ys);
        rows = ap (map row_of) e ∙ rows-after;
      })
