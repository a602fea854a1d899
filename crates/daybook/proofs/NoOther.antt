-- What the page demands of an answer and of the book after leaves no choice: one case of it holds of every order to every lent book. Assumes nothing.
use mathlib.Core.Path.{◌≡◌, sym, ap, ◌∙◌}
use mathlib.Core.Bool.{Bool, true}
use mathlib.Core.List.{List}
use Prim.Native.Nat.{ℕ, ◌+◌, ◌-◌, ◌≤◌, ◌<◌}
use native.Mathlib.Omega.{arith}
use lib.Dec.{leb, ltb}
use lib.ListN.{length, get_or, take}
use lib.Seq.{ext_get_or}
use borrow.Author.Tests.{leb-true, leb-false, ltb-true, ltb-false}
use Rattle.lists.proofs.Tests.{either_way, same_or_not, by_end}
use Rattle.dates.specs.Calendar.{is_date}
use Rattle.holding.specs.Holding.{fault_of, Worth}
use Rattle.holding.specs.declared.Row.{Row}
use Rattle.holding.proofs.Ranges.{fault-none}
use Rattle.article.specs.Answer.{Answer, make_answer}
use Rattle.proposal.specs.Submission.{no_row}
use Rattle.daybook.specs.Book.{valued, totals_of, Book}
use Rattle.daybook.specs.Bookings.{Described, entry_at, account_on, book_account, FirstEqual, NoneEqual, Without, InOrder}
use Rattle.daybook.specs.Bookings.{Executed, DescribedFirst, Booking}
use Rattle.daybook.specs.declared.Order.{Order, TheVariants.Add, TheVariants.Take, TheVariants.MoveTo}
use Rattle.daybook.proofs.Descriptions.{valued_equal, value_of}
use Rattle.daybook.proofs.Cases.{each-or-first, none-or-first, lent_cases}
use Rattle.daybook.proofs.Described.{described-or-not, some-fault}
use Rattle.daybook.proofs.Totals.{afresh_totals}

-- lists that a holding has left are one
without-one : (b : Book) (k : ℕ) (l m : List Row) → Without b k l → Without b k m → l ≡ m
without-one b k l m e f =
    ext_get_or no_row l m (e.long ∙ sym f.long)
    (λ j _. by_end (λ (i : ℕ). get_or l i no_row ≡ get_or m i no_row) k
    (λ i h. e.before i h ∙ sym (f.before i h))
    (λ i h. either_way (ltb (i + 1) b.day.count)
    (λ q. let below = ltb-true (i + 1) b.day.count q in e.moved_up_lem i h below ∙ sym (f.moved_up_lem i h below))
    (λ q. let past = ltb-false (i + 1) b.day.count q in e.kept i past ∙ sym (f.kept i past))) j)

module _ (short : Bool) (b : Book) where
  -- of an order: two answers, each with a book after, are one
  module _ (o : Order Row) where
    abbrev OneOnly : Type 0
    OneOnly = (x y : Answer) (c d : Book) → Booking b x c short o → Booking b y d short o → (x ≡ y) × (c ≡ d)

    -- where the order is refused nothing changes
    refused : (n p : ℕ) → (n ≡ 0 → ⊥) → ((x : Answer) (c : Book) → Booking b x c short o → x ≡ make_answer n p 0) → OneOnly
    refused n p some so x y c d g h =
        let kept : (x : Answer) (c : Book) → Booking b x c short o → c ≡ b
        = λ x c g. g.at_first.unchanged (λ z. some (sym (ap (λ (a : Answer). a.number) (so x c g)) ∙ z)) in
        (so x c g ∙ sym (so y d h), kept x c g ∙ sym (kept y d h))

    -- where it is executed, date, letter, count and list are given, and the totals are those of the list
    executed : (date count : ℕ) (Such : List Row → Type 0) → ((l m : List Row) → Such l → Such m → l ≡ m)
        → ((x : Answer) (c : Book) → Booking b x c short o → Executed b x c date count Such) → OneOnly
    executed date count Such one so x y c d g h =
        let e = so x c g in
        let f = so y d h in
        let list = one c.list d.list e.list f.list in
        let right = afresh_totals (account_on b date) (take count c.list) c.day.totals e.totals in
        let also = afresh_totals (account_on b date) (take count d.list) d.day.totals f.totals in
        let totals : c.day.totals ≡ d.day.totals = right ∙ ap (λ (l : List Row). totals_of (account_on b date) (take count l)) list ∙ sym also in (
          e.answered ∙ sym f.answered,
          λ i. record {
            day = record {
              date = (e.date ∙ sym f.date) i;
              letter = (e.letter ∙ sym f.letter) i;
              count = (e.count ∙ sym f.count) i;
              totals = totals i;
            };
            list = list i;
          },
        )

    listed : (date count : ℕ) (list : List Row) → ((x : Answer) (c : Book) → Booking b x c short o → Executed b x c date count (◌≡ list)) → OneOnly
    listed date count list so = executed date count (◌≡ list) (λ l m p q. p ∙ sym q) so

  module _ (i : InOrder short b) where
    -- a described trade that adds
    module _ (t : Row) (e : Described (book_account b) t) where
      to_first : 1 ≤ t.value → (k : ℕ) → FirstEqual b t k → OneOnly (Add t)
      to_first v k f =
          let sum = (entry_at b k).value + t.value in
          either_way (ltb 100000000000 sum)
          (λ s. refused (Add t) 8 0 (λ z. omega arith) (λ x c g. ((g.next i).1 e).great_sum k f (ltb-true 100000000000 sum s)))
          (λ s. listed (Add t) _ _ _ (λ x c g. ((g.next i).1 e).to_first k f v (ltb-false 100000000000 sum s) (valued t sum) (valued_equal t sum) (value_of t sum)))

      joining : Worth t → NoneEqual b t → OneOnly (Add t)
      joining w n =
          let few = i.head.sizes.holdings in
          let fit = i.head.sizes.entries in
          same_or_not b.day.count 256 (λ s. refused (Add t) 3 0 (λ z. omega arith) (λ x c g. ((g.next i).1 e).a_257th n w s))
          (λ less. same_or_not (length b.list) b.day.count
          (λ s. refused (Add t) 2 0 (λ z. omega arith) (λ x c g. ((g.next i).1 e).no_place n w (omega arith) s))
          (λ more. listed (Add t) _ _ _ (λ x c g. ((g.next i).1 e).at_end n w (omega arith) (omega arith))))

      adding : OneOnly (Add t)
      adding =
          same_or_not t.value 0 (λ s. refused (Add t) 8 0 (λ z. omega arith) (λ x c g. ((g.next i).1 e).no_value s))
          (λ some. either_way (ltb 100000000000 t.value)
          (λ s. refused (Add t) 8 0 (λ z. omega arith) (λ x c g. ((g.next i).1 e).great_value (ltb-true 100000000000 t.value s)))
          (λ s. none-or-first b t (joining (record { low = omega arith; high = ltb-false 100000000000 t.value s })) (to_first (omega arith))))

      -- and one that takes
      from_first : 1 ≤ t.value → (k : ℕ) → FirstEqual b t k → OneOnly (Take t)
      from_first v k f =
          let held = (entry_at b k).value in
          either_way (ltb held t.value)
          (λ s. refused (Take t) 27 0 (λ z. omega arith) (λ x c g. ((g.next i).1 e).more k f (ltb-true held t.value s)))
          (λ s. let enough = ltb-false held t.value s in
          same_or_not t.value held
          (λ all. executed (Take t) _ _ (Without b k) (without-one b k) (λ x c g. ((g.next i).1 e).to_zero k f all (b.day.count - 1) (omega (arith, f.counted))))
          (λ part. let rest = held - t.value in
          let value = value_of t rest in
          listed (Take t) _ _ _ (λ x c g. ((g.next i).1 e).from_first k f v (valued t rest) (valued_equal t rest) (omega arith) (omega arith))))

      taking : OneOnly (Take t)
      taking =
          same_or_not t.value 0 (λ s. refused (Take t) 27 0 (λ z. omega arith) (λ x c g. ((g.next i).1 e).no_value s))
          (λ some. none-or-first b t (λ n. refused (Take t) 27 0 (λ z. omega arith) (λ x c g. ((g.next i).1 e).none_held n)) (from_first (omega arith)))

    -- a move
    module _ (to : ℕ) where
      after : (k : ℕ) → ltb to (entry_at b k).maturity ≡ true → to < (entry_at b k).maturity
      after k = ltb-true to (entry_at b k).maturity

      later : is_date to ≡ true → b.day.date < to → OneOnly (MoveTo to)
      later real l =
          each-or-first (λ k. ltb to (entry_at b k).maturity) b.day.count
          (λ each. listed (MoveTo to) _ _ _ (λ x c g. (g.next i).moved real l (λ k m. after k (each k m))))
          (λ k m before s. let matured = ltb-false to (entry_at b k).maturity s in
          refused (MoveTo to) 7 k (λ z. omega arith) (λ x c g. (g.next i).matured real l k m (λ j n. after j (before j n)) matured))

      moving : OneOnly (MoveTo to)
      moving =
          either_way (is_date to)
          (λ real. either_way (leb to b.day.date)
          (λ s. refused (MoveTo to) 27 0 (λ z. omega arith) (λ x c g. (g.next i).not_later real (leb-true to b.day.date s)))
          (λ s. later real (leb-false to b.day.date s)))
          (λ s. refused (MoveTo to) 24 0 (λ z. omega arith) (λ x c g. (g.next i).unreal s))

    -- a description with a fault
    undescribed : (o : Order Row) (t : Row) → (Described (book_account b) t → ⊥) → ((x : Answer) (c : Book) → Booking b x c short o → DescribedFirst b x c t) → OneOnly o
    undescribed o t n so =
        let r = valued t 1 in
        let same = valued_equal t 1 in
        let w : Worth r = record { low = rw (value_of t 1) (omega arith); high = rw (value_of t 1) (omega arith) } in
        refused o (fault_of (book_account b) r) 0 (some-fault b t n r same) (λ x c g. so x c g n r same w)

    ordered : (o : Order Row) → OneOnly o
    ordered (Add t) = described-or-not (book_account b) t (adding t) (λ n. undescribed (Add t) t n (λ x c g. (g.next i).0))
    ordered (Take t) = described-or-not (book_account b) t (taking t) (λ n. undescribed (Take t) t n (λ x c g. (g.next i).0))
    ordered (MoveTo to) = moving to

  -- the lent book has a fault, or the order decides
  pub one_only : (o : Order Row) → OneOnly o
  one_only o =
      lent_cases short b
      (λ many. refused o 3 0 (λ z. omega arith) (λ x c g. g.at_first.too_many many))
      (λ few brief. refused o 2 0 (λ z. omega arith) (λ x c g. g.at_first.too_short few brief))
      (λ fits date. refused o 24 0 (λ z. omega arith) (λ x c g. g.at_first.undated fits date))
      (λ fits date letter. refused o 26 0 (λ z. omega arith) (λ x c g. g.at_first.unlettered fits date letter))
      (λ h k q before bad. refused o _ k (λ z. bad (fault-none _ _ z)) (λ x c g. g.at_first.bad_record h k q before bad))
      (λ h each off. refused o 27 0 (λ z. omega arith) (λ x c g. g.at_first.totals_off h each off))
      (λ i. ordered i o)
