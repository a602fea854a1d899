-- Adding to a book in order: 8, 3 and 2 in turn, or the first equal holding has the sum, or the trade joins at the end. Assumes nothing.
use mathlib.Core.Path.{◌≡◌, sym, ◌∙◌}
use mathlib.Core.Bool.{Bool, true, false, not, ◌||◌, or-true}
use mathlib.Core.List.{List, [], ◌∷◌, ◌++◌}
use Prim.Native.Nat.{ℕ, ◌+◌, ◌≤◌, ◌<◌}
use native.Mathlib.Numerals.{add-one}
use native.Mathlib.Omega.{arith}
use lib.ListN.{length, set, length-set}
use borrow.Author.Tests.{eq-eqb, ne_eqb, le-leb, lt-leb}
use Rattle.lists.specs.Choice.{first_of, within}
use Rattle.lists.proofs.Tests.{zero_out, above-out, true_within}
use Rattle.lists.proofs.Firsts.{None, none-append, first-append, first_of-none, skip_none, found_first}
use Rattle.holding.specs.Holding.{value_limit, fault_of, Worth}
use Rattle.holding.specs.declared.{Row.Row}
use Rattle.article.specs.Answer.{make_answer}
use Rattle.proposal.proofs.Places.{none-at, first-at}
use Rattle.daybook.specs.Book.{place_in, held_in, account_at, Book, holdings_in}
use Rattle.daybook.specs.Orders.{description_faults, sum_faults, joins, join_faults, order_faults, holdings_after, date_after, outcome, booked}
use Rattle.daybook.specs.Bookings.{Equal, Described, FirstEqual, NoneEqual, book_account, entry_at, InOrder, Adding}
use Rattle.daybook.specs.declared.Order.{TheVariants.Add}
use Rattle.daybook.proofs.Trades.{added_first, added_none}
use Rattle.daybook.proofs.Holdings.{length-holdings, value-at, first-holding, place_at, held_at, no_holding, no_place, nothing_held}
use Rattle.daybook.proofs.Written.{front-set, front-joined, length_more}
use Rattle.daybook.proofs.Checked.{from-order}
use Rattle.daybook.proofs.Described.{no_description, some-fault, fault-first}
use Rattle.daybook.proofs.Executed.{Executes, executed}

module _ (short : Bool) (b : Book) (i : InOrder short b) (t : Row) where
  abbrev room : ℕ
  room = length b.list

  abbrev fit : b.day.count ≤ room
  fit = i.head.sizes.entries

  abbrev held : ℕ
  held = held_in (holdings_in b) t

  -- the refusals of the order, in turn
  abbrev description : List (Bool × ℕ)
  description = description_faults (account_at b.day) t

  abbrev sum : List (Bool × ℕ)
  sum = sum_faults held t.value

  abbrev join : List (Bool × ℕ)
  join = join_faults room (holdings_in b) t

  refused : (n : ℕ) → n ≡ first_of (description ++ sum ++ join) 0 → (n ≡ 0 → ⊥) → outcome short b (Add t) ≡ make_answer n 0 0
  unfolding order_faults
  refused n e some = from-order short b (Add t) i ∙ first-at 0 (description ++ sum ++ join) n e some _

  pub add-described : (Described (book_account b) t → ⊥) → (r : Row) → Equal r t → Worth r → outcome short b (Add t) ≡ make_answer (fault_of (book_account b) r) 0 0
  add-described n r e w =
      let some = some-fault b t n r e in
      refused _ (found_first _ (description ++ sum) join (fault-first b t n r e w sum) some) some

  -- of a trade that is described
  module _ (d : Described (book_account b) t) where
    refused-next : (n : ℕ) → first_of sum (first_of join 0) ≡ n → (n ≡ 0 → ⊥) → outcome short b (Add t) ≡ make_answer n 0 0
    refused-next n e some = refused n (sym (first-append (description ++ sum) join 0 ∙ skip_none description sum _ (no_description b t d) ∙ e)) some

    -- 8 a value or a sum outside the limits
    refused_8 : (not (within 1 value_limit t.value) || not (within 1 value_limit (held + t.value))) ≡ true → outcome short b (Add t) ≡ make_answer 8 0 0
    unfolding sum_faults first_of
    refused_8 e = refused-next 8 (rw e) (λ z. omega arith)

    -- both within
    no_sum : 1 ≤ t.value → held + t.value ≤ value_limit → None sum
    unfolding sum_faults
    no_sum v s = (rw (true_within 1 value_limit t.value v (omega arith), true_within 1 value_limit (held + t.value) (omega arith) s), tt)

    unrefused : None sum → None join → None (order_faults room b.day (holdings_in b) (Add t))
    unfolding order_faults
    unrefused s j = none-at 0 _ (none-append (description ++ sum) join (none-append description sum (no_description b t d) s) j)

    -- none is equal
    module _ (n : NoneEqual b t) (w : Worth t) where
      it-joins : joins (holdings_in b) t ≡ true
      unfolding joins
      it-joins = eq-eqb (place_in (holdings_in b) t) (length (holdings_in b)) (no_place b fit t n ∙ sym (length-holdings b fit))

      worth : None sum
      worth = no_sum w.low (omega (arith, nothing_held b fit t n, w.high))

      refused-last : (m : ℕ) → first_of join 0 ≡ m → (m ≡ 0 → ⊥) → outcome short b (Add t) ≡ make_answer m 0 0
      refused-last m e some = refused-next m (first_of-none sum (first_of join 0) worth ∙ e) some

      joined : b.day.count < 256 → b.day.count < room → Executes short b (Add t) b.day.date (b.day.count + 1) (◌≡ set b.list b.day.count t)
      unfolding join_faults date_after holdings_after holdings_in
      joined few place =
          let long = length-holdings b fit in
          executed short b (Add t) i
          (unrefused worth (rw (it-joins, lt-leb 256 (length (holdings_in b)) (omega arith)), (rw (it-joins, lt-leb room (length (holdings_in b)) (omega arith)), tt)))
          (holdings_in b ++ (t ∷ [])) (added_none t (holdings_in b) (no_holding b fit t n))
          (b.day.count + 1) (length_more b.day.count b.list fit t ∙ sym (add-one b.day.count))
          (◌≡ set b.list b.day.count t) (front-joined b.day.count b.list place t)

    -- the first that is equal has the sum
    module _ (k : ℕ) (f : FirstEqual b t k) where
      no_join : joins (holdings_in b) t ≡ false
      unfolding joins
      no_join = ne_eqb (place_in (holdings_in b) t) (length (holdings_in b)) (λ e. omega (arith, f.counted, place_at b fit t k f, length-holdings b fit))

      summed : 1 ≤ t.value → (entry_at b k).value + t.value ≤ value_limit → (r : Row) → Equal r t → r.value ≡ (entry_at b k).value + t.value
          → Executes short b (Add t) b.day.date b.day.count (◌≡ set b.list k r)
      unfolding join_faults date_after holdings_after
      summed v s r e sum_of =
          executed short b (Add t) i
          (unrefused (no_sum v (omega (arith, held_at b fit t k f))) (rw no_join, (rw no_join, tt)))
          (set (holdings_in b) k r) (added_first t r e (holdings_in b) k (first-holding b fit t k f) (omega (arith, value-at b fit k f.counted)))
          b.day.count (length-set (holdings_in b) k r ∙ length-holdings b fit)
          (◌≡ set b.list k r) (unfold holdings_in in front-set b.day.count b.list fit k f.counted r)

    pub adding : Adding b (outcome short b (Add t)) (booked short b (Add t)) t
    unfolding join_faults first_of
    adding = record {
      no_value = λ e. refused_8 (rw (zero_out value_limit t.value e));
      great_value = λ h. refused_8 (rw (above-out value_limit t.value h));
      great_sum = λ k f h. refused_8 (rw (above-out value_limit (held + t.value) (omega (arith, held_at b fit t k f))) (or-true (not (within 1 value_limit t.value))));
      to_first = summed;
      a_257th = λ n w e. refused-last n w 3 (rw (it-joins n w, le-leb 256 (length (holdings_in b)) (omega (arith, length-holdings b fit)))) (λ z. omega arith);
      no_place = λ n w few e.
          let long = length-holdings b fit in
          refused-last n w 2 (rw (it-joins n w, lt-leb 256 (length (holdings_in b)) (omega arith), le-leb room (length (holdings_in b)) (omega arith))) (λ z. omega arith);
      at_end = joined;
    }
