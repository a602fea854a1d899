-- Taking from a book in order: 27, or the first equal holding has the rest, or leaves. Assumes nothing.
use mathlib.Core.Path.{◌≡◌, sym, ◌∙◌}
use mathlib.Core.Bool.{Bool, true, ◌||◌, or-true}
use mathlib.Core.List.{List, ◌++◌}
use Prim.Native.Nat.{ℕ, suc, ◌+◌, ◌≤◌, ◌<◌}
use native.Mathlib.Omega.{arith}
use lib.Dec.{eqb, ltb}
use lib.ListN.{length, take, drop, set, length-set}
use borrow.Author.Tests.{eq-eqb, ne_eqb, lt-ltb, le-ltb}
use Rattle.lists.specs.Choice.{first_of}
use Rattle.lists.specs.Tables.{front}
use Rattle.lists.proofs.Tests.{same_or_not}
use Rattle.lists.proofs.Firsts.{None, none-append, skip_none}
use Rattle.holding.specs.Holding.{fault_of, Worth}
use Rattle.holding.specs.declared.Row.{Row}
use Rattle.article.specs.Answer.{make_answer}
use Rattle.proposal.specs.Submission.{no_row}
use Rattle.proposal.proofs.Places.{none-at, first-at}
use Rattle.daybook.specs.Book.{held_in, account_at, Book, holdings_in}
use Rattle.daybook.specs.Orders.{description_faults, taking_faults, order_faults, holdings_after, date_after, outcome, booked}
use Rattle.daybook.specs.Bookings.{Equal, Described, FirstEqual, NoneEqual, book_account, entry_at, InOrder, Without, Taking}
use Rattle.daybook.specs.declared.Order.{TheVariants.Take}
use Rattle.daybook.proofs.Trades.{taken_part, taken_whole}
use Rattle.daybook.proofs.Holdings.{length-holdings, value-at, first-holding, held_at, nothing_held}
use Rattle.daybook.proofs.Written.{front-set, length_fewer, fewer_long, fewer_before, fewer_moved, fewer_kept}
use Rattle.daybook.proofs.Checked.{from-order}
use Rattle.daybook.proofs.Described.{no_description, some-fault, fault-first}
use Rattle.daybook.proofs.Executed.{Executes, executed}

module _ (short : Bool) (b : Book) (i : InOrder short b) (t : Row) where
  abbrev fit : b.day.count ≤ length b.list
  fit = i.head.sizes.entries

  abbrev held : ℕ
  held = held_in (holdings_in b) t

  -- the refusals of the order, in turn
  abbrev description : List (Bool × ℕ)
  description = description_faults (account_at b.day) t

  abbrev amount : List (Bool × ℕ)
  amount = taking_faults held t.value

  refused : (n : ℕ) → n ≡ first_of (description ++ amount) 0 → (n ≡ 0 → ⊥) → outcome short b (Take t) ≡ make_answer n 0 0
  unfolding order_faults
  refused n e some = from-order short b (Take t) i ∙ first-at 0 (description ++ amount) n e some _

  pub take-described : (Described (book_account b) t → ⊥) → (r : Row) → Equal r t → Worth r → outcome short b (Take t) ≡ make_answer (fault_of (book_account b) r) 0 0
  take-described n r e w = refused _ (fault-first b t n r e w amount) (some-fault b t n r e)

  -- of a trade that is described
  module _ (d : Described (book_account b) t) where
    -- 27 nothing, or more than is held
    refused_27 : (eqb t.value 0 || ltb held t.value) ≡ true → outcome short b (Take t) ≡ make_answer 27 0 0
    unfolding taking_faults first_of
    refused_27 e = refused 27 (sym (skip_none description amount 0 (no_description b t d) ∙ rw e)) (λ z. omega arith)

    refused-more : held < t.value → outcome short b (Take t) ≡ make_answer 27 0 0
    refused-more h = refused_27 (rw (lt-ltb held t.value h) (or-true (eqb t.value 0)))

    unrefused : 1 ≤ t.value → t.value ≤ held → None (order_faults (length b.list) b.day (holdings_in b) (Take t))
    unfolding order_faults taking_faults
    unrefused v h = none-at 0 _ (none-append description amount (no_description b t d) (rw (ne_eqb t.value 0 (λ z. omega arith), le-ltb held t.value h), tt))

    -- none is equal, so that nothing is held
    from-none : NoneEqual b t → outcome short b (Take t) ≡ make_answer 27 0 0
    from-none n =
        let nothing = nothing_held b fit t n in
        same_or_not t.value 0
        (λ z. refused_27 (rw (eq-eqb t.value 0 z)))
        (λ s. refused-more (omega arith))

    -- the first that is equal
    module _ (k : ℕ) (f : FirstEqual b t k) where
      -- has the rest
      part : 1 ≤ t.value → (r : Row) → Equal r t → 1 ≤ r.value → r.value + t.value ≡ (entry_at b k).value
          → Executes short b (Take t) b.day.date b.day.count (◌≡ set b.list k r)
      unfolding date_after holdings_after
      part v r e some rest =
          executed short b (Take t) i (unrefused v (omega (arith, held_at b fit t k f)))
          (set (holdings_in b) k r) (taken_part t r e (holdings_in b) k (first-holding b fit t k f) some (omega (arith, value-at b fit k f.counted)))
          b.day.count (length-set (holdings_in b) k r ∙ length-holdings b fit)
          (◌≡ set b.list k r) (unfold holdings_in in front-set b.day.count b.list fit k f.counted r)

      -- leaves
      without : (rest : ℕ) → rest + 1 ≡ b.day.count → Without b k (front (take k (holdings_in b) ++ drop (suc k) (holdings_in b)) b.list)
      unfolding holdings_in
      without rest e = record {
        long = fewer_long b.day.count b.list fit rest e k f.counted;
        before = fewer_before b.day.count b.list fit rest e k f.counted no_row;
        moved_up_lem = fewer_moved b.day.count b.list fit rest e k f.counted no_row;
        kept = λ j h. fewer_kept b.day.count b.list fit rest e k f.counted no_row j (omega arith);
      }

      whole : t.value ≡ (entry_at b k).value → (rest : ℕ) → rest + 1 ≡ b.day.count → Executes short b (Take t) b.day.date rest (Without b k)
      unfolding date_after holdings_after
      whole e rest c =
          executed short b (Take t) i (unrefused (omega (arith, e, (i.each_holding k f.counted).value.low)) (omega (arith, held_at b fit t k f)))
          (take k (holdings_in b) ++ drop (suc k) (holdings_in b)) (taken_whole t (holdings_in b) k (first-holding b fit t k f) (e ∙ sym (value-at b fit k f.counted)))
          rest (unfold holdings_in in length_fewer b.day.count b.list fit rest c k f.counted)
          (Without b k) (without rest c)

    pub taking : Taking b (outcome short b (Take t)) (booked short b (Take t)) t
    taking = record {
      no_value = λ e. refused_27 (rw (eq-eqb t.value 0 e));
      none_held = from-none;
      more = λ k f h. refused-more (omega (arith, held_at b fit t k f));
      from_first = part;
      to_zero = whole;
    }
