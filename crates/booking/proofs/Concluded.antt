-- The outcome of an order, stage by stage: before the holdings, of them, of the totals, of the order. Assumes nothing.
use mathlib.Core.Path.{◌≡◌, refl, sym, ap, subst, ◌∙◌}
use mathlib.Core.Bool.{Bool, true, false, cond}
use mathlib.Core.List.{List}
use Prim.Native.Nat.{ℕ}
use native.Mathlib.Omega.{arith}
use lib.Dec.{eqb}
use lib.ListN.{length, take}
use lib.Seq.{length-take-le}
use borrow.Author.Tests.{ne_eqb}
use Rattle.lists.specs.Choice.{same, first_of}
use Rattle.lists.specs.Tables.{front}
use Rattle.lists.proofs.Firsts.{Listed, first-append, first_of-none}
use Rattle.lists.proofs.Entries.{eq_same, ne_same}
use Rattle.lists.proofs.Tests.{either_way}
use Rattle.std.specs.Prelude.{Result, Ok, Err}
use Rattle.refusals.specs.{Refusals.number_of, declared.Refusal.Refusal, declared.Refusal.TheVariants.Booking}
use Rattle.booking.proofs.Refusals.{has_number}
use Rattle.holding.specs.Holding.{head_faults}
use Rattle.holding.specs.declared.{Account.Account, Row.Row}
use Rattle.holding.proofs.Heads.{head-listed}
use Rattle.article.specs.Answer.{Answer, make_answer}
use Rattle.proposal.specs.Outcome.{at_place}
use Rattle.proposal.proofs.{Places.first-at, Places.zero_at, Stages.refuses, Stages.passes, Clear.number}
use Rattle.daybook.specs.Book.{totals_of, head_of, account_at, Book, make_book, holdings_in}
use Rattle.daybook.specs.Orders.{whole, lent_faults, rows_faults, totals_faults, from_totals, from_rows, faults}
use Rattle.daybook.specs.Orders.{holdings_after, day_after, book_after, accepted_answer, outcome, accepted, booked}
use Rattle.daybook.specs.declared.{Day.Day, Refused.Refused}
use Rattle.daybook.specs.declared.Order.{Order, TheVariants.Add, TheVariants.Take, TheVariants.MoveTo}
use Rattle.booking.specs.Seeing.{trade_of, on_date, Opened, Opens, OpensLater, Counted, Seen, KnownIn, changed, Concluded}
use Rattle.booking.specs.Settling.{outcome_by, settlement, Settles, Held, Traded, Tradable, Adds, Takes}
use Rattle.booking.specs.declared.{Scan.Scan, Settled.Settled, Outcome.Outcome, Change.TheVariants.Stay}
use Rattle.booking.proofs.Seen.{rows-numbered, counted}
use Rattle.booking.proofs.Moved.{moving_refused, moving_matured, moving_on}

-- what is known without fault serves a trade
module _ {d : Day} {room : ℕ} {o : Order Row} {scan : Scan} {a : Account} (known : KnownIn d room o (Ok scan) a) where
  pub known_in-trade : {t : Row} → trade_of o ≡ t → d.totals ≡ scan.totals → Tradable d scan a t
  known_in-trade {t} p right = record {
    rows = known.rows;
    few = known.few;
    count = known.count;
    valued = known.valued;
    clear = sym (ap number known.seen.fault);
    counted = subst (λ (x : Row). Counted a x known.rows scan) p (counted known.seen);
    totals = right;
  }

module _ (short : Bool) (d : Day) (list : List Row) (o : Order Row) where
  abbrev b : Book
  b = make_book d list

  abbrev room : ℕ
  room = length list

  abbrev rows : List Row
  rows = holdings_in b

  -- an answer that refuses
  refused_so : {x : Refusal} {k : ℕ} → outcome short b o ≡ make_answer (number_of x) k 0 → Concluded short b o (outcome_by d (Err (record { refusal = x; place = k })))
  unfolding booked accepted changed
  refused_so {x} s =
      let no : eqb (outcome short b o).number 0 ≡ false = ap (λ (a : Answer). eqb a.number 0) s ∙ ne_eqb (number_of x) 0 (has_number x) in
      record { answer = sym s; day = rw no; list = rw no; stays = λ _. refl }

  lent-listed : Listed (lent_faults short room d)
  unfolding lent_faults head_faults
  lent-listed = (omega arith, (omega arith, head-listed (head_of d)))

  -- before the holdings
  pub concluded-before : {x : Refusal} → Opens short room d (Err x) → Concluded short b o (outcome_by d (Err (whole x)))
  unfolding outcome faults
  concluded-before {x} opens =
      refused_so
      (first-append (at_place 0 (lent_faults short room d)) (from_rows room d rows o) _
      ∙ first-at 0 (lent_faults short room d) _ opens.number (has_number x) _)

  module _ {a : Account} (opens : Opens short room d (Ok a)) where
    opened : Opened room d a
    opened = opens.opened a refl

    from_rows_lem : outcome short b o ≡ first_of (from_rows room d rows o) (accepted_answer rows o)
    unfolding outcome faults
    from_rows_lem =
        first-append (at_place 0 (lent_faults short room d)) (from_rows room d rows o) _
        ∙ first_of-none (at_place 0 (lent_faults short room d)) _ (zero_at 0 (lent_faults short room d) lent-listed (sym opens.number))

    -- what is seen of its holdings is known
    pub known-rows : {r : Result Scan Refused} → Seen a (trade_of o) (take d.count list) r → KnownIn d room o r a
    known-rows seen =
        let long : length (take d.count list) ≡ d.count = length-take-le d.count list opened.within in
        record { rows = take d.count list; few = omega (arith, long, opened.few); valued = opened.valued; seen = seen; count = long; within = opened.within }

    seen-rows : {r : Result Scan Refused} → Seen a (trade_of o) (take d.count list) r → Seen (account_at d) (trade_of o) rows r
    unfolding holdings_in
    seen-rows {r} seen = subst (λ (x : Account). Seen x (trade_of o) rows r) opened.account seen

    -- the first fault of a holding
    pub concluded-row : {x : Refused} → Seen a (trade_of o) (take d.count list) (Err x) → Concluded short b o (outcome_by d (Err x))
    concluded-row {x} seen =
        refused_so (refuses (outcome short b o) (rows_faults (account_at d) rows) (from_totals room d rows o) (accepted_answer rows o) from_rows_lem _ (seen-rows seen).fault
        (has_number x.refusal))

    module _ {scan : Scan} (seen : Seen a (trade_of o) (take d.count list) (Ok scan)) where
      counted-rows : Counted (account_at d) (trade_of o) rows scan
      counted-rows = counted (seen-rows seen)

      from-totals : outcome short b o ≡ first_of (from_totals room d rows o) (accepted_answer rows o)
      from-totals =
          passes (outcome short b o) (rows_faults (account_at d) rows) (from_totals room d rows o) (accepted_answer rows o) from_rows_lem _ (seen-rows seen).fault
          (rows-numbered (account_at d) rows) refl

      -- stored totals that are off
      pub concluded-totals : (d.totals ≡ scan.totals → ⊥) → Concluded short b o (outcome_by d (Err (whole Booking)))
      unfolding totals_faults at_place first_of
      concluded-totals off =
          let differ : same d.totals (totals_of (account_at d) rows) ≡ false = ap (same d.totals) (sym counted-rows.totals) ∙ ne_same d.totals scan.totals off in
          refused_so (from-totals ∙ rw differ)

      module _ (right : d.totals ≡ scan.totals) where
        settled-answer : outcome short b o ≡ settlement d room rows o
        unfolding totals_faults at_place first_of settlement
        settled-answer =
            let equal : same d.totals (totals_of (account_at d) rows) ≡ true = eq_same d.totals (totals_of (account_at d) rows) (right ∙ counted-rows.totals) in
            from-totals ∙ rw equal

        rows_long : length rows ≡ d.count
        unfolding holdings_in
        rows_long = length-take-le d.count list opened.within

        held : Held d room rows
        held = record {
          count = rows_long;
          within = omega (arith, rows_long, opened.within);
          clear = sym (ap number (seen-rows seen).fault);
        }

        -- the order decides
        concluded-so : {r : Outcome} → Settles d room rows o r → Concluded short b o r
        unfolding booked accepted book_after holdings_in
        concluded-so s = record {
          answer = s.answer ∙ sym settled-answer;
          day = s.day ∙ by-day;
          list = s.list list refl (ap (λ (n : ℕ). take n list) rows_long) ∙ by-list;
          stays = λ other. s.stays (λ z. other (ap number settled-answer ∙ z));
        }
          where
            test : eqb (settlement d room rows o).number 0 ≡ eqb (outcome short b o).number 0
            test = ap (λ (a : Answer). eqb a.number 0) (sym settled-answer)

            by-day : cond (eqb (settlement d room rows o).number 0) (day_after d rows o) d ≡ (booked short b o).day
            by-day = either_way (eqb (outcome short b o).number 0) (λ t. rw (test, t)) (λ f. rw (test, f))

            by-list : cond (eqb (settlement d room rows o).number 0) (front (holdings_after o rows) list) list ≡ (booked short b o).list
            by-list = either_way (eqb (outcome short b o).number 0) (λ t. rw (test, t)) (λ f. rw (test, f))

        module _ {t : Row} where
          traded : trade_of o ≡ t → Traded d room t scan rows
          traded p = record { held = held; counted = subst (λ (x : Row). Counted (account_at d) x rows scan) p counted-rows; totals = right }

          pub concluded-adding : {r : Result Settled Refused} → o ≡ Add t → Adds d room scan a t r → Concluded short b o (outcome_by d r)
          unfolding trade_of
          concluded-adding {r} p adds =
              concluded-so (subst (λ (x : Order Row). Settles d room rows x (outcome_by d r)) (sym p) (adds.settled opened.account rows (traded (ap trade_of p))))

          pub concluded-taking : {r : Result Settled Refused} → o ≡ Take t → Takes d scan a t r → Concluded short b o (outcome_by d r)
          unfolding trade_of
          concluded-taking {r} p takes =
              concluded-so (subst (λ (x : Order Row). Settles d room rows x (outcome_by d r)) (sym p) (takes.settled opened.account room rows (traded (ap trade_of p))))

        module _ {to : ℕ} (p : o ≡ MoveTo to) where
          moves : {r : Outcome} → Settles d room rows (MoveTo to) r → Concluded short b o r
          moves {r} s = concluded-so (subst (λ (x : Order Row). Settles d room rows x r) (sym p) s)

          pub concluded-undated : {x : Refusal} → OpensLater d a to (Err x) → Concluded short b o (outcome_by d (Err (whole x)))
          concluded-undated later = moves (moving_refused held to later.number)

          module _ {then : Account} (later : OpensLater d a to (Ok then)) where
            seen-again : {t : Row} {r : Result Scan Refused} → Seen then t (take d.count list) r → Seen (on_date to (account_at d)) t rows r
            unfolding holdings_in
            seen-again {t} {r} again = subst (λ (x : Account). Seen x t rows r) (later.account then refl ∙ ap (on_date to) opened.account) again

            pub concluded-matured : {t : Row} {x : Refused} → Seen then t (take d.count list) (Err x) → Concluded short b o (outcome_by d (Err x))
            concluded-matured again = moves (moving_matured held to later.number (seen-again again))

            pub concluded_moving : {t : Row} {moved : Scan} → Seen then t (take d.count list) (Ok moved)
                → Concluded short b o (outcome_by d (Ok (record {
                  day = record { date = to; letter = d.letter; count = d.count; totals = moved.totals };
                  change = Stay;
                })))
            concluded_moving again = moves (moving_on held to later.number (seen-again again))

      -- what was seen without fault serves a trade
      pub known-trade : {t : Row} → trade_of o ≡ t → d.totals ≡ scan.totals → Tradable d scan a t
      known-trade p right = known_in-trade (known-rows seen) p right
