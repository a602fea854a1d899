-- An order settled: refused with all as it was, or accepted. Assumes nothing.
use mathlib.Core.Path.{◌≡◌, refl, sym, ap, ◌∙◌}
use mathlib.Core.Bool.{Bool, true, false, ◌||◌, or-true}
use mathlib.Core.List.{List, [], ◌∷◌, ◌++◌, append_assoc}
use Prim.Native.Nat.{ℕ, suc, ◌+◌, ◌-◌, ◌*◌, ◌≤◌, ◌<◌}
use native.Mathlib.Omega.{arith}
use lib.Dec.{eqb, ltb}
use lib.ListN.{length, get_or, take, drop, set, length-set, length-append, length-drop}
use lib.Seq.{length-take-le}
use borrow.Author.Tests.{eq-eqb, ne_eqb, lt-ltb, le-ltb}
use Rattle.lists.specs.Choice.{first_of}
use Rattle.lists.specs.Tables.{front}
use Rattle.lists.proofs.Firsts.{None, first_of-none, first-passed, none_first, none-append, numbered-append}
use Rattle.lists.proofs.Tests.{same_or_not}
use Rattle.std.specs.Prelude.{Ok, Err}
use Rattle.refusals.specs.{Refusals.number_of, declared.Refusal.Refusal, declared.Refusal.TheVariants.Booking}
use Rattle.booking.proofs.Refusals.{has_number}
use Rattle.holding.specs.declared.{Account.Account, Row.Row}
use Rattle.article.specs.Answer.{Answer, make_answer}
use Rattle.proposal.specs.{Submission.no_row, Outcome.at_place}
use Rattle.proposal.proofs.Places.{none-at, first-at, zero_at}
use Rattle.daybook.specs.Book.{valued, place_in, held_in, added, taken, margin_of, totals_of, head_of, account_at}
use Rattle.daybook.specs.Orders.{whole, description_faults, sum_faults, joins, join_faults, taking_faults, order_faults, holdings_after, date_after, stored, day_after, accepted_answer}
use Rattle.daybook.specs.declared.{Day.Day}
use Rattle.daybook.specs.declared.Order.{Order, TheVariants.Add, TheVariants.Take}
use Rattle.daybook.proofs.Described.{description-listed}
use Rattle.daybook.proofs.Trades.{First, held_first, added_first, Nowhere, held_none, added_none, taken_part, taken_whole}
use Rattle.daybook.proofs.Written.{front-set, front-joined}
use Rattle.booking.specs.Seeing.{trade_of, changed}
use Rattle.booking.specs.Settling.{outcome_by, adding_faults, settlement, Settles, Traded, Rated}
use Rattle.booking.specs.declared.{Scan.Scan, Change.Change, Change.TheVariants.Put, Change.TheVariants.CloseUp}
use Rattle.booking.proofs.Changed.{closes_up}
use Rattle.booking.proofs.Found.{first-at as first-found-at, nowhere_at, valued_equal, totals-set, totals-without}
use Rattle.booking.proofs.Rows.{place-few, totals-more}
use Rattle.booking.proofs.Tested.{adds-listed, adds-room}

module _ {d : Day} {room : ℕ} {rows : List Row} {o : Order Row} where
  pub settles_refused : {x : Refusal} {k : ℕ} → settlement d room rows o ≡ make_answer (number_of x) k 0
      → Settles d room rows o (outcome_by d (Err (record { refusal = x; place = k })))
  unfolding changed
  settles_refused {x} e =
      let no : eqb (settlement d room rows o).number 0 ≡ false = ap (λ (a : Answer). eqb a.number 0) e ∙ ne_eqb (number_of x) 0 (has_number x) in
      record { answer = sym e; day = rw no; list = λ xs l _. rw no; stays = λ _. refl }

  pub settles_accepted : {d' : Day} {c : Change} → settlement d room rows o ≡ accepted_answer rows o → d' ≡ day_after d rows o
      → ((xs : List Row) → length xs ≡ room → take (length rows) xs ≡ rows → changed c (valued (trade_of o)) xs ≡ front (holdings_after o rows) xs)
      → Settles d room rows o (outcome_by d (Ok (record { day = d'; change = c })))
  unfolding accepted_answer day_after stored settlement
  settles_accepted {d'} found e h =
      let yes : eqb (settlement d room rows o).number 0 ≡ true = ap (λ (a : Answer). eqb a.number 0) found in
      record {
        answer = ap (λ (x : Day). make_answer 0 x.count 0) e ∙ sym found;
        day = rw yes e;
        list = λ xs l t. rw yes (h xs l t);
        stays = λ other. absurd (other (ap (λ (a : Answer). a.number) found));
      }

-- the place that was counted is one of the holdings', or past their end
pub place-there : {d : Day} {room : ℕ} {t : Row} {s : Scan} {rows : List Row} → Traded d room t s rows → (s.at ≡ d.count → ⊥) → s.at < d.count
place-there {d} {room} {t} {s} {rows} traded other =
    let few : s.at ≤ d.count = omega (arith, place-few t rows, traded.counted.at, traded.held.count) in
    same_or_not s.at d.count (λ e. absurd (other e)) (λ o. omega arith)

-- what refuses a taking
pub takes_zero : (held value : ℕ) → value ≡ 0 → 27 ≡ first_of (taking_faults held value) 0
unfolding taking_faults first_of
takes_zero held value e = rw (eq-eqb value 0 e)

pub takes-more : (held value : ℕ) → held < value → 27 ≡ first_of (taking_faults held value) 0
unfolding taking_faults first_of
takes-more held value h = rw (lt-ltb held value h, or-true (eqb value 0))

-- a trade on holdings without fault
module _ {d : Day} {room : ℕ} {t : Row} {s : Scan} {rows : List Row} {p rate : ℕ} (traded : Traded d room t s rows) (rated : Rated (account_at d) t p rate) where
  abbrev a : Account
  a = account_at d

  at_place_lem : s.at ≡ place_in rows t
  at_place_lem = traded.counted.at

  held-there : s.held ≡ held_in rows t
  held-there = traded.counted.held

  totals-there : d.totals ≡ totals_of a rows
  totals-there = traded.totals ∙ traded.counted.totals

  -- what refuses an adding, by the numbers that were counted
  adding_faults_lem : order_faults room d rows (Add t) ≡ at_place 0 (description_faults a t ++ adding_faults s.held t.value (eqb s.at d.count) d.count room)
  unfolding order_faults adding_faults join_faults joins
  adding_faults_lem =
      let description = description_faults a t in
      ap (at_place 0) (append_assoc description (sum_faults (held_in rows t) t.value) (join_faults room rows t))
      ∙ ap (λ (h : ℕ). at_place 0 (description ++ adding_faults h t.value (eqb (place_in rows t) (length rows)) (length rows) room)) (sym held-there)
      ∙ ap (λ (k : ℕ). at_place 0 (description ++ adding_faults s.held t.value (eqb k (length rows)) (length rows) room)) (sym at_place_lem)
      ∙ ap (λ (n : ℕ). at_place 0 (description ++ adding_faults s.held t.value (eqb s.at n) n room)) traded.held.count

  module _ {n : ℕ} (e : n ≡ first_of (adding_faults s.held t.value (eqb s.at d.count) d.count room) 0) where
    first-number : n ≡ first_of (description_faults a t ++ adding_faults s.held t.value (eqb s.at d.count) d.count room) 0
    first-number = e ∙ sym (first-passed (λ (m : ℕ). m) (description_faults a t) _ 0 0 (description-listed a t) rated.described)

    pub adding-refused : {x : Refusal} → number_of x ≡ n → Settles d room rows (Add t) (outcome_by d (Err (whole x)))
    unfolding settlement
    adding-refused {x} q =
        settles_refused (ap (λ (l : List (Bool × Answer)). first_of l (accepted_answer rows (Add t))) adding_faults_lem
        ∙ first-at 0 _ (number_of x) (q ∙ first-number) (has_number x) _)

    adding-none : n ≡ 0 → settlement d room rows (Add t) ≡ accepted_answer rows (Add t)
    unfolding settlement
    adding-none z =
        first_of-none (order_faults room d rows (Add t)) _ (rw adding_faults_lem (zero_at 0 (description_faults a t ++ adding_faults s.held t.value (eqb s.at d.count) d.count room)
        (numbered-append (λ (m : ℕ). m) (description_faults a t) _ (description-listed a t) (adds-listed s.held t.value (eqb s.at d.count) d.count room)) (sym first-number ∙ z)))

  -- where one is equal to the trade
  module _ (there : s.at < d.count) where
    pub found : First t rows s.at
    found = rw at_place_lem (first-found-at t rows (omega (arith, at_place_lem, traded.held.count)))

    held-is : (get_or rows s.at no_row).value ≡ s.held
    held-is = sym (held-there ∙ held_first t rows s.at found)

    -- it has another value
    module _ (v : ℕ) where
      put-there : (xs : List Row) → length xs ≡ room → take (length rows) xs ≡ rows
          → changed (Put s.at v) (valued t) xs ≡ front (set rows s.at (valued t v)) xs
      unfolding changed
      put-there xs l e =
          sym (ap (λ (ys : List Row). front (set ys s.at (valued t v)) xs) (sym e)
          ∙ front-set (length rows) xs (omega (arith, l, traded.held.within)) s.at (omega (arith, traded.held.count)) (valued t v))

      totals-put : (total : ℕ) → p < 5 → total + rate * s.held ≡ get_or d.totals p 0 + rate * v → set d.totals p total ≡ totals_of a (set rows s.at (valued t v))
      unfolding valued
      totals-put total q h =
          ap (λ (l : List ℕ). set l p total) totals-there
          ∙ (totals-set a t p rate rated.place rated.units rows s.at found (valued t v) (valued_equal t v) total q
          (ap (λ (x : ℕ). total + rate * x) held-is ∙ h ∙ ap (λ (l : List ℕ). get_or l p 0 + rate * v) totals-there))

      -- what is then stored
      put-day : (rows' : List Row) → rows' ≡ set rows s.at (valued t v) → (total : ℕ) → p < 5 → total + rate * s.held ≡ get_or d.totals p 0 + rate * v
          → record { date = d.date; letter = d.letter; count = d.count; totals = set d.totals p total } ≡ stored (head_of d) rows'
      unfolding stored account_at head_of
      put-day rows' e total q h =
          rw e (λ i. record {
            date = d.date;
            letter = d.letter;
            count = (sym traded.held.count ∙ sym (length-set rows s.at (valued t v))) i;
            totals = totals-put total q h i;
          })

    -- without it
    fewer : d.count - 1 ≡ length (take s.at rows ++ drop (suc s.at) rows)
    fewer =
        let before : length (take s.at rows) ≡ s.at = length-take-le s.at rows (omega (arith, traded.held.count)) in
        omega (arith, traded.held.count, length-append (take s.at rows) (drop (suc s.at) rows), length-drop (suc s.at) rows, before)

    moved_up_lem : (xs : List Row) → length xs ≡ room → take (length rows) xs ≡ rows
        → changed (CloseUp (s.at + 1) d.count) (valued t) xs ≡ front (take s.at rows ++ drop (suc s.at) rows) xs
    moved_up_lem xs l e =
        let rest = d.count - (s.at + 1) in
        let whole : s.at + 1 + rest ≡ d.count = omega arith in
        ap (λ (n : ℕ). changed (CloseUp (s.at + 1) n) (valued t) xs) (sym whole)
        ∙ closes_up xs rows s.at rest (omega (arith, l, whole, traded.held.count, traded.held.within))
        (sym e ∙ ap (λ (n : ℕ). take n xs) (traded.held.count ∙ sym whole)) (valued t)

    added-there : added rows t ≡ set rows s.at (valued t (s.held + t.value))
    unfolding valued
    added-there = added_first t (valued t (s.held + t.value)) (valued_equal t (s.held + t.value)) rows s.at found (omega (arith, held-is))

    -- an adding to it
    pub adding-there : {total : ℕ} → 0 ≡ first_of (adding_faults s.held t.value (eqb s.at d.count) d.count room) 0 → p < 5
        → total ≡ get_or d.totals p 0 + rate * t.value
        → Settles d room rows (Add t) (outcome_by d (Ok (record {
          day = record { date = d.date; letter = d.letter; count = d.count; totals = set d.totals p total };
          change = Put s.at (s.held + t.value);
        })))
    unfolding day_after date_after holdings_after head_of trade_of
    adding-there {total} e q h =
        settles_accepted (adding-none e refl) (put-day (s.held + t.value) (added rows t) added-there total q (omega (arith, h)))
        (λ xs l k. put-there (s.held + t.value) xs l k ∙ ap (λ (ys : List Row). front ys xs) (sym added-there))

    taken-there : t.value < s.held → taken rows t ≡ set rows s.at (valued t (s.held - t.value))
    unfolding valued
    taken-there low = taken_part t (valued t (s.held - t.value)) (valued_equal t (s.held - t.value)) rows s.at found (omega arith) (omega (arith, held-is))

  -- an adding that joins
  module _ (none : s.at ≡ d.count) where
    nowhere : Nowhere t rows
    nowhere = nowhere_at t rows (sym at_place_lem ∙ none ∙ sym traded.held.count)

    joined-row : valued t (s.held + t.value) ≡ t
    unfolding valued
    joined-row = ap (valued t) (ap (λ (h : ℕ). h + t.value) (held-there ∙ held_none t rows nowhere) ∙ omega arith)

    joined-totals : (total : ℕ) → p < 5 → total ≡ get_or d.totals p 0 + rate * t.value → set d.totals p total ≡ totals_of a (added rows t)
    unfolding margin_of
    joined-totals total q h =
        ap (λ (x : ℕ). set d.totals p x) h
        ∙ ap (λ (l : List ℕ). set l p (get_or l p 0 + rate * t.value)) totals-there
        ∙ ap (λ (u : ℕ). set (totals_of a rows) p (get_or (totals_of a rows) p 0 + u * t.value)) (sym rated.units)
        ∙ totals-more a rows t p q rated.place
        ∙ ap (totals_of a) (sym (added_none t rows nowhere))

    pub adding-joined : {total : ℕ} → 0 ≡ first_of (adding_faults s.held t.value (eqb s.at d.count) d.count room) 0 → p < 5
        → total ≡ get_or d.totals p 0 + rate * t.value
        → Settles d room rows (Add t) (outcome_by d (Ok (record {
          day = record { date = d.date; letter = d.letter; count = d.count + 1; totals = set d.totals p total };
          change = Put s.at (s.held + t.value);
        })))
    unfolding day_after date_after holdings_after head_of trade_of stored account_at changed
    adding-joined {total} e q h =
        let left : d.count < room = adds-room s.held t.value (eqb s.at d.count) d.count room (sym e) (eq-eqb s.at d.count none) in
        let longer : d.count + 1 ≡ length (rows ++ (t ∷ [])) = omega (arith, length-append rows (t ∷ []), traded.held.count) in
        settles_accepted (adding-none e refl)
        (λ i. record {
          date = d.date;
          letter = d.letter;
          count = (longer ∙ ap (λ (ys : List Row). length ys) (sym (added_none t rows nowhere))) i;
          totals = joined-totals total q h i;
        })
        (λ xs l k.
        ap (λ (x : Row). set xs s.at x) joined-row
        ∙ ap (λ (i : ℕ). set xs i t) (none ∙ sym traded.held.count)
        ∙ sym (ap (λ (ys : List Row). front ys xs) (added_none t rows nowhere ∙ ap (λ (ys : List Row). ys ++ (t ∷ [])) (sym k))
        ∙ front-joined (length rows) xs (omega (arith, l, traded.held.count)) t))

  -- what refuses a taking
  taking_faults_lem : order_faults room d rows (Take t) ≡ at_place 0 (description_faults a t ++ taking_faults s.held t.value)
  unfolding order_faults
  taking_faults_lem = ap (λ (h : ℕ). at_place 0 (description_faults a t ++ taking_faults h t.value)) (sym held-there)

  described-none : None (description_faults a t)
  described-none = (none_first (λ (m : ℕ). m) (description_faults a t) 0 (description-listed a t) rated.described).0

  pub taking-refused : 27 ≡ first_of (taking_faults s.held t.value) 0 → Settles d room rows (Take t) (outcome_by d (Err (whole Booking)))
  unfolding settlement
  taking-refused e =
      let other : ◌≡◌ {A = ℕ} 27 0 → ⊥ = λ z. omega arith in
      settles_refused
      (ap (λ (l : List (Bool × Answer)). first_of l (accepted_answer rows (Take t))) taking_faults_lem
      ∙ first-at 0 _ 27 (e ∙ sym (first-passed (λ (m : ℕ). m) (description_faults a t) _ 0 0 (description-listed a t) rated.described)) other _)

  -- where it is 1 cent or more, and no more than is held
  module _ (low : 1 ≤ t.value) (high : t.value ≤ s.held) where
    taking-none : settlement d room rows (Take t) ≡ accepted_answer rows (Take t)
    unfolding settlement taking_faults
    taking-none =
        first_of-none (order_faults room d rows (Take t)) _ (rw taking_faults_lem
        (none-at 0 (description_faults a t ++ taking_faults s.held t.value)
        (none-append (description_faults a t) _ described-none
        ((ap (λ (b : Bool). b || ltb s.held t.value) (ne_eqb t.value 0 (λ z. omega arith)) ∙ le-ltb s.held t.value high), tt))))

    pub taking-there : (total : ℕ) → s.at < d.count → t.value < s.held → p < 5 → total + rate * t.value ≡ get_or d.totals p 0
        → Settles d room rows (Take t) (outcome_by d (Ok (record {
          day = record { date = d.date; letter = d.letter; count = d.count; totals = set d.totals p total };
          change = Put s.at (s.held - t.value);
        })))
    unfolding day_after date_after holdings_after head_of trade_of
    taking-there total there less q h =
        let v = s.held - t.value in
        let split : s.held ≡ v + t.value = omega arith in
        let rest : rate * s.held ≡ rate * (v + t.value) = ap (λ (x : ℕ). rate * x) split in
        settles_accepted taking-none (put-day there v (taken rows t) (taken-there there less) total q (omega (arith, h, rest)))
        (λ xs l k. put-there there v xs l k ∙ ap (λ (ys : List Row). front ys xs) (sym (taken-there there less)))

    -- the holding leaves, and later ones move up
    pub taking-whole : (total : ℕ) → s.at < d.count → t.value ≡ s.held → p < 5 → total + rate * t.value ≡ get_or d.totals p 0
        → Settles d room rows (Take t) (outcome_by d (Ok (record {
          day = record { date = d.date; letter = d.letter; count = d.count - 1; totals = set d.totals p total };
          change = CloseUp (s.at + 1) d.count;
        })))
    unfolding day_after date_after holdings_after head_of trade_of stored account_at
    taking-whole total there whole q h =
        let f = found there in
        let is : taken rows t ≡ take s.at rows ++ drop (suc s.at) rows = taken_whole t rows s.at f (whole ∙ sym (held-is there)) in
        settles_accepted taking-none
        (λ i. record {
          date = d.date;
          letter = d.letter;
          count = (fewer there ∙ ap (λ (ys : List Row). length ys) (sym is)) i;
          totals =
              (ap (λ (l : List ℕ). set l p total) totals-there
              ∙ totals-without a t p rate rated.place rated.units rows s.at f total q
              (ap (λ (x : ℕ). total + rate * x) (held-is there ∙ sym whole) ∙ h ∙ ap (λ (l : List ℕ). get_or l p 0) totals-there)
              ∙ ap (totals_of a) (sym is)) i;
        })
        (λ xs l k. moved_up_lem there xs l k ∙ ap (λ (ys : List Row). front ys xs) (sym is))
