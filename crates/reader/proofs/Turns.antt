-- What each turn does with the record that it looked at: it refuses the file, or passes the record and keeps the head of a D, numbers
-- the issuer of an H, and puts an H or a P into its table. Assumes nothing.
use mathlib.Core.Path.{◌≡◌, refl, sym, ap, ◌∙◌}
use mathlib.Core.Bool.{true, false, false≢true}
use mathlib.Core.List.{List, [], ◌∷◌, ◌++◌, map, append-nil}
use Prim.Native.Nat.{ℕ, suc, ◌+◌, ◌*◌, ◌≤◌, ◌<◌}
use native.Mathlib.Numerals.{add-one}
use native.Mathlib.Omega.{arith}
use lib.Dec.{ltb}
use lib.ListN.{length, get_or, take, drop, length-append, length-drop, length-set}
use lib.Seq.{take-suc, drop-cons, length-take-le, get_or-take}
use borrow.Author.Tests.{eq-eqb, ne_eqb, le-ltb, ltb-true, ltb-false}
use Rattle.lists.specs.Choice.{first_of}
use Rattle.lists.proofs.Tests.{either_way}
use Rattle.lists.proofs.Passed.{passed-more, passed_first}
use Rattle.holding.specs.Holding.{head_by}
use Rattle.holding.specs.declared.Head.{Head}
use Rattle.article.specs.Answer.{Answer, make_answer}
use Rattle.std.specs.Prelude.{Option, Some, None, Ok, Err}
use Rattle.refusals.specs.Refusals.{number_of}
use Rattle.refusals.specs.declared.Refusal.{Refusal}
use Rattle.rfc4180.specs.Reading.{Split, fields, malformed, record_at, records_at, field_count}
use Rattle.rfc4180.proofs.Places.{progress, records_broken, records_next}
use Rattle.lei.specs.declared.Lei.{Lei}
use Rattle.columns.specs.Columns.{EntryRoom, EntryPut}
use Rattle.columns.proofs.Tables.{entered-more}
use Rattle.layout.specs.Layout.{Meaning, good, refused, may_follow, place_by, parse, read_of, meaning_of, EntryAt}
use Rattle.layout.specs.declared.Entry.{Entry}
use Rattle.layout.specs.declared.Letter.{Letter}
use Rattle.layout.proofs.Letters.{good_length}
use Rattle.reader.specs.File.{parsed_in, values_by, with_number, holdings_of, leis_of, faults_of, at_record, file_limit, file_faults, NumbersIssuer}
use Rattle.reader.proofs.Reading.{values-append, Passing, count_by, Tabled, held_in, lined_in, Listed, head_in, Refuses}
use Rattle.reader.proofs.Numbering.{numbered_more, leis-more, length-numbered, leis-few}
use Rattle.reader.proofs.Comes.{Comes, comes_exactly}

-- a list of which x and others are left
module _ {A : Type 0} (d x : A) (others : List A) where
  record Left (xs : List A) (n : ℕ) : Type 0 where
    within : n < length xs
    here : get_or xs n d ≡ x
    then : drop (suc n) xs ≡ others

  left : (xs : List A) (n : ℕ) → drop n xs ≡ x ∷ others → Left xs n
  left xs n e =
      let some : n < length xs = omega (arith, length-drop n xs, ap (λ (l : List A). length l) e) in
      let split = drop-cons xs n d some in
      record { within = some; here = cc; then = cc }

-- the records after one
abbrev after : List ℕ → Split → List Meaning
after text (fields ss next) = map parse (records_at text next)
after text malformed = []

from-here : (text : List ℕ) (i : ℕ) → i < length text → map parse (records_at text i) ≡ parse (read_of text (record_at text i)) ∷ after text (record_at text i)
from-here text i more = by (record_at text i) refl
  where
    by : (p : Split) → record_at text i ≡ p → map parse (records_at text i) ≡ parse (read_of text p) ∷ after text p
    by (fields ss next) q = rw (records_next text i more q)
    by malformed q = rw (records_broken text i more q)

-- n records of a text that is not too long are passed, and the code looked at the one at place i
pub record Turn (text : List ℕ) (before : Option ℕ) (n i : ℕ) (vs : List ℕ) (e : Entry) : Type 0 where
  pub short : length text ≤ file_limit
  pub passing : Passing text before n i
  pub more : i < length text
  pub looked : EntryAt text i vs e

-- and that one is good, of a letter
pub record GoodTurn (text : List ℕ) (before : Option ℕ) (n i : ℕ) (vs : List ℕ) (e : Entry) (letter : Letter) : Type 0 where
  pub turn : Turn text before n i vs e
  pub good : e.parsed ≡ Ok letter

-- the next record starts further on, and in the text
pub record Ahead (text : List ℕ) (i next : ℕ) : Type 0 where
  pub further : i < next
  pub within : next ≤ length text

module _ {text : List ℕ} {before : Option ℕ} {n i : ℕ} {vs : List ℕ} {e : Entry} (u : Turn text before n i vs e) where
  -- what it means is the next in the text
  module _ {m : Meaning} (means : meaning_of e.parsed vs ≡ m) where
    parsed_here : parse (read_of text (record_at text i)) ≡ m
    parsed_here = sym u.looked.means ∙ means

    nth : Left (refused 0) m (after text (record_at text i)) (parsed_in text) n
    nth = left (refused 0) m _ (parsed_in text) n (sym u.passing.rest ∙ from-here text i u.more ∙ rw parsed_here)

    faults-here : at_record (parsed_in text) n ≡ faults_of n before (count_by text n) m
    unfolding at_record
    faults-here = rw (u.passing.last, nth.here)

    -- a refusal of it is the file's
    refusal : {a : Answer} → ((w : Answer) → first_of (faults_of n before (count_by text n) m) w ≡ a) → Refuses text a
    unfolding file_faults first_of
    refusal f w =
        rw (le-ltb file_limit (length text) u.short, ne_eqb (length text) 0 (λ none. omega (arith, u.more)))
        (passed_first u.passing.passed w nth.within (λ w. rw faults-here (f w)))

    -- the values of a letter, with those of this record
    values-more : (k : ℕ) → values_by k (take (n + 1) (parsed_in text)) ≡ values_by k (take n (parsed_in text)) ++ values_by k (m ∷ [])
    values-more k = rw (add-one, take-suc (parsed_in text) n (refused 0) nth.within, nth.here) (values-append k (take n (parsed_in text)) (m ∷ []))

  pub turn-refused : {r : Refusal} → e.parsed ≡ Err r → Refuses text (make_answer (number_of r) n 0)
  unfolding first_of
  turn-refused {r} s = refusal {m = refused (number_of r)} (rw s) (λ w. refl)

-- a good record
module _ {text : List ℕ} {before : Option ℕ} {n i : ℕ} {vs : List ℕ} {e : Entry} {letter : Letter} (g : GoodTurn text before n i vs e letter) where
  abbrev k : ℕ
  k = place_by letter

  means : meaning_of e.parsed vs ≡ good k vs
  means = rw g.good

  -- it has a value for each field after its letter and two for an LEI
  pub turn-values : length vs ≡ field_count + 1
  turn-values = good_length (read_of text (record_at text i)) (parsed_here g.turn means)

  pub turn_late : may_follow before k ≡ false → Refuses text (make_answer 22 n 0)
  unfolding first_of
  turn_late late = refusal g.turn means (λ w. rw late)

  -- it is followed by the others
  followed : Ahead text i e.next × (map parse (records_at text e.next) ≡ after text (record_at text i))
  unfolding parse
  followed = by (record_at text i) refl
    where
      by : (p : Split) → record_at text i ≡ p → Ahead text i e.next × (map parse (records_at text e.next) ≡ after text (record_at text i))
      by (fields ss next) q =
          let same : e.next ≡ next = g.turn.looked.next ∙ rw q in
          let (a, w) = progress text i ss next g.turn.more q in
          (record { further = rw same a; within = rw same w }, rw (q, same))
      by malformed q =
          let out : refused 19 ≡ good k vs = rw q at (parsed_here g.turn means) in
          absurd cc

  pub turn-ahead : Ahead text i e.next
  turn-ahead = followed.0

  -- it is one too many
  module _ (follows : may_follow before k ≡ true) where
    pub turn_full_holdings : k ≡ 1 → count_by text n 1 ≡ 256 → Refuses text (make_answer 3 0 0)
    unfolding first_of
    turn_full_holdings here full = refusal g.turn means (λ w. rw (follows, here, full))

    pub turn_full_lines : k ≡ 2 → count_by text n 2 ≡ 512 → Refuses text (make_answer 9 0 0)
    unfolding first_of
    turn_full_lines here full = refusal g.turn means (λ w. rw (follows, here, full))

  -- it may come, and is passed
  pub turn-passing : Comes before (count_by text n) (good k vs) → Passing text (Some k) (n + 1) e.next
  turn-passing comes =
      let (ahead, rest) = followed in
      record {
        few = omega (arith, g.turn.passing.few, ahead.further);
        rest = rest ∙ rw add-one (sym (nth g.turn means).then);
        passed =
            passed-more g.turn.passing.passed (nth g.turn means).within
            (rw (faults-here g.turn means) ((comes_exactly n before (count_by text n) (good k vs)).1 comes));
        last = rw (add-one, (nth g.turn means).here);
        started = λ none. absurd cc;
      }

  -- the values of another letter are those of the records before
  values_same : (j : ℕ) → (k ≡ j → ⊥) → values_by j (take (n + 1) (parsed_in text)) ≡ values_by j (take n (parsed_in text))
  unfolding values_by
  values_same j other = values-more g.turn means j ∙ rw (ne_eqb k j other) (append-nil _)

  -- a D is the first record, and its head is kept
  pub headed_first : k ≡ 0 → may_follow before k ≡ true → head_by vs ≡ head_in text (n + 1)
  unfolding values_by
  headed_first here follows =
      let none : n ≡ 0 = g.turn.passing.started (first-only before (rw here at follows)) in
      let same : values_by 0 (take (n + 1) (parsed_in text)) ≡ vs ∷ [] = values-more g.turn means 0 ∙ rw (none, here) in
      rw same
    where
      first-only : (p : Option ℕ) → may_follow p 0 ≡ true → p ≡ None
      first-only None e = refl
      first-only (Some j) e = absurd (false≢true e)

  pub headed_same : {head : Head} → (k ≡ 0 → ⊥) → head ≡ head_in text n → head ≡ head_in text (n + 1)
  headed_same other same = rw (values_same 0 other) same

  -- the values of its own letter have its values behind them
  values_here : (j : ℕ) → k ≡ j → values_by j (take (n + 1) (parsed_in text)) ≡ values_by j (take n (parsed_in text)) ++ (vs ∷ [])
  unfolding values_by
  values_here j here = values-more g.turn means j ∙ rw (eq-eqb k j here)

  -- a record that is no H, and an H with the number of its issuer
  pub held_same : (k ≡ 1 → ⊥) → held_in text (n + 1) ≡ held_in text n
  unfolding holdings_of
  held_same other = rw (values_same 1 other)

  pub held_more : k ≡ 1 → held_in text (n + 1) ≡ held_in text n ++ (with_number (leis_of (take n (parsed_in text))) vs ∷ [])
  unfolding holdings_of leis_of
  held_more here = rw (values_here 1 here) (numbered_more [] (values_by 1 (take n (parsed_in text))) vs)

  module _ {count : ℕ} {known₀ known : List Lei} (m : Listed text n known₀ known count) where
    pub listed_same : (k ≡ 1 → ⊥) → Listed text (n + 1) known₀ known count
    unfolding leis_of
    listed_same other = record { listed = m.listed ∙ rw (values_same 1 other); inside = m.inside; long = m.long }

    -- fewer are known than there may be holdings
    pub listed-few : count_by text n 1 < 256 → count < 256
    unfolding leis_of
    listed-few l = omega (arith, length-take-le count known m.inside, ap (λ (ks : List Lei). length ks) m.listed, leis-few [] (values_by 1 (take n (parsed_in text))))

    -- an H with the number of its issuer, whose values are as many as before, and the LEIs that are known then
    module _ {after : List Lei} {vs' : List ℕ} (done : NumbersIssuer (take count known) after vs vs') where
      pub numbered_values : length vs' ≡ field_count + 1
      numbered_values = ap (length {A = ℕ}) done.number ∙ length-set vs 2 _ ∙ turn-values

      pub held_numbered : k ≡ 1 → held_in text (n + 1) ≡ held_in text n ++ (vs' ∷ [])
      held_numbered here = held_more here ∙ rw (done.number, m.listed)

      pub listed_more : (count' : ℕ) (known' : List Lei) → k ≡ 1 → after ≡ take count' known' → count' ≤ length known' → length known' ≡ length known → Listed text (n + 1) known₀ known' count'
      unfolding leis_of
      listed_more count' known' here is h l = record {
        listed = sym is ∙ done.entered ∙ rw (m.listed, values_here 1 here) (sym (leis-more [] (values_by 1 (take n (parsed_in text))) vs));
        inside = h;
        long = l ∙ m.long;
      }

  -- the values of a line
  pub lined_same : (k ≡ 2 → ⊥) → lined_in text (n + 1) ≡ lined_in text n
  lined_same other = values_same 2 other

  pub lined_more : k ≡ 2 → lined_in text (n + 1) ≡ lined_in text n ++ (vs ∷ [])
  lined_more here = values_here 2 here

  -- no more of either than records
  pub held_few : length (held_in text n) ≡ count_by text n 1
  unfolding holdings_of
  held_few = length-numbered [] (values_by 1 (take n (parsed_in text)))

-- a table that has room for one more
module _ {values : List (List ℕ)} {most columns rows put : ℕ} {old now : List ℕ} (t : Tabled values most columns rows old now put) where
  pub tabled_same : {values' : List (List ℕ)} → values' ≡ values → Tabled values' most columns rows old now put
  tabled_same e = rw e t

  module _ (vs : List ℕ) (less : put ≡ most → ⊥) where
    -- of values that are the first of the record's, as there are no more entries than bytes before the record
    module _ {firsts : List ℕ} (first : take columns vs ≡ firsts) (wide : columns ≤ length vs) where
      long-firsts : length firsts ≡ columns
      long-firsts = sym (ap (length {A = ℕ}) first) ∙ length-take-le columns vs wide

      pub entry-room : (text : List ℕ) (i : ℕ) → length values ≤ i → i < length text → length old ≡ 8 * (rows * columns) → (rows < 512 → length text ≤ rows)
          → most ≤ 512 → EntryRoom rows put firsts now
      entry-room text i before more whole enough low = record {
        whole = t.entered.long ∙ whole ∙ rw long-firsts;
        within = either_way (ltb rows 512) (λ l. omega (arith, enough (ltb-true rows 512 l), t.counted)) (λ l. omega (arith, ltb-false rows 512 l, t.few));
      }

      pub tabled_more : {values' : List (List ℕ)} {new : List ℕ} → values' ≡ values ++ (vs ∷ []) → EntryRoom rows put firsts now → EntryPut (length firsts) rows put firsts now new
          → Tabled values' most columns rows old new (put + 1)
      tabled_more {new = new} e room done = record {
        counted = rw (e, length-append, ← t.counted) refl;
        few = omega (arith, t.few);
        entered = rw e (entered-more t.entered (rw t.counted at all) (rw t.counted at room.within));
      }
        where
          all : EntryPut columns rows put vs now new
          all = record {
            long = done.long;
            each = λ j l. done.each j (rw long-firsts l) ∙ rw (← first, get_or-take columns vs j 0 l);
          }
