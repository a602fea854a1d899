-- One record more: what was read before it, and the record that the code looked at, give its refusal, or what is read after it. Assumes nothing.
use mathlib.Core.Path.{◌≡◌, refl, sym, ◌∙◌}
use mathlib.Core.Bool.{true, false}
use mathlib.Core.List.{List}
use Prim.Native.Nat.{ℕ, ◌+◌, ◌-◌, ◌≤◌, ◌<◌}
use native.Mathlib.Omega.{arith}
use Rattle.std.specs.Prelude.{Option, Some, Ok, Err}
use lib.ListN.{length, take}
use Rattle.holding.specs.Holding.{head_by}
use Rattle.holding.specs.declared.Head.{Head}
use Rattle.article.specs.Answer.{make_answer}
use Rattle.refusals.specs.Refusals.{number_of}
use Rattle.refusals.specs.declared.Refusal.{Refusal}
use Rattle.rfc4180.specs.Reading.{field_count}
use Rattle.lei.specs.declared.Lei.{Lei}
use Rattle.columns.specs.Columns.{EntryRoom, EntryPut}
use Rattle.layout.specs.Layout.{may_follow, place_by, all_values, EntryAt}
use Rattle.layout.specs.declared.Record.{Record}
use lib.Seq.{take_all}
use Rattle.reader.proofs.Numbering.{fields-long, field-among, fields-first}
use Rattle.layout.specs.declared.Entry.{Entry}
use Rattle.layout.specs.declared.Letter.{Letter}
use Rattle.reader.specs.File.{parsed_in, file_limit, TableRoom, NumbersIssuer}
use Rattle.reader.proofs.Reading.{Reading, Refuses, values-few, count_by}
use Rattle.reader.proofs.Turns.{Turn, GoodTurn, turn-refused, turn_late, turn-ahead, turn-values, turn-passing, turn_full_holdings, turn_full_lines}
use Rattle.reader.proofs.Turns.{headed_first, headed_same, held_same, listed_same, listed-few, held_numbered, listed_more, numbered_values}
use Rattle.reader.proofs.Turns.{held_few, lined_same, lined_more, tabled_same, entry-room, tabled_more}

module _ {text : List ℕ} {rows : ℕ} {book₀ lines₀ : List ℕ} {known₀ : List Lei} {book lines : List ℕ} {known : List Lei} {before : Option ℕ} {head : Head}
    {holdings pairs corporations n i : ℕ} (r : Reading text rows book₀ lines₀ known₀ book lines known before head holdings pairs corporations n i)
    (short : length text ≤ file_limit) (more : i < length text) (v : Record) {e : Entry} (looked : EntryAt text i (all_values v) e) where
  abbrev vs : List ℕ
  vs = all_values v

  turn : Turn text before n i vs e
  turn = record { short = short; passing = r.passing; more = more; looked = looked }

  pub refused_here : {refusal : Refusal} → e.parsed ≡ Err refusal → Refuses text (make_answer (number_of refusal) n 0)
  refused_here s = turn-refused turn s

  module _ {letter : Letter} (is : e.parsed ≡ Ok letter) where
    good : GoodTurn text before n i vs e letter
    good = record { turn = turn; good = is }

    pub late : may_follow before (place_by letter) ≡ false → Refuses text (make_answer 22 n 0)
    late l = turn_late good l

    pub further : length text - e.next < length text - i
    further =
        let a = turn-ahead good in
        omega (arith, a.further, a.within)

    long : length v.fields ≡ field_count - 1
    long = fields-long v (turn-values good)

    module _ (follows : may_follow before (place_by letter) ≡ true) where
      -- the head
      pub kept-head : place_by letter ≡ 0 → Reading text rows book₀ lines₀ known₀ book lines known (Some (place_by letter)) (head_by v.fields) holdings pairs corporations (n + 1) e.next
      kept-head here = record {
        passing = turn-passing good (follows, λ z. absurd (omega (arith, here)), λ z. absurd (omega (arith, here)));
        headed = rw (← field-among v long 0 (omega arith), ← field-among v long 1 (omega arith)) (headed_first good here follows);
        each_holding = tabled_same r.each_holding (held_same good (λ z. omega (arith, here)));
        each_line = tabled_same r.each_line (lined_same good (λ z. omega (arith, here)));
        each_lei = listed_same good r.each_lei (λ z. omega (arith, here));
      }

      -- a holding
      module _ (here : place_by letter ≡ 1) where
        counted : holdings ≡ count_by text n 1
        counted = r.each_holding.counted ∙ held_few good

        pub full_holdings : holdings ≡ 256 → Refuses text (make_answer 3 0 0)
        full_holdings full = turn_full_holdings good follows here (sym counted ∙ full)

        module _ (less : holdings ≡ 256 → ⊥) (room : TableRoom rows text book₀ lines₀ known₀) where
          -- its issuer is numbered, as fewer are known than there may be holdings
          pub room_lei : corporations < length known
          room_lei =
              let few = listed-few good r.each_lei (omega (arith, counted, r.each_holding.few, less)) in
              omega (arith, few, r.each_lei.long, room.room)

          module _ (known' : List Lei) (corporations' : ℕ) (v' : Record) (done : NumbersIssuer (take corporations known) (take corporations' known') vs (all_values v')) where
            long' : length (all_values v') ≡ field_count + 1
            long' = numbered_values good r.each_lei done

            fields : take (field_count - 1) (all_values v') ≡ v'.fields
            fields =
                let n = fields-long v' long' in
                fields-first v' n (field_count - 1) (omega arith) ∙ take_all (field_count - 1) v'.fields (omega arith)

            wide : field_count - 1 ≤ length (all_values v')
            wide = omega (arith, long')

            pub room_holding : EntryRoom rows holdings v'.fields book
            room_holding =
                entry-room r.each_holding (all_values v') less fields wide text i (omega (arith, held_few good, values-few 1 n (parsed_in text), r.passing.few)) more
                room.whole_book room.enough (omega arith)

            pub kept-holding : corporations' ≤ length known' → length known' ≡ length known → {book' : List ℕ} → EntryPut (length v'.fields) rows holdings v'.fields book book'
                → Reading text rows book₀ lines₀ known₀ book' lines known' (Some (place_by letter)) head (holdings + 1) pairs corporations' (n + 1) e.next
            kept-holding inside same put = record {
              passing = turn-passing good (follows, λ z full. less (counted ∙ full), λ z. absurd (omega (arith, here)));
              headed = headed_same good (λ z. omega (arith, here)) r.headed;
              each_holding = tabled_more r.each_holding (all_values v') less fields wide (held_numbered good r.each_lei done here) room_holding put;
              each_line = tabled_same r.each_line (lined_same good (λ z. omega (arith, here)));
              each_lei = listed_more good r.each_lei done _ _ here refl inside same;
            }

      -- a line
      module _ (here : place_by letter ≡ 2) where
        pub full_lines : pairs ≡ 512 → Refuses text (make_answer 9 0 0)
        full_lines full = turn_full_lines good follows here (sym r.each_line.counted ∙ full)

        module _ (less : pairs ≡ 512 → ⊥) (room : TableRoom rows text book₀ lines₀ known₀) where
          three : take 3 vs ≡ take 3 v.fields
          three = fields-first v long 3 (omega arith)

          wide-line : 3 ≤ length vs
          wide-line = omega (arith, turn-values good)

          pub room_line : EntryRoom rows pairs (take 3 v.fields) lines
          room_line =
              entry-room r.each_line vs less three wide-line text i (omega (arith, values-few 2 n (parsed_in text), r.passing.few)) more room.whole_lines room.enough (omega arith)

          pub kept-line : {lines' : List ℕ} → EntryPut (length (take 3 v.fields)) rows pairs (take 3 v.fields) lines lines'
              → Reading text rows book₀ lines₀ known₀ book lines' known (Some (place_by letter)) head holdings (pairs + 1) corporations (n + 1) e.next
          kept-line put = record {
            passing = turn-passing good (follows, λ z. absurd (omega (arith, here)), λ z full. less (r.each_line.counted ∙ full));
            headed = headed_same good (λ z. omega (arith, here)) r.headed;
            each_holding = tabled_same r.each_holding (held_same good (λ z. omega (arith, here)));
            each_line = tabled_more r.each_line vs less three wide-line (lined_more good here) room_line put;
            each_lei = listed_same good r.each_lei (λ z. omega (arith, here));
          }
