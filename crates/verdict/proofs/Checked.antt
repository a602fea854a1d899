-- The check phase by phase: what each phase found decides, or hands on to the next. Assumes nothing.
use mathlib.Core.Path.{◌≡◌, refl, sym, ap, subst, ◌∙◌}
use mathlib.Core.Bool.{Bool, true}
use mathlib.Core.List.{List, [], ◌∷◌, ◌++◌, map}
use Prim.Native.Nat.{ℕ, ◌+◌, ◌*◌, ◌/◌, ◌≤◌, ◌<◌}
use native.Mathlib.Omega.{arith}
use lib.ListN.{length, get_or, length-map}
use Rattle.lists.specs.Choice.{first_of}
use Rattle.lists.specs.Tables.{Each, list_to, front, sum_to}
use Rattle.lists.proofs.Entries.{each_so, each-parts, each_back}
use Rattle.lists.proofs.Sums.{sum_to_eq}
use Rattle.lists.proofs.Tables.{length_to, get_or-to, to_eq, front_at, front_long, front-again}
use Rattle.article.specs.Answer.{Answer, make_answer}
use Rattle.article.specs.declared.pair.Leg.{Leg}
use Rattle.dates.specs.Calendar.{is_date}
use Rattle.holding.specs.Holding.{head_fault, account_of, headed_of}
use Rattle.holding.specs.declared.Row.{Row}
use Rattle.holding.specs.declared.Head.{Head}
use Rattle.holding.specs.declared.Account.{Account}
use Rattle.std.specs.Prelude.{Result, Ok, Err}
use Rattle.std.proofs.lemmas.Result.{IfOk-at_ok}
use Rattle.refusals.specs.Refusals.{number_of, refused_by, numbered}
use Rattle.refusals.specs.declared.Refusal.{Refusal, TheVariants.Totals as Seventeen}
use Rattle.refusals.proofs.Refusals.{refused, number-from_1}
use Rattle.holding.proofs.Heads.{head-valued, account-head}
use Rattle.pairing.specs.Pairing.{pair_units, saving, priced_total}
use Rattle.ranking.specs.Ranking.{ranking_of}
use Rattle.ranking.proofs.Ranking.{ranking-same}
use Rattle.words.specs.Words.{word_at, entries, decode}
use Rattle.columns.specs.Columns.{Columns, column_at, count_in, rows_in, lines_in, submission, holding_sizes, line_sizes}
use Rattle.columns.proofs.Submitted.{column-entries}
use Rattle.sizes.specs.Sizes.{Counted, differ, length_fault}
use Rattle.sizes.proofs.Sizes as sizes
use Rattle.packed.specs.Packed.{Legs, LegsOf, Same, entry}
use Rattle.proposal.specs.Submission.{Submission, account_in, PricedBook, book_of, terms_of, priced, remainder, margin, remainders_of, margins_of, units_of, ranked}
use Rattle.proposal.specs.Outcome.{make_fault, fault_answer, book_faults, lines_faults, uncovered_pairs, totals_faults, from_pairs, from_lines, from_book, from_head, first_fault, accepted}
use Rattle.proposal.specs.declared.Fault.{Fault}
use Rattle.proposal.proofs.PricedBooks.{value-at}
use Rattle.proposal.proofs.Clear.{book_numbered, lines_numbered, uncovered_numbered}
use Rattle.proposal.proofs.Stages.{refuses, passes, from-lengths, unvalued, valued, totals_differ_lem, totals-equal}
use Rattle.positions.specs.Opens.{Opened, Opens}
use Rattle.tally.specs.Lines.{LinesLent, taken_lines, Walks, Takes}
use Rattle.tally.specs.declared.Sums.{Sums}
use Rattle.cover.specs.Cover.{Priced, Finds, Valued, Totals}
use Rattle.figures.specs.Margins.{MarginsLent, left_margin, Margins}
use Rattle.verdict.specs.Judges.{outcome_in, Scratch, make_scratch, Found}

-- what is refused has a number
some_number : {A : Type 0} {r : Result A (Fault Refusal)} {f : Fault Refusal} → r ≡ Err f → number_of f.refusal ≡ 0 → ⊥
some_number {f = f} e z = omega (arith, number-from_1 f.refusal)

-- columns of as many bytes each have an entry for each number below n
long-enough : (n : ℕ) (columns : List (List ℕ)) → Each (λ c. length c ≡ 8 * n) columns → Each (λ c. 8 * n ≤ length c) columns
long-enough n columns h = each_so (λ c. length c ≡ 8 * n) (λ c. 8 * n ≤ length c) (λ c e. omega arith) columns h

module _ (two : Bool) (head : Head) (c : Columns) where
  abbrev s : Submission
  s = submission head c

  abbrev b : PricedBook
  b = priced s

  abbrev n : ℕ
  n = count_in c.holdings

  abbrev figures : Answer
  figures = accepted b s.lines

  rows_are : length s.rows ≡ n
  unfolding submission rows_in
  rows_are = length_to n _

  lines_are : length s.lines ≡ count_in c.lines
  unfolding submission lines_in
  lines_are = length_to (count_in c.lines) _

  count-is : b.count ≡ n
  unfolding priced book_of
  count-is = rows_are

  -- lengths that fit: the head decides
  pub record Sized : Type 0 where
    pub few : n ≤ 256
    pub few-lines : count_in c.lines ≤ 512
    pub each : Each (λ column. 8 * n ≤ length column) c.holdings
    pub prices : length c.price ≡ 8 * n
    pub each_line : Each (λ column. 8 * count_in c.lines ≤ length column) c.lines
    pub next : outcome_in two head c ≡ first_of (from_head s) figures

  module _ {r : Result (Unit {0}) Refusal} (counted : Counted c) (found : refused_by r ≡ length_fault (holding_sizes c) (line_sizes c) two) where
    pub lengths_refused : {x : Refusal} (before after : Scratch) {f : Fault Refusal} → r ≡ Err x → f ≡ make_fault x 0 0 → Found two head c before after (Err f)
    unfolding fault_answer outcome_in Found
    lengths_refused {x} before after e g =
        let number : number_of x ≡ length_fault (holding_sizes c) (line_sizes c) two = ap refused_by (sym e) ∙ found in
        rw g
        (sizes.refused (holding_sizes c) (line_sizes c) two s (number_of x) (rows_are ∙ sym counted.holdings) (lines_are ∙ sym counted.lines) number
        (λ z. omega (arith, number-from_1 x)))

    pub lengths_fit : {x : Unit {0}} → r ≡ Ok x → Sized
    unfolding outcome_in holding_sizes line_sizes
    lengths_fit e =
        let fit = sizes.fits {holdings = holding_sizes c} {lines = line_sizes c} {two = two} (sym found ∙ ap refused_by e) in
        let (columns, last) = each-parts (λ column. length column ≡ 8 * n) c.holdings (c.price ∷ [])
        (each_back (λ size. size ≡ 8 * n) length (c.holdings ++ (c.price ∷ [])) (rw counted.holdings at fit.equal_holdings)) in
        record {
          few = rw counted.holdings at fit.few-holdings;
          few-lines = rw counted.lines at fit.few-lines;
          each = long-enough n c.holdings columns;
          prices = last.0;
          each_line = long-enough (count_in c.lines) c.lines (each_back (λ size. size ≡ 8 * count_in c.lines) length c.lines (rw counted.lines at fit.equal_lines));
          next =
              from-lengths (differ (holding_sizes c) (line_sizes c)) two s fit.alike fit.room (omega (arith, rows_are, counted.holdings, fit.few-holdings))
              (omega (arith, lines_are, counted.lines, fit.few-lines));
        }

  -- the account of a head: the holdings decide
  pub record Dated (a : Account) : Type 0 where
    pub sized : Sized
    pub account : a ≡ account_in s
    pub valued : is_date a.date ≡ true
    pub next : outcome_in two head c ≡ first_of (from_book s) figures

  module _ (z : Sized) {headed : Result Account Refusal} (number : refused_by headed ≡ head_fault head) (found : numbered headed ≡ headed_of head) where
    pub head_refused : {x : Refusal} (before after : Scratch) {f : Fault Refusal} → headed ≡ Err x → f ≡ make_fault x 0 0 → Found two head c before after (Err f)
    unfolding fault_answer submission Found
    head_refused {x} before after e g =
        let fault : number_of x ≡ head_fault head = ap refused_by (sym e) ∙ number in
        rw g (unvalued s _ figures z.next (λ n. refused e (number ∙ n)) ∙ ap (λ (n : ℕ). make_answer n 0 0) (sym fault))

    pub head_dated : {a : Account} → headed ≡ Ok a → Dated a
    unfolding submission account_of
    head_dated {a} e =
        let (none, account) = account-head head found e in
        record { sized = z; account = account; valued = rw account (head-valued head none); next = valued s _ figures z.next none }

  -- a book without fault: the lines decide
  pub record Held (left₀ legs left : List ℕ) : Type 0 where
    pub sized : Sized
    pub room : n ≤ length left₀
    pub opened : Opened (account_in s) s.rows s.prices left₀ legs left
    pub next : outcome_in two head c ≡ first_of (from_lines s) figures

  module _ {a : Account} (z : Dated a) {left₀ legs left : List ℕ} (room : n ≤ length left₀) {r : Result (Unit {0}) (Fault Refusal)} (opens : Opens a c.holdings c.price left₀ legs left r) where
    -- the account that was opened is the submission's
    opens_it : Opens (account_in s) c.holdings c.price left₀ legs left r
    opens_it = subst (λ (x : Account). Opens x c.holdings c.price left₀ legs left r) z.account opens

    book_found : fault_answer r ≡ first_fault (book_faults (account_in s) s.rows s.prices)
    unfolding submission
    book_found = opens_it.fault

    pub book_refused : (before after : Scratch) {f : Fault Refusal} → r ≡ Err f → Found two head c before after (Err f)
    unfolding fault_answer Found
    book_refused before after e =
        let found = rw e at book_found in
        refuses _ (book_faults (account_in s) s.rows s.prices) (from_lines s) figures z.next _ found (some_number e)

    pub book_held : {x : Unit {0}} → r ≡ Ok x → Held left₀ legs left
    unfolding fault_answer submission
    book_held e =
        let found = rw e at book_found in
        record {
          sized = z.sized;
          room = room;
          opened = IfOk-at_ok _ e opens_it.opened;
          next = passes _ (book_faults (account_in s) s.rows s.prices) (from_lines s) figures z.next _ found (book_numbered two two s) refl;
        }

  -- what is lent of such a book
  module _ {left₀ legs left : List ℕ} (h : Held left₀ legs left) where
    bounded : Legs n legs
    bounded = subst (λ (m : ℕ). Legs m legs) rows_are h.opened.bounded

    legs_of : LegsOf b n legs
    unfolding priced
    legs_of = subst (λ (m : ℕ). LegsOf b m legs) rows_are h.opened.legs

    values : List ℕ
    values = map (λ (r : Row). r.value) s.rows

    values_length : length values ≡ n
    unfolding values
    values_length = length-map s.rows (λ (r : Row). r.value) ∙ rows_are

    values_are : left ≡ front values left₀
    unfolding values
    values_are = h.opened.values

    value_is : Same n (entry left) b.value
    unfolding priced book_of values
    value_is k q = ap (λ (xs : List ℕ). get_or xs k 0) values_are ∙ front_at values left₀ k (omega (arith, values_length))

    left_long : length left ≡ length left₀
    left_long = ap (λ (xs : List ℕ). length xs) values_are ∙ front_long values left₀ (omega (arith, values_length, h.room))

    price_is : Same n (word_at c.price) b.price
    unfolding priced book_of submission decode entries
    price_is k q = sym (get_or-to (length c.price / 8) (word_at c.price) k 0 (omega (arith, h.sized.prices)))

    pub lines_lent : LinesLent n legs left c.lines
    unfolding priced
    lines_lent = record {
      bounded = bounded;
      held = omega (arith, left_long, h.room);
      high = λ k q. rw (value_is k q) (h.opened.values_high k (omega (arith, rows_are)));
      few = h.sized.few-lines;
      each = h.sized.each_line;
    }

    pub prices_lent : Priced n legs c.price
    unfolding priced
    prices_lent = record {
      bounded = bounded;
      held = omega (arith, h.sized.prices);
      high = λ k q. rw (price_is k q) (h.opened.prices_high k (omega (arith, rows_are)));
    }

    -- a holding's value is in the fifth column
    abbrev fifth : List ℕ
    fifth = column_at c.holdings 4

    value_in : Same n (word_at fifth) b.value
    unfolding count_in entries
    value_in k q = sym (value-at s k ∙ ((column-entries head c).holding k q).value)

    entries_are : entries c.price ≡ n
    unfolding entries
    entries_are = omega (arith, h.sized.prices)

    pub values_lent : 8 * n ≤ length fifth → Valued c.price fifth
    unfolding priced
    values_lent long = record {
      count = omega (arith, entries_are, h.sized.few);
      held = omega (arith, entries_are);
      prices = rw entries_are prices_lent.high;
      values = rw entries_are (λ k q. rw (value_in k q) (h.opened.values_high k (omega (arith, rows_are))));
    }

    -- the lines, whose remainders go over the values
    module _ {left' : List ℕ} {w : Sums} {r : Result (Unit {0}) (Fault Refusal)} (takes : Takes n legs left (lines_in c.lines) left' w r) where
      walks : Walks b s.lines left left' w r
      unfolding submission
      walks = takes.walks b legs_of value_is

      pub line_refused : (before after : Scratch) {f : Fault Refusal} → r ≡ Err f → Found two head c before after (Err f)
      unfolding fault_answer Found
      line_refused before after e =
          let found = rw e at walks.fault in
          refuses _ (lines_faults b s.lines) (from_pairs s) figures h.next _ found (some_number e)

      module _ {x : Unit {0}} (e : r ≡ Ok x) where
        all_taken : taken_lines r s.lines ≡ s.lines
        unfolding taken_lines
        all_taken = rw e refl

        pub lines_next : outcome_in two head c ≡ first_of (from_pairs s) figures
        unfolding fault_answer
        lines_next =
            let found = rw e at walks.fault in
            passes _ (lines_faults b s.lines) (from_pairs s) figures h.next _ found (lines_numbered two two s) refl

        remainders-length : length (remainders_of b s.lines) ≡ n
        unfolding remainders_of
        remainders-length = length_to b.count _ ∙ count-is

        pub remainders_are : left' ≡ front (remainders_of b s.lines) left₀
        remainders_are =
            walks.left ∙ rw (all_taken, values_are) (front-again (remainders_of b s.lines) left₀ values (remainders-length ∙ sym values_length))

        pub margins_lent : {margins : List ℕ} → n ≤ length margins → MarginsLent n legs left' margins
        margins_lent m = record {
          bounded = bounded;
          left_held = omega (arith, ap (λ (xs : List ℕ). length xs) remainders_are, front_long (remainders_of b s.lines) left₀ (omega (arith, remainders-length, h.room)), h.room);
          left_high = takes.left_high;
          margins_held = m;
        }

        -- the pairs
        module _ {g : Result (Unit {0}) (Fault Refusal)} (finds : Finds n legs c.price g) where
          pair_found : fault_answer g ≡ first_fault (uncovered_pairs b)
          pair_found = finds.found b legs_of price_is

          pub pair_refused : (before after : Scratch) {f : Fault Refusal} → g ≡ Err f → Found two head c before after (Err f)
          unfolding fault_answer Found
          pair_refused before after q =
              let found = rw q at pair_found in
              refuses _ (uncovered_pairs b) (totals_faults b s.lines) figures lines_next _ found (some_number q)

          -- the totals
          module _ {y : Unit {0}} (none : g ≡ Ok y) {total : ℕ} (totals : Totals c.price fifth total) where
            next : outcome_in two head c ≡ first_of (totals_faults b s.lines) figures
            unfolding fault_answer
            next =
                let found = rw none at pair_found in
                passes _ (uncovered_pairs b) (totals_faults b s.lines) figures lines_next _ found (uncovered_numbered two two s) refl

            total_found : total ≡ priced_total (terms_of b) b.price
            total_found = totals.total b (count-is ∙ sym entries_are) (rw entries_are price_is) (rw entries_are value_in)

            saving_found : w.saving ≡ saving (terms_of b) s.lines
            saving_found = walks.saving ∙ rw all_taken

            pub totals_refused : (before after : Scratch) {f : Fault Refusal} → (total ≡ w.saving → ⊥) → f ≡ make_fault Seventeen 0 0 → Found two head c before after (Err f)
            unfolding fault_answer Found
            totals_refused before after q g = rw g (totals_differ_lem b s.lines _ figures next (λ z. q (total_found ∙ z ∙ sym saving_found)))

            -- the figures
            module _ {margins₀ margins : List ℕ} {sum : ℕ} (found : Margins n legs left' margins₀ margins sum) where
              margin_is : (k : ℕ) → k < n → left_margin legs left' k ≡ margin b s.lines k
              unfolding left_margin margin remainders_of
              margin_is k q =
                  let rate = ap (λ (l : Leg). l.rate) (legs_of.leg k q) in
                  let left_is : entry left' k ≡ remainder b s.lines k =
                  ap (λ (xs : List ℕ). get_or xs k 0) remainders_are
                  ∙ front_at (remainders_of b s.lines) left₀ k (omega (arith, remainders-length))
                  ∙ get_or-to b.count (remainder b s.lines) k 0 (omega (arith, count-is)) in
                  rw (rate, left_is)

              -- the list of margins is the book's
              listed : list_to n (left_margin legs left') ≡ margins_of b s.lines
              unfolding margins_of
              listed = to_eq n _ _ margin_is ∙ ap (λ (m : ℕ). list_to m (margin b s.lines)) (sym count-is)

              listed_is : (k : ℕ) → k < n → entry margins k ≡ margin b s.lines k
              listed_is k q =
                  ap (λ (xs : List ℕ). get_or xs k 0) found.each
                  ∙ front_at _ margins₀ k (omega (arith, length_to n (left_margin legs left')))
                  ∙ get_or-to n (left_margin legs left') k 0 q
                  ∙ margin_is k q

              units_are : w.units + sum ≡ units_of b s.lines
              unfolding units_of
              units_are =
                  let pairs : w.units ≡ pair_units (terms_of b) s.lines = walks.units ∙ rw all_taken in
                  let left_over : sum ≡ sum_to b.count (margin b s.lines) =
                  found.sum ∙ sum_to_eq n _ _ margin_is ∙ ap (λ (m : ℕ). sum_to m (margin b s.lines)) (sym count-is) in
                  rw (pairs, left_over)

              ranking_is : ranking_of (entry margins) n ≡ ranked b s.lines
              unfolding ranked
              ranking_is = ranking-same _ _ n listed_is ∙ ap (ranking_of (margin b s.lines)) (sym count-is)

              pub margins_held : n ≤ length margins₀ → n ≤ length margins
              margins_held q =
                  let long = length_to n (left_margin legs left') in
                  omega (arith, ap (λ (xs : List ℕ). length xs) found.each, front_long (list_to n (left_margin legs left')) margins₀ (omega (arith, long)), q)

              pub all_found : (ranks₀ : List ℕ) {ranks : List ℕ} {units : ℕ} → ranks ≡ front (ranking_of (entry margins) n) ranks₀ → total ≡ w.saving
                  → units ≡ w.units + sum → Found two head c (make_scratch left₀ margins₀ ranks₀) (make_scratch left' margins ranks) (Ok units)
              unfolding Found
              all_found ranks₀ p q u = (
                totals-equal b s.lines _ figures next (sym total_found ∙ q ∙ saving_found),
                u ∙ units_are,
                record {
                  remainders = remainders_are;
                  margins = found.each ∙ ap (λ (xs : List ℕ). front xs margins₀) listed;
                  ranking = p ∙ ap (λ (xs : List ℕ). front xs ranks₀) ranking_is;
                },
              )
