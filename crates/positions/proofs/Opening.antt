-- A book that is opened holding by holding: what is known before each, and what it comes to. Assumes nothing.
use mathlib.Core.Path.{◌≡◌, refl, sym, ap, subst, ◌∙◌}
use mathlib.Core.Bool.{true}
use mathlib.Core.List.{List, [], map}
use Prim.Native.Nat.{ℕ, ◌+◌, ◌≤◌, ◌<◌}
use native.Mathlib.Omega.{arith}
use lib.ListN.{length, get_or, set, length-set}
use lib.Seq.{get_or-set_same, get_or-set_other}
use borrow.Author.Count.{below_none, below_more}
use Rattle.lists.specs.Choice.{first_of}
use Rattle.lists.specs.Tables.{list_to, front}
use Rattle.lists.proofs.Firsts.{first_of-none}
use Rattle.lists.proofs.Overwrite.{front-more}
use Rattle.lists.proofs.Passed.{Passed, passed_none, passed-more, passed_first, passed-all}
use Rattle.lists.proofs.Tables.{length_to, get_or-to, map-to, to_back}
use Rattle.holding.specs.Holding.{letter_number, account_of, holding_of, row_by, Builds}
use Rattle.dates.specs.Calendar.{is_date}
use Rattle.holding.specs.declared.Row.{Row}
use Rattle.holding.specs.declared.{Head.Head, Account.Account}
use Rattle.holding.specs.declared.Holding.{Holding}
use Rattle.std.specs.Prelude.{Result, Ok, Err}
use Rattle.refusals.specs.Refusals.{number_of}
use Rattle.refusals.specs.declared.Refusal.{Refusal, TheVariants.Price}
use Rattle.refusals.proofs.Refusals.{number-from_1}
use Rattle.holding.proofs.Heads.{letter-back}
use Rattle.holding.proofs.Ranges.{fault-none}
use Rattle.holding.proofs.Rows.{made_row, refused-row}
use Rattle.article.specs.Answer.{make_answer}
use Rattle.article.specs.Pair.{leg_of}
use Rattle.article.specs.declared.pair.Leg.{Leg}
use Rattle.words.specs.Words.{word_at, entries, decode}
use Rattle.columns.specs.Columns.{count_in, numbers_at, rows_in}
use Rattle.proposal.specs.Submission.{Submission, book_of, priced, holding_at, no_row, price_limit}
use Rattle.proposal.specs.Outcome.{make_fault, fault_answer, holding_faults, at_holding, book_faults}
use Rattle.proposal.specs.Demands.{Limits}
use Rattle.proposal.specs.declared.Fault.{Fault}
use Rattle.proposal.proofs.Limits.{row_first, price-first, none-ranges, ranges-none}
use Rattle.proposal.proofs.Places.{none-at, at_none, first-at}
use Rattle.proposal.proofs.PricedBooks.{leg_at_lem, value-at, rate_at_lem}
use Rattle.packed.specs.Packed.{leg_in, Small, leg_at}
use Rattle.packed.proofs.Holdings.{letter-few, small}
use Rattle.positions.specs.Opens.{OpenRoom, Opens}

-- the leg of a record that was made has a code
pub small-leg : {a : Account} {row : Row} {b : Result Holding Refusal} {h : Holding} {leg : Leg} → is_date a.date ≡ true → Builds a row b → b ≡ Ok h → leg ≡ leg_of a h → Small leg
small-leg v g s e = rw e (small _ _ (record { valued = v; ranges = (made_row g s).0 }))

-- the row of a holding, and how many there are
abbrev row : List (List ℕ) → ℕ → Row
row columns k = get_or (rows_in columns) k no_row

count : (columns : List (List ℕ)) → length (rows_in columns) ≡ count_in columns
unfolding rows_in
count columns = length_to (count_in columns) _

module _ (a : Account) (columns : List (List ℕ)) (price legs₀ left₀ : List ℕ) where
  -- before holding i, the lists as they then stand: no holding before it has a fault, and of each the leg and the value are written
  pub record Opening (legs left : List ℕ) (i : ℕ) : Type 0 where
    pub room : OpenRoom a columns price legs₀ left₀
    pub legs_long : length legs ≡ length legs₀
    pub left_long : length left ≡ length left₀
    pub passed : Passed (length (rows_in columns)) (at_holding a (rows_in columns) (decode price)) i
    pub coded : (k : ℕ) → k < i → leg_at legs k ≡ leg_of a (holding_of (row columns k))
    pub values : left ≡ front (list_to i (λ k. (row columns k).value)) left₀

module _ {a : Account} {columns : List (List ℕ)} {price legs₀ left₀ : List ℕ} where
  -- before holding 0
  pub opening-none : OpenRoom a columns price legs₀ left₀ → Opening a columns price legs₀ left₀ legs₀ left₀ 0
  unfolding list_to front
  opening-none room = record { room = room; legs_long = refl; left_long = refl; passed = passed_none; coded = below_none _; values = refl }

  module _ {legs left : List ℕ} {i : ℕ} (o : Opening a columns price legs₀ left₀ legs left i) where
    -- holding i as its row was read, and what it made
    module _ (h : i < count_in columns) {r : Row} (e : r ≡ row_by (numbers_at columns i)) {b : Result Holding Refusal} (g : Builds a r b) where
      here : i < length (rows_in columns)
      here = rw (count columns) h

      is_row : r ≡ row columns i
      unfolding rows_in
      is_row = e ∙ sym (get_or-to (count_in columns) _ i no_row h)

      builds : Builds a (row columns i) b
      builds = subst (λ (x : Row). Builds a x b) is_row g

      price_is : get_or (decode price) i 0 ≡ word_at price i
      unfolding decode entries
      price_is = get_or-to _ (word_at price) i 0 (omega (arith, o.room.prices))

      -- its first fault is the book's
      refused_here : {x : Refusal} {f : Fault Refusal} → number_of x ≡ first_of (holding_faults a (row columns i) (get_or (decode price) i 0)) 0 → f ≡ make_fault x i 0
          → Opens a columns price left₀ legs left (Err f)
      unfolding book_faults at_holding fault_answer
      refused_here {x} first s =
          let other : number_of x ≡ 0 → ⊥ = λ z. omega (arith, number-from_1 x) in
          rw s (record { fault = sym (passed_first o.passed (make_answer 0 0 0) here (λ w. first-at i _ (number_of x) first other w)); opened = tt })

      -- a row that is refused, and a price above the highest
      pub opens_row : {x : Refusal} {f : Fault Refusal} → b ≡ Err x → f ≡ make_fault x i 0 → Opens a columns price left₀ legs left (Err f)
      opens_row s t =
          let (number, other) = refused-row builds s in
          refused_here (row_first _ _ _ _ number (λ z. other (sym number ∙ z))) t

      pub opens-price : {m : Holding} {x : ℕ} {f : Fault Refusal} → b ≡ Ok m → x ≡ word_at price i → price_limit < x → f ≡ make_fault Price i 0
          → Opens a columns price left₀ legs left (Err f)
      opens-price s w d t = refused_here (price-first _ _ _ (made_row builds s).1 (omega (arith, price_is))) t

      -- without a fault, its leg and its value are written
      pub opening-more : (code : ℕ) {m : Holding} {x : ℕ} {leg : Leg} → b ≡ Ok m → x ≡ word_at price i → x ≤ price_limit → leg ≡ leg_of a m → leg_in code ≡ leg
          → Opening a columns price legs₀ left₀ (set legs i code) (set left i r.value) (i + 1)
      unfolding at_holding
      opening-more code s w d el ec =
          let (_, none, is) = made_row builds s in
          record {
            room = o.room;
            legs_long = length-set legs i code ∙ o.legs_long;
            left_long = length-set left i r.value ∙ o.left_long;
            passed = passed-more o.passed here (none-at i _ (ranges-none _ _ _ (fault-none _ _ none) (omega (arith, price_is))));
            coded =
                below_more (λ (k : ℕ). leg_at (set legs i code) k ≡ leg_of a (holding_of (row columns k))) i
                (λ k q. ap leg_in (get_or-set_other {A = ℕ} legs i k code 0 (λ z. omega arith)) ∙ o.coded k q)
                (ap leg_in (get_or-set_same legs i code 0 (omega (arith, o.room.legs_held, o.legs_long))) ∙ ec ∙ el ∙ ap (leg_of a) is);
            values = front-more i _ _ left left₀ (omega (arith, o.room.left_held)) (ap (λ (x : Row). x.value) is_row) o.values;
          }

    -- past the last holding
    module _ (end : count_in columns ≤ i) where
      whole : i ≡ length (rows_in columns)
      whole = omega (arith, count columns, o.passed.few)

      -- the book for a head whose account it is
      abbrev head : Head
      head = record { date = a.date; letter = letter_number a.letter }

      same_account : account_of head ≡ a
      unfolding account_of
      same_account = λ t. record { date = a.date; letter = letter-back a.letter t }

      abbrev book : Submission
      book = record { head = head; rows = rows_in columns; prices = decode price; lines = [] }

      in_limits : Limits book
      unfolding at_holding
      in_limits =
          let each : (k : ℕ) → k < length (rows_in columns) → _ = λ k q. none-ranges _ _ _ (at_none k _ (o.passed.none k (omega (arith, whole)))) in
          record {
            valued = o.room.valued;
            lettered = letter-few a.letter;
            holdings = omega (arith, count columns, o.room.few);
            lines = omega arith;
            each_row = λ k q. rw same_account (each k q).0;
            prices = λ k q. (each k q).1;
          }

      written : (k : ℕ) → k < length (rows_in columns) → leg_at legs k ≡ (priced book).leg k
      unfolding holding_at
      written k q = o.coded k (omega (arith, whole)) ∙ ap (λ (x : Account). leg_of x (holding_at book k)) (sym same_account) ∙ sym (leg_at_lem book k q)

      all_values : list_to i (λ k. (row columns k).value) ≡ map (λ r. r.value) (rows_in columns)
      all_values = sym (map-to (λ (r : Row). r.value) i (row columns)) ∙ ap (map (λ (r : Row). r.value)) (to_back i (rows_in columns) no_row (sym whole))

      -- no holding has a fault
      pub opens-all : Opens a columns price left₀ legs left (Ok tt)
      unfolding book_faults fault_answer priced book_of
      opens-all = record {
        fault = sym (first_of-none (book_faults a (rows_in columns) (decode price)) _ (passed-all o.passed (omega (arith, whole))));
        opened = record {
          bounded = record {
            few = in_limits.holdings;
            held = omega (arith, count columns, o.room.legs_held, o.legs_long);
            rate = λ k q. rw (written k q) (rate_at_lem book in_limits k q);
          };
          legs = record { count = refl; leg = λ k q. rw same_account at (written k q) };
          values = o.values ∙ ap (λ (xs : List ℕ). front xs left₀) all_values;
          values_high = λ k q. rw (value-at book k) (in_limits.each_row k q).value.high;
          prices_high = in_limits.prices;
        };
      }
