-- The walk over the lines: what holds at each of its turns, and what that says where it starts, goes on, stops and ends. Assumes nothing.
use mathlib.Core.Path.{◌≡◌, refl, sym, ap, ◌∙◌}
use mathlib.Core.List.{List, [], ◌∷◌}
use Prim.Native.Nat.{ℕ, ◌+◌, ◌-◌, ◌*◌, ◌≤◌, ◌<◌}
use native.Mathlib.Nat.{le_trans, sub-le}
use native.Mathlib.Numerals.{add-one}
use native.Mathlib.Omega.{arith}
use lib.ListN.{length, get_or, set}
use borrow.Author.Tests.{lt-ltb}
use Rattle.lists.specs.Choice.{first_of}
use Rattle.lists.specs.Tables.{sum_of, list_to, front}
use Rattle.lists.proofs.Tests.{tests}
use Rattle.lists.proofs.Sums.{sum_of-more}
use Rattle.lists.proofs.Tables.{length_to, get_or-to, take-to, in_front}
use Rattle.lists.proofs.Firsts.{first_of-none}
use Rattle.lists.proofs.Passed.{Passed, passed_none, passed-more, passed_first, passed-all}
use Rattle.holding.specs.Holding.{value_limit}
use Rattle.article.specs.Answer.{make_answer}
use Rattle.article.specs.declared.pair.Leg.{Leg}
use Rattle.pairing.specs.Pairing as pairing
use Rattle.pairing.specs.declared.Line.{Line}
use Rattle.pairing.proofs.Used.{used-append}
use Rattle.proposal.specs.Submission.{PricedBook, terms_of, no_line, margin_limit, saved_limit, remainder, remainders_of}
use Rattle.proposal.specs.Outcome.{fault_answer, at_place, pair_faults, line_faults, at_line, lines_faults}
use Rattle.proposal.proofs.Places.{zero_at, first-at, line-listed}
use Rattle.proposal.proofs.PricedBooks.{saving_rate_lem}
use Rattle.packed.specs.Packed.{Legs, LegsOf, Same, AtMost, entry, leg_at}
use Rattle.tally.specs.Lines.{taken, applied_of, Ready, taken_lines, Takes}
use Rattle.tally.specs.declared.Tally.{Tally}
use Rattle.std.specs.Prelude.{Result, Ok, Err}
use Rattle.refusals.specs.Refusals.{number_of, numbered}
use Rattle.refusals.specs.declared.Refusal.{Refusal, TheVariants.NotInBook}
use Rattle.refusals.proofs.Refusals.{number-from_1}
use Rattle.proposal.specs.Outcome.{make_fault}
use Rattle.proposal.specs.declared.Fault.{Fault}
use Rattle.tally.proofs.OneLine.{refused, took}
use Rattle.tally.proofs.Left.{length-written, written_at, written_past}

-- the numbers of the walk at line i, whatever book it is of: what is left, units u and saving s
pub record Going (n : ℕ) (before left : List ℕ) (u s i : ℕ) : Type 0 where
  pub long : length left ≡ length before
  pub kept : (k : ℕ) → n ≤ k → get_or left k 0 ≡ get_or before k 0
  pub high : AtMost value_limit n (entry left)
  -- no line added more than the highest rates times the highest value
  pub units : u ≤ i * margin_limit
  pub saving : s ≤ i * saved_limit

-- what they are to a book: no line before i has a fault, and the numbers are those of the lines before i
pub record Walking (b : PricedBook) (line : ℕ → Line) (m : ℕ) (left : List ℕ) (u s i : ℕ) : Type 0 where
  pub passed : Passed m (at_line b (list_to m line)) i
  pub units : u ≡ pairing.pair_units (terms_of b) (list_to i line)
  pub saving : s ≡ pairing.saving (terms_of b) (list_to i line)
  pub remains : (k : ℕ) → k < b.count → get_or left k 0 ≡ remainder b (list_to i line) k

-- a book whose legs and values are lent
abbrev Holds : ℕ → List ℕ → List ℕ → PricedBook → Type 0
Holds n legs before b = LegsOf b n legs × Same n (entry before) b.value

-- the invariant
pub record Walk (n : ℕ) (legs before : List ℕ) (line : ℕ → Line) (m : ℕ) (left : List ℕ) (u s i : ℕ) : Type 0 where
  pub few : i ≤ m
  pub going : Going n before left u s i
  pub walking : (b : PricedBook) → Holds n legs before b → Walking b line m left u s i

-- before any line
pub starts : {n : ℕ} {legs before : List ℕ} {line : ℕ → Line} {m : ℕ} → AtMost value_limit n (entry before)
    → Walk n legs before line m before 0 0 0
unfolding list_to remainder pairing.used pairing.pair_units pairing.saving sum_of
starts high = record {
  few = omega arith;
  going = record { long = refl; kept = λ k h. refl; high = high; units = omega arith; saving = omega arith };
  walking = λ b h. record {
    passed = passed_none;
    units = refl;
    saving = refl;
    remains = λ k q. h.1 k (rw (← h.0.count) q) ∙ omega arith;
  };
}

-- the line at k in a list of m
at_line_lem : (b : PricedBook) (line : ℕ → Line) (m k : ℕ) → k < m → at_line b (list_to m line) k ≡ at_place k (line_faults b (list_to k line) (line k))
unfolding at_line
at_line_lem b line m k h = rw (take-to m k line (omega arith), get_or-to m line k no_line h)

module _ {n : ℕ} {legs before : List ℕ} {line : ℕ → Line} {m : ℕ} {left : List ℕ} {u s i : ℕ} (room : n ≤ length before)
    (walk : Walk n legs before line m left u s i) where
  -- the whole list
  left-list : (b : PricedBook) → Holds n legs before b → left ≡ front (remainders_of b (list_to i line)) before
  unfolding remainders_of
  left-list b h =
      in_front b.count (remainder b (list_to i line)) left before (omega (arith, h.0.count)) walk.going.long (walk.walking b h).remains
      (λ k q. walk.going.kept k (omega (arith, h.0.count)))

  -- after m lines without fault
  pub ends : m ≤ i → m ≤ 512 → Takes n legs before (list_to m line) left (record { units = u; saving = s }) (Ok tt)
  unfolding fault_answer lines_faults taken_lines
  ends h few =
      let all : i ≡ m = omega (arith, walk.few) in
      record {
        walks = λ b legs values.
            let w = walk.walking b (legs, values) in
            record {
              fault = rw (length_to m line) (sym (first_of-none _ (make_answer 0 0 0) (passed-all w.passed h)));
              units = rw (← all) w.units;
              saving = rw (← all) w.saving;
              left = rw (← all) (left-list b (legs, values));
            };
        units-high = omega (arith, walk.going.units);
        left_high = walk.going.high;
      }

-- a turn of the walk
pub record Turn (n : ℕ) (legs before : List ℕ) (line : ℕ → Line) (m : ℕ) (left : List ℕ) (u s i : ℕ) : Type 0 where
  pub room : n ≤ length before
  pub bounded : Legs n legs
  pub walk : Walk n legs before line m left u s i
  pub more : i < m
  pub few : m ≤ 512

-- a line that was read, on two numbers of the book, and their legs
pub record Read (n : ℕ) (legs : List ℕ) (line l : Line) (long short : Leg) : Type 0 where
  pub is : line ≡ l
  pub first : l.long < n
  pub second : l.short < n
  pub long_leg : long ≡ leg_at legs l.long
  pub short_leg : short ≡ leg_at legs l.short

-- the tally of a line's two holdings
abbrev pub tally_at : List ℕ → Line → ℕ → ℕ → Tally
tally_at left l u s = record { long = get_or left l.long 0; short = get_or left l.short 0; units = u; saving = s }

module _ {n : ℕ} {legs before : List ℕ} {line : ℕ → Line} {m : ℕ} {left : List ℕ} {u s i : ℕ} (turn : Turn n legs before line m left u s i) where
  -- at a line with a fault
  pub stops : {x : Refusal} {f : Fault Refusal} → ((b : PricedBook) → Holds n legs before b → number_of x ≡ first_of (line_faults b (list_to i line) (line i)) 0)
      → f ≡ make_fault x i 0 → Takes n legs before (list_to m line) left (record { units = u; saving = s }) (Err f)
  unfolding fault_answer lines_faults taken_lines
  stops {x} first e = rw e (record {
    walks = λ b legs values.
        let w = turn.walk.walking b (legs, values) in
        let some : number_of x ≡ 0 → ⊥ = λ z. omega (arith, number-from_1 x) in
        record {
          fault = rw (length_to m line)
              (sym (passed_first w.passed (make_answer 0 0 0) turn.more (λ z. rw (at_line_lem b line m i turn.more) (first-at i _ (number_of x) (first b (legs, values)) some z))));
          units = rw (take-to m i line (omega (arith, turn.more))) w.units;
          saving = rw (take-to m i line (omega (arith, turn.more))) w.saving;
          left = rw (take-to m i line (omega (arith, turn.more))) (left-list turn.room turn.walk b (legs, values));
        };
    units-high = omega (arith, turn.walk.going.units, turn.more, turn.few);
    left_high = turn.walk.going.high;
  })

  -- a number that is not in the book
  pub no_long : {f : Fault Refusal} → n ≤ (line i).long → f ≡ make_fault NotInBook i 0 → Takes n legs before (list_to m line) left (record { units = u; saving = s }) (Err f)
  unfolding line_faults first_of
  no_long h = stops (λ b holds. rw holds.0.count (search tests))

  pub no_short : {f : Fault Refusal} → (line i).long < n → n ≤ (line i).short → f ≡ make_fault NotInBook i 0
      → Takes n legs before (list_to m line) left (record { units = u; saving = s }) (Err f)
  unfolding line_faults first_of
  no_short p h = stops (λ b holds. rw holds.0.count (search tests))

  module _ {l : Line} {long short : Leg} (read : Read n legs (line i) l long short) where
    pub ready : Ready (tally_at left l u s) long short
    ready = record {
      long_rate = rw read.long_leg (turn.bounded.rate l.long read.first);
      short_rate = rw read.short_leg (turn.bounded.rate l.short read.second);
      left = turn.walk.going.high l.long read.first;
      units = omega (arith, turn.walk.going.units, turn.more, turn.few);
      saving = omega (arith, turn.walk.going.saving, turn.more, turn.few);
    }

    -- the refusals of the line in a book are those on its legs and on what is left
    module _ (b : PricedBook) (holds : Holds n legs before b) where
      first_leg : b.leg l.long ≡ long
      first_leg = sym (read.long_leg ∙ holds.0.leg l.long read.first)

      second_leg : b.leg l.short ≡ short
      second_leg = sym (read.short_leg ∙ holds.0.leg l.short read.second)

      line_faults_lem : first_of (line_faults b (list_to i line) (line i)) 0
          ≡ first_of (pair_faults long short l.amount (get_or left l.long 0) (get_or left l.short 0)) 0
      unfolding line_faults first_of
      line_faults_lem =
          let remains = (turn.walk.walking b holds).remains in
          let p : l.long < b.count = omega (arith, holds.0.count, read.first) in
          let q : l.short < b.count = omega (arith, holds.0.count, read.second) in
          rw (read.is, lt-ltb l.long b.count p, lt-ltb l.short b.count q, first_leg, second_leg, ← remains l.long p, ← remains l.short q)

    module _ {r : Result Tally Refusal} (applies : numbered r ≡ applied_of (tally_at left l u s) l.amount long short) where
      -- the line is refused
      pub refuses : {x : Refusal} {f : Fault Refusal} → r ≡ Err x → f ≡ make_fault x i 0 → Takes n legs before (list_to m line) left (record { units = u; saving = s }) (Err f)
      refuses e f = stops (λ b holds. refused (tally_at left l u s) l.amount long short applies e ∙ sym (line_faults_lem b holds)) f

      -- the line is taken off
      pub goes : {after : Tally} → r ≡ Ok after
          → Walk n legs before line m (set (set left l.long after.long) l.short after.short) after.units after.saving (i + 1)
      unfolding taken list_to
      goes e =
          let done = took (tally_at left l u s) l.amount long short applies ready e in
          let going = turn.walk.going in
          let apart : l.long ≡ l.short → ⊥ = λ same. done.apart (read.long_leg ∙ ap (leg_at legs) same ∙ sym read.short_leg) in
          let p : l.long < length left = omega (arith, going.long, turn.room, read.first) in
          let q : l.short < length left = omega (arith, going.long, turn.room, read.second) in
          rw done.tally (record {
            few = omega (arith, turn.more);
            going = record {
              long = length-written left l ∙ going.long;
              kept = λ k h. written_past left l apart p q n k read.first read.second h ∙ going.kept k h;
              high = λ k h. rw (written_at left l apart p q k) (le_trans (sub-le _ _) (going.high k h));
              units = omega (arith, done.high.units, going.units);
              saving = omega (arith, done.high.saving, going.saving);
            };
            walking = λ b holds.
                let w = turn.walk.walking b holds in
                record {
                  passed = passed-more w.passed turn.more
                      (rw (at_line_lem b line m i turn.more) (zero_at i _ (line-listed b _ _) (line_faults_lem b holds ∙ first_of-none _ 0 done.none)));
                  units = rw (add-one i, read.is, w.units, ← first_leg b holds, ← second_leg b holds) (unfold terms_of pairing.pair_units in sum_of-more (list_to i line) l _);
                  saving = rw (add-one i, read.is, w.saving, ← first_leg b holds, ← second_leg b holds, ← saving_rate_lem b l.long l.short) (unfold pairing.saving in sum_of-more (list_to i line) l _);
                  remains = λ k h.
                      written_at left l apart p q k ∙ ap (λ (x : ℕ). x - pairing.used (l ∷ []) k) (w.remains k h)
                      ∙ rw (add-one i, read.is) (unfold remainder in omega (arith, used-append (list_to i line) (l ∷ []) k));
                };
          })
