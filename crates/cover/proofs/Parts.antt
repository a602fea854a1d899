-- The shorts in parts by period, filled holding by holding. Assumes nothing.
use mathlib.Core.Path.{◌≡◌, sym, ap, ◌∙◌}
use mathlib.Core.Logic.{◌≢◌}
use mathlib.Core.List.{List}
use Prim.Native.Nat.{ℕ, ◌+◌, ◌%◌, ◌≤◌, ◌<◌}
use native.Mathlib.Omega.{arith}
use lib.ListN.{length, set, length-set}
use lib.Seq.{get_or-set_same, get_or-set_other}
use borrow.Author.Count.{below_more}
use Rattle.lists.proofs.Tests.{same_or_not}
use Rattle.words.specs.Words.{word_at}
use Rattle.article.specs.declared.pair.Leg.{Leg}
use Rattle.packed.specs.Packed.{leg_at}
use Rattle.savings.specs.Savings.{saving_of}
use Rattle.article.specs.Pair.{RateInRange}
use Rattle.cover.specs.Cover.{Priced, RowCovered, Places, Added, part_of, part_at, Parts, Free, ShortsByPart}
use Rattle.cover.specs.declared.Shorts.{Shorts}
use Rattle.cover.proofs.Written.{unmet, row_kept, row-added, rate_low, places-added}

-- legs of two parts have two periods, and save nothing
apart : (parts : ℕ) (l s : Leg) → (part_of parts l ≡ part_of parts s → ⊥) → saving_of l s ≡ 0
unfolding part_of
apart parts l s h = unmet l s (λ m. h (ap (λ (x : ℕ). x % parts) m.period))

-- the shorts before holding j stand in their parts
pub record Parting (count n : ℕ) (legs price : List ℕ) (parts : List Shorts) (j : ℕ) : Type 0 where
  pub few : j ≤ n
  pub some : 0 < count
  pub count_held : length parts ≡ count
  pub priced : Priced n legs price
  pub held : Parts parts
  pub shorts : ShortsByPart j legs price parts

module _ {count n : ℕ} {legs price : List ℕ} {parts : List Shorts} where
  pub parting_none : 0 < count → length parts ≡ count → Priced n legs price → Parts parts → Free parts → Parting count n legs price parts 0
  parting_none some held priced p e = record {
    few = omega arith;
    some = some;
    count_held = held;
    priced = priced;
    held = p;
    shorts = record { few = λ b h. omega (arith, e.none b h); all = λ l p fair c j h. absurd (omega arith) };
  }

  module _ {j : ℕ} (f : Parting count n legs price parts j) where
    -- a leg has a part, with room for one more
    part_low : (l : Leg) → part_of (length parts) l < length parts
    unfolding part_of
    part_low l =
        let some : 0 < length parts = rw f.count_held f.some in
        omega arith

    pub part_room : (b : ℕ) → b < length parts → j < n → (part_at parts b).count < 256
    part_room b l h = omega (arith, f.priced.bounded.few, f.shorts.few b l)

    pub parting_all : n ≤ j → ShortsByPart n legs price parts
    parting_all h =
        let e : j ≡ n = omega (arith, f.few) in
        rw e at f.shorts

    module _ {leg : Leg} (found : leg ≡ leg_at legs j) (h : j < n) where
      -- a holding that is not short is passed over
      pub parting_other : (leg.side ≡ 1 → ⊥) → Parting count n legs price parts (j + 1)
      parting_other e = record {
        few = omega arith;
        some = f.some;
        count_held = f.count_held;
        priced = f.priced;
        held = f.held;
        shorts = record {
          few = λ b l. omega (arith, f.shorts.few b l);
          all = λ l p fair c. below_more _ _ (f.shorts.all l p fair c) (rw (unmet l (leg_at legs j) (λ m. rw found at e m.short)) (omega arith));
        };
      }

      -- one more short, in the part b of its period
      module _ {b z : ℕ} {new : Shorts} (part : b ≡ part_of count leg) (e : z ≡ word_at price j) (a : Added leg z (part_at parts b) new) where
        own : b ≡ part_of (length parts) leg
        own = rw f.count_held part

        low : b < length parts
        low = rw own (part_low leg)

        room : (part_at parts b).count < 256
        room = part_room b low h

        places : Places (part_at parts b)
        places = f.held.places b low

        same_length : length (set parts b new) ≡ length parts
        same_length = length-set parts b new

        written : part_at (set parts b new) b ≡ new
        written = get_or-set_same parts b new _ low

        unwritten : (q : ℕ) → q ≢ b → part_at (set parts b new) q ≡ part_at parts q
        unwritten q t = get_or-set_other parts b q new _ t

        -- of what holds of the new part, and of each old one
        each_part : (P : Shorts → Type 0) → P new → ((q : ℕ) → q < length parts → P (part_at parts q)) → (q : ℕ) → q < length (set parts b new)
            → P (part_at (set parts b new) q)
        each_part P here there q l =
            same_or_not q b (λ t. rw (t, written) here) (λ t. rw (unwritten q t) (there q (rw same_length at l)))

        module _ (l : Leg) {p : ℕ} (fair : RateInRange l)
            (c : RowCovered l p (part_at (set parts b new) (part_of (length parts) l)) (part_at (set parts b new) (part_of (length parts) l)).count) where
          old_row : RowCovered l p (part_at parts (part_of (length parts) l)) (part_at parts (part_of (length parts) l)).count
          old_row =
              same_or_not (part_of (length parts) l) b
              (λ t. rw t (row_kept a (rw (t, written) at c)))
              (λ t. rw (unwritten _ t) at c)

          -- a long of its part is covered with it, and one of another part saves nothing with it
          new_row : saving_of l (leg_at legs j) ≤ p + word_at price j
          new_row =
              same_or_not (part_of (length parts) l) b
              (λ t. rw (← found, ← e) (row-added a (rw (t, written) at c) fair (rate_low j f.priced h found) room places))
              (λ t. rw (apart (length parts) l (leg_at legs j) (λ u. t (u ∙ sym (own ∙ ap (part_of (length parts)) found)))) (omega arith))

        pub parting_more : Parting count n legs price (set parts b new) (j + 1)
        parting_more = record {
          few = omega arith;
          some = f.some;
          count_held = same_length ∙ f.count_held;
          priced = f.priced;
          held = record { places = each_part Places (places-added a room places) f.held.places };
          shorts = record {
            few = each_part (λ (s : Shorts). s.count ≤ j + 1) (omega (arith, a.count, f.shorts.few b low)) (λ q l. omega (arith, f.shorts.few q l));
            all = λ l p fair c.
                let row = rw same_length at c in
                below_more _ _ (f.shorts.all l p fair (old_row l fair row)) (new_row l fair row);
          };
        }
