-- The values of texts, found one after another. Assumes nothing.
use mathlib.Core.Path.{◌≡◌, refl, sym, ◌∙◌}
use Rattle.std.specs.Prelude.{Result, Ok, Err}
use mathlib.Core.Bool.{cond}
use mathlib.Core.List.{List, [], ◌∷◌, ◌++◌, append_assoc, append-nil}
use Prim.Native.Nat.{ℕ, suc, ◌+◌, ◌-◌, ◌≤◌, ◌<◌, min}
use native.Mathlib.Numerals.{add-one}
use native.Mathlib.Omega.{arith}
use lib.Dec.{eqb}
use lib.ListN.{length, get_or, take, drop, set, length-set, length-take, length-drop, drop_of_length-le}
use lib.Seq.{drop-cons, get_or-drop, take-suc-set, take_all}
use borrow.Author.Tests.{eq-eqb, ne_eqb}
use Rattle.lists.proofs.Tables.{length_to}
use Rattle.lists.proofs.Tests.{same_or_not}
use Rattle.rfc4180.specs.Reading.{field_count, texts_in, HandsBack}
use Rattle.layout.specs.Layout.{value_of, sorts_by, Values, values, wrong, and_value, values_of, sooner, Found}
use Rattle.layout.specs.declared.Sort.TheVariants.{Empty}
use Rattle.rfc4180.specs.declared.Span.{Span}
use Rattle.refusals.specs.Refusals.{number_of}
use Rattle.refusals.specs.declared.Refusal.{Refusal}
use Rattle.layout.proofs.Letters.{length_sorts, value_late}

-- what was found, before what is found of the texts to come
abbrev pub ahead : Values → Values → Values
ahead (values us) (values vs) = values (us ++ vs)
ahead (values us) (wrong number) = wrong number
ahead (wrong first) (values vs) = wrong first
ahead (wrong first) (wrong number) = wrong (min first number)

ahead_none : (vs : Values) → vs ≡ ahead (values []) vs
ahead_none (values vs) = refl
ahead_none (wrong number) = refl

ahead-end : (us : Values) → ahead us (values []) ≡ us
ahead-end (values us) = rw append-nil
ahead-end (wrong first) = refl

-- a value behind good ones, and behind a refusal
good-good : (us : List ℕ) (v : ℕ) (vs : Values) → ahead (values us) (and_value (Ok v) vs) ≡ ahead (values (us ++ (v ∷ []))) vs
good-good us v (values vs) = rw (append_assoc us (v ∷ []) vs)
good-good us v (wrong number) = refl

wrong-good : (first v : ℕ) (vs : Values) → ahead (wrong first) (and_value (Ok v) vs) ≡ ahead (wrong first) vs
wrong-good first v (values vs) = refl
wrong-good first v (wrong number) = refl

-- a refusal behind good values, and behind another
good-wrong : (us : List ℕ) (r : Refusal) (vs : Values) → ahead (values us) (and_value (Err r) vs) ≡ ahead (wrong (number_of r)) vs
good-wrong us r (values vs) = refl
good-wrong us r (wrong number) = refl

wrong-wrong : (first : ℕ) (r : Refusal) (vs : Values) → ahead (wrong first) (and_value (Err r) vs) ≡ ahead (wrong (min first (number_of r))) vs
wrong-wrong first r (values vs) = refl
wrong-wrong first r (wrong number) =
    let lesser : min first (min (number_of r) number) ≡ min (min first (number_of r)) number = omega arith in
    rw lesser

-- the first j values, or the refusal found so far
unfoldable pub so_far : List ℕ → ℕ → ℕ → Values
so_far found refusal j = cond (eqb refusal 0) (values (take j found)) (wrong refusal)

module _ (found : List ℕ) (j : ℕ) where
  far_good : (refusal : ℕ) → refusal ≡ 0 → so_far found refusal j ≡ values (take j found)
  unfolding so_far
  far_good refusal e = rw (eq-eqb refusal 0 e)

  far_wrong : (refusal : ℕ) → (refusal ≡ 0 → ⊥) → so_far found refusal j ≡ wrong refusal
  unfolding so_far
  far_wrong refusal n = rw (ne_eqb refusal 0 n)

-- the values of the texts after a letter: the first j are found, or a refusal among them
pub record Finding (letter : ℕ) (ts : List (List ℕ)) (found : List ℕ) (refusal j : ℕ) : Type 0 where
  pub few : j ≤ field_count - 1
  pub texts : length ts ≡ field_count - 1
  pub room : length found ≡ field_count - 1
  pub rest : values_of (sorts_by letter) ts ≡ ahead (so_far found refusal j) (values_of (drop j (sorts_by letter)) (drop j ts))

pub finding_none : (letter : ℕ) (ts : List (List ℕ)) (found : List ℕ) → length ts ≡ field_count - 1 → length found ≡ field_count - 1 → Finding letter ts found 0 0
unfolding so_far
finding_none letter ts found h l = record { few = omega arith; texts = h; room = l; rest = ahead_none (values_of (sorts_by letter) ts) }

module _ {letter : ℕ} {ts : List (List ℕ)} {found : List ℕ} {refusal j : ℕ} (f : Finding letter ts found refusal j) where
  module _ (h : j < field_count - 1) where
    -- the values of the texts after that at j
    abbrev later : Values
    later = values_of (drop (suc j) (sorts_by letter)) (drop (suc j) ts)

    turn : values_of (sorts_by letter) ts ≡ ahead (so_far found refusal j) (and_value (value_of (get_or (sorts_by letter) j Empty) (get_or ts j [])) later)
    unfolding values_of
    turn = rw (drop-cons (sorts_by letter) j Empty (omega (arith, length_sorts letter)), drop-cons ts j [] (omega (arith, f.texts))) at f.rest

    pub finding_more : (v : ℕ) → value_of (get_or (sorts_by letter) j Empty) (get_or ts j []) ≡ Ok v → Finding letter ts (set found j v) refusal (j + 1)
    finding_more v e = record {
      few = omega arith;
      texts = f.texts;
      room = length-set found j v ∙ f.room;
      rest = rw (add-one j) (rw e at turn ∙ step);
    }
      where
        more : take (suc j) (set found j v) ≡ take j found ++ (v ∷ [])
        more = take-suc-set found j v (omega (arith, f.room))

        step : ahead (so_far found refusal j) (and_value (Ok v) later) ≡ ahead (so_far (set found j v) refusal (suc j)) later
        step =
            same_or_not refusal 0
            (λ z. rw (far_good found j refusal z, far_good (set found j v) (suc j) refusal z, more) (good-good (take j found) v later))
            (λ n. rw (far_wrong found j refusal n, far_wrong (set found j v) (suc j) refusal n) (wrong-good refusal v later))

    pub finding_wrong : (r : Refusal) → value_of (get_or (sorts_by letter) j Empty) (get_or ts j []) ≡ Err r → Finding letter ts found (sooner refusal (number_of r)) (j + 1)
    unfolding sooner
    finding_wrong r e = record { few = omega arith; texts = f.texts; room = f.room; rest = rw (add-one j) (rw e at turn ∙ step) }
      where
        late : 21 ≤ number_of r
        late = rw e at (value_late (get_or (sorts_by letter) j Empty) (get_or ts j []))

        step : ahead (so_far found refusal j) (and_value (Err r) later) ≡ ahead (so_far found (sooner refusal (number_of r)) (suc j)) later
        step =
            same_or_not refusal 0
            (λ z. rw (far_good found j refusal z, eq-eqb refusal 0 z, far_wrong found (suc j) (number_of r) (λ o. omega (arith, late))) (good-wrong (take j found) r later))
            (λ w.
            rw (far_wrong found j refusal w, ne_eqb refusal 0 w, far_wrong found (suc j) (min refusal (number_of r)) (λ o. omega (arith, late))) (wrong-wrong refusal r later))

  pub finding_all : field_count - 1 ≤ j → Found (values_of (sorts_by letter) ts) found refusal
  unfolding values_of
  finding_all h =
      let sorts : length (sorts_by letter) ≤ j = omega (arith, length_sorts letter) in
      let texts : length ts ≤ j = omega (arith, f.texts) in
      rw (all sorts texts)
      (same_or_not {P = Found (so_far found refusal j) found refusal} refusal 0
      (λ z. rw (far_good found j refusal z) (z, sym (take_all j found (omega (arith, f.room)))))
      (λ n. rw (far_wrong found j refusal n) refl))
    where
      all : length (sorts_by letter) ≤ j → length ts ≤ j → values_of (sorts_by letter) ts ≡ so_far found refusal j
      all sorts texts = f.rest ∙ rw (drop_of_length-le (sorts_by letter) sorts, drop_of_length-le ts texts) (ahead-end (so_far found refusal j))

-- the texts by the places of a record's fields
module _ (text : List ℕ) (spans : List Span) where
  pub length-texts : length (texts_in text field_count spans) ≡ field_count
  unfolding texts_in
  length-texts = simp (length-take, length_to)

  pub texts-after : length (drop 1 (texts_in text field_count spans)) ≡ field_count - 1
  unfolding texts_in
  texts-after = simp (length-drop, length-take, length_to)

  -- the value of the one at j after the letter
  pub value_after : (letter j : ℕ) {x : Result ℕ Refusal} {field : List ℕ} → x ≡ value_of (get_or (sorts_by letter) j Empty) field
      → HandsBack text field_count spans (j + 1) field → value_of (get_or (sorts_by letter) j Empty) (get_or (drop 1 (texts_in text field_count spans)) j []) ≡ x
  value_after letter j e q =
      let next : 1 + j ≡ j + 1 = omega arith in
      rw (get_or-drop 1 (texts_in text field_count spans) j [], next, ← q.by_places) (sym e)
