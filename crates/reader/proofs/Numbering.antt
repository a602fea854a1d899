-- The H of a file are numbered one after another: one more, and what the table of LEIs holds then. Assumes nothing.
use mathlib.Core.Path.{◌≡◌, refl, sym, ap, ◌∙◌}
use mathlib.Core.Logic.{◌≢◌}
use mathlib.Core.List.{List, [], ◌∷◌, ◌++◌}
use Prim.Native.Nat.{ℕ, suc, ◌+◌, ◌-◌, ◌≤◌, ◌<◌}
use native.Mathlib.Numerals.{add-one}
use native.Mathlib.Omega.{arith}
use lib.Dec.{ltb, eqb}
use lib.ListN.{length, get_or, take, set, length-append, get_or-append}
use lib.Seq.{set-get_or, take-suc-set, length-take-le, get_or_at, get_or-append-add, take-append-le}
use Rattle.std.proofs.lemmas.List.{set-append_left}
use borrow.Author.Tests.{eq-eqb, ne_eqb}
use Rattle.lists.proofs.Tests.{by-test}
use Rattle.lei.specs.declared.Lei.{Lei}
use Rattle.std.specs.Prelude.{Some, None}
use Rattle.lei.specs.Numbering.{first_place, place_among, enter}
use Rattle.lei.proofs.Places.{among-known, among_new, enter-known, enter_new}
use Rattle.rfc4180.specs.Reading.{field_count}
use Rattle.layout.specs.Layout.{corporation, issuer_in, all_values}
use Rattle.layout.specs.declared.Record.{Record}
use Rattle.reader.specs.File.{lei_in, issuer_number, known_after, with_number, numbered_from, leis_from, NumbersIssuer}

-- one H more
pub numbered_more : (known : List Lei) (xs : List (List ℕ)) (vs : List ℕ)
    → numbered_from known (xs ++ (vs ∷ [])) ≡ numbered_from known xs ++ (with_number (leis_from known xs) vs ∷ [])
unfolding numbered_from leis_from
numbered_more known [] vs = refl
numbered_more known (x ∷ xs) vs = ap (with_number known x ∷◌) (numbered_more (known_after known x) xs vs)

pub leis-more : (known : List Lei) (xs : List (List ℕ)) (vs : List ℕ) → leis_from known (xs ++ (vs ∷ [])) ≡ known_after (leis_from known xs) vs
unfolding leis_from
leis-more known [] vs = refl
leis-more known (x ∷ xs) vs = leis-more (known_after known x) xs vs

-- as many as there are, and each adds one at most to those known
pub length-numbered : (known : List Lei) (xs : List (List ℕ)) → length (numbered_from known xs) ≡ length xs
unfolding numbered_from
length-numbered known [] = refl
length-numbered known (x ∷ xs) = ap suc (length-numbered (known_after known x) xs)

after-few : (known : List Lei) (vs : List ℕ) → length (known_after known vs) ≤ suc (length known)
unfolding known_after enter
after-few known vs =
    by-test (λ (ks : List Lei). length ks ≤ suc (length known)) (eqb (issuer_in vs) corporation)
    (λ _.
    by-test (λ (ks : List Lei). length ks ≤ suc (length known)) (ltb (first_place (lei_in vs) known) (length known))
    (λ _. omega arith)
    (λ _. omega (arith, length-append known (lei_in vs ∷ []))))
    (λ _. omega arith)

pub leis-few : (known : List Lei) (xs : List (List ℕ)) → length (leis_from known xs) ≤ length known + length xs
unfolding leis_from
leis-few known [] = omega arith
leis-few known (x ∷ xs) = omega (arith, after-few known x, leis-few (known_after known x) xs)

-- the issuer of an H, by the tests on the way: a government's number stays, and a corporation's is that of its place
module _ (vs : List ℕ) where
  pub issuer-other : (known : List Lei) → issuer_in vs ≢ corporation → NumbersIssuer known known vs vs
  unfolding issuer_number known_after
  issuer-other known other =
      let no = ne_eqb (issuer_in vs) corporation other in
      record { number = rw no (sym (set-get_or vs 2 0)); entered = rw no }

  module _ (known : List Lei) (is : issuer_in vs ≡ corporation) where
    numbered : {place : ℕ} → place ≡ first_place (lei_in vs) known → set vs 2 (100 + place) ≡ with_number known vs
    unfolding issuer_number
    numbered found = rw (eq-eqb (issuer_in vs) corporation is, found)

    after : known_after known vs ≡ enter known (lei_in vs)
    unfolding known_after
    after = rw (eq-eqb (issuer_in vs) corporation is)

    pub issuer_known : (place : ℕ) → place_among known (lei_in vs) ≡ Some place → NumbersIssuer known known vs (set vs 2 (100 + place))
    issuer_known place e =
        let (found, within) = among-known known (lei_in vs) place e in
        record { number = numbered found; entered = sym (after ∙ enter-known known (lei_in vs) (omega (arith, found))) }

  pub issuer_new : (known : List Lei) (count : ℕ) → issuer_in vs ≡ corporation → count < length known → place_among (take count known) (lei_in vs) ≡ None
      → NumbersIssuer (take count known) (take (count + 1) (set known count (lei_in vs))) vs (set vs 2 (100 + count))
  issuer_new known count is room e =
      let long : length (take count known) ≡ count = length-take-le count known (omega arith) in
      let place = among_new (take count known) (lei_in vs) e in
      record {
        number = numbered (take count known) is (sym (place ∙ long));
        entered = rw add-one (take-suc-set known count (lei_in vs) room) ∙ sym (after (take count known) is ∙ enter_new (take count known) (lei_in vs) (omega (arith, place)));
      }

-- of a record: its issuer and its LEI among its values
pub fields-long : (r : Record) → length (all_values r) ≡ field_count + 1 → length r.fields ≡ field_count - 1
fields-long r h = omega (arith, h, length-append r.fields (r.lei.high ∷ r.lei.low ∷ []))

module _ (r : Record) (long : length r.fields ≡ field_count - 1) where
  abbrev behind : List ℕ
  behind = r.lei.high ∷ r.lei.low ∷ []

  pub field-among : (j : ℕ) → j < field_count - 1 → get_or (all_values r) j 0 ≡ get_or r.fields j 0
  field-among j h = get_or-append r.fields behind 0 j (omega arith)

  pub fields-first : (n : ℕ) → n ≤ field_count - 1 → take n (all_values r) ≡ take n r.fields
  fields-first n h = take-append-le n r.fields behind (omega arith)

  lei-behind : lei_in (all_values r) ≡ r.lei
  lei-behind =
      let high : get_or (all_values r) (field_count - 1) 0 ≡ r.lei.high = get_or_at r.fields r.lei.high (r.lei.low ∷ []) 0 (field_count - 1) long in
      let low : get_or (all_values r) field_count 0 ≡ r.lei.low =
      rw long at (get_or-append-add r.fields behind 1 0) in
      rw (high, low)

  number-put : (n : ℕ) → set (all_values r) 2 n ≡ all_values (record { fields = set r.fields 2 n; lei = r.lei })
  number-put n = set-append_left r.fields behind 2 n (omega arith)

  pub record-other : (known : List Lei) → get_or r.fields 2 0 ≢ corporation → NumbersIssuer known known (all_values r) (all_values r)
  record-other known other = issuer-other (all_values r) known (λ e. other (sym (field-among 2 (omega arith)) ∙ e))

  module _ (is : get_or r.fields 2 0 ≡ corporation) where
    issuer-is : issuer_in (all_values r) ≡ corporation
    issuer-is = field-among 2 (omega arith) ∙ is

    pub record_known : (known : List Lei) (place : ℕ) → place_among known r.lei ≡ Some place
        → NumbersIssuer known known (all_values r) (all_values (record { fields = set r.fields 2 (100 + place); lei = r.lei }))
    record_known known place e = rw (← number-put (100 + place)) (issuer_known (all_values r) known issuer-is place (rw lei-behind e))

    pub record_new : (known : List Lei) (count : ℕ) → count < length known → place_among (take count known) r.lei ≡ None
        → NumbersIssuer (take count known) (take (count + 1) (set known count r.lei)) (all_values r) (all_values (record { fields = set r.fields 2 (100 + count); lei = r.lei }))
    record_new known count room e = rw (← number-put (100 + count)) (rw lei-behind at (issuer_new (all_values r) known count issuer-is room (rw lei-behind e)))
