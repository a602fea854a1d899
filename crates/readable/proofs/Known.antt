-- The LEIs that are known grow at the end: each is an LEI, and stands once. Their numbers find and enter what the texts do. Assumes nothing.
use mathlib.Core.Path.{◌≡◌, sym, ap, ◌∙◌}
use mathlib.Core.Logic.{◌≢◌, ⊎_elim}
use mathlib.Core.List.{List, [], ◌∷◌, ◌++◌, map, map-append}
use Prim.Native.Nat.{ℕ, ◌+◌, ◌≤◌, ◌<◌}
use native.Mathlib.Nat.{eq-or-lt_of_le}
use native.Mathlib.Omega.{arith}
use lib.Dec.{ltb}
use lib.ListN.{length, get_or, length-append, length-map, get_or-append}
use lib.Seq.{get_or-append_seam}
use borrow.Author.Tests.{eq-eqb, ne_eqb, ltb-true, ltb-false}
use Rattle.lists.specs.Tables.{Each}
use Rattle.lists.proofs.Entries.{each_at, each_append}
use Rattle.lists.proofs.Tables.{get_or-map_in}
use Rattle.lists.proofs.Tests.{either_way, same_or_not}
use Rattle.lei.specs.Lei.{no_lei, IsLei, lei_of}
use Rattle.lei.specs.declared.Lei.{Lei}
use Rattle.lei.specs.Numbering.{first_place}
use Rattle.lei.proofs.Places.{first-here, first-least, first-most, enter-known, enter_new}
use Rattle.lei.proofs.Identifiers.{identifiers}
use Rattle.codes.specs.Codes.{Named}
use Rattle.layout.specs.Layout.{corporation, issuer_in, IsValue}
use Rattle.layout.specs.declared.Sort.TheVariants.{Issuer}
use Rattle.reader.specs.File.{lei_in, issuer_number, known_after}
use Rattle.readable.specs.Readable.{Issued, government, known_corporation, new_corporation}

-- each is an LEI, and none stands at two places
pub record Known (known : List (List ℕ)) : Type 0 where
  pub each : Each IsLei known
  pub once : (i j : ℕ) → i < j → j < length known → get_or known i [] ≢ get_or known j []

pub known-none : Known []
known-none = record { each = tt; once = λ i j h l. absurd (omega arith) }

-- one that stands at no place joins
known_more : (known : List (List ℕ)) (t : List ℕ) → Known known → IsLei t → ((k : ℕ) → k < length known → get_or known k [] ≢ t) → Known (known ++ (t ∷ []))
known_more known t m is new =
    let long = length-append known (t ∷ []) in
    record {
      each = each_append IsLei known (t ∷ []) m.each (is, tt);
      once = λ i j h l.
          let before = get_or-append known (t ∷ []) [] in
          let last : (n : ℕ) → n ≡ length known → get_or (known ++ (t ∷ [])) n [] ≡ t = λ n e. rw e (get_or-append_seam known t [] []) in
          same_or_not j (length known)
          (λ e s. new i (omega arith) (sym (before i (omega arith)) ∙ s ∙ last j e))
          (λ o s. m.once i j h (omega arith) (sym (before i (omega arith)) ∙ s ∙ before j (omega arith)));
    }

pub issued-known : {known then : List (List ℕ)} {t : List ℕ} {v n : ℕ} → Issued known t v n then → Known known → Known then
issued-known (government named) m = m
issued-known (known_corporation is at) m = m
issued-known {known} {t = t} (new_corporation is new) m = known_more known t m is new

-- a text and its numbers among those known
module _ (known : List (List ℕ)) (m : Known known) (t : List ℕ) (is : IsLei t) where
  abbrev keys : List Lei
  keys = map lei_of known

  abbrev place : ℕ
  place = first_place (lei_of t) keys

  many : length keys ≡ length known
  many = length-map known lei_of

  -- the text stands where its numbers do
  text_at_lem : place < length known → get_or known place [] ≡ t
  text_at_lem h =
      (identifiers.two-numbers.equal (get_or known place []) t (each_at IsLei [] known m.each place h).form is.form).0
      (sym (get_or-map_in lei_of known place [] no_lei h) ∙ first-here (lei_of t) keys (omega (arith, many)))

  place_at : (k : ℕ) → k < length known → get_or known k [] ≡ t → place ≤ k
  place_at k h e = first-least (lei_of t) keys k (omega (arith, many)) (get_or-map_in lei_of known k [] no_lei h ∙ ap lei_of e)

  -- one that is known stands at its only place, and a new one is to join at the end
  place-known : (k : ℕ) → Named t known k → place ≡ k
  place-known k at =
      let low = place_at k at.inside (sym at.here) in
      ⊎_elim (λ e. e) (λ l. absurd (m.once place k l at.inside (text_at_lem (omega (arith, at.inside)) ∙ at.here))) (eq-or-lt_of_le low)

  place_new : ((k : ℕ) → k < length known → get_or known k [] ≢ t) → place ≡ length known
  place_new new =
      either_way (ltb place (length known))
      (λ l. absurd (new place (ltb-true place (length known) l) (text_at_lem (ltb-true place (length known) l))))
      (λ l. omega (arith, ltb-false place (length known) l, first-most (lei_of t) keys, many))

  corporate : (n : ℕ) × (then : List (List ℕ)) × Issued known t corporation n then
  corporate =
      either_way (ltb place (length known))
      (λ l.
      let h = ltb-true place (length known) l in
      (100 + place, known, known_corporation is (record { inside = h; here = sym (text_at_lem h) })))
      (λ l. (100 + length known, known ++ (t ∷ []), new_corporation is (λ k h e. omega (arith, ltb-false place (length known) l, place_at k h e))))

-- every issuer has a number
pub issue : (known : List (List ℕ)) → Known known → (t : List ℕ) (v : ℕ) → IsValue Issuer t v → (n : ℕ) × (then : List (List ℕ)) × Issued known t v n then
issue known m t v = ⊎_elim (λ named. (v, known, government named)) (λ (is, e). rw e (corporate known m t is))

-- which is that of the values, and so are the LEIs that are known then
pub issued-number : {known then : List (List ℕ)} {t : List ℕ} {v n : ℕ} → Issued known t v n then → Known known → (vs : List ℕ) → issuer_in vs ≡ v → lei_in vs ≡ lei_of t
    → (issuer_number (map lei_of known) vs ≡ n) × (known_after (map lei_of known) vs ≡ map lei_of then)
unfolding issuer_number known_after
issued-number (government named) m vs e f =
    let no = ne_eqb (issuer_in vs) corporation (λ c. omega (arith, named.inside)) in
    (rw no e, rw no)
issued-number {known} {t = t} (known_corporation {k = k} is at) m vs e f =
    let yes = eq-eqb (issuer_in vs) corporation e in
    let here = place-known known m t is k at in
    (rw (yes, f, here), rw (yes, f) (enter-known (map lei_of known) (lei_of t) (omega (arith, many known m t is, at.inside))))
issued-number {known} {t = t} (new_corporation is new) m vs e f =
    let yes = eq-eqb (issuer_in vs) corporation e in
    let end = place_new known m t is new in
    (rw (yes, f, end), rw (yes, f) (enter_new (map lei_of known) (lei_of t) (omega (arith, many known m t is)) ∙ sym (map-append lei_of known (t ∷ []))))
