-- The places of a record's fields, written into a list a field at a time: what the loop over the fields keeps. Assumes nothing.
use mathlib.Core.Path.{◌≡◌, refl, sym, ap, ◌∙◌}
use Rattle.std.specs.Prelude.{Option, Some, None}
use mathlib.Core.Bool.{true, false}
use mathlib.Core.List.{List, [], ◌∷◌, ◌++◌}
use Prim.Native.Nat.{ℕ, ◌+◌, ◌-◌, ◌≤◌, ◌<◌}
use native.Mathlib.Omega.{arith}
use lib.ListN.{length, take, set, length-append}
use lib.Seq.{take-nil, append_snoc}
use Rattle.lists.specs.Tables.{front}
use Rattle.rfc4180.specs.Reading.{scanned, field_at, Split, fields, malformed, push, on_piece, record_at, field_count, Scans}
use Rattle.rfc4180.specs.declared.Span.{Span}
use Rattle.rfc4180.specs.declared.Piece.{Piece}
use Rattle.rfc4180.proofs.Pieces.{FieldRead, PieceRead, field_read, reach, ahead}
use Rattle.rfc4180.proofs.Places.{record_turn, not_last}

-- fields before those of a record
abbrev prefixed : List Span → Split → Split
prefixed done (fields ss next) = fields (done ++ ss) next
prefixed done malformed = malformed

prefixed-push : (done : List Span) (s : Span) (p : Split) → prefixed done (push s p) ≡ prefixed (done ++ (s ∷ [])) p
prefixed-push done s (fields ss next) = rw append_snoc
prefixed-push done s malformed = refl

prefixed-none : (p : Split) → p ≡ prefixed [] p
prefixed-none (fields ss next) = refl
prefixed-none malformed = refl

-- the first of the fields that are done, at the front of a list as far as it reaches
unfoldable pub first_of : List Span → List Span → List Span
first_of done old = front (take (length old) done) old

first-none : (old : List Span) → first_of [] old ≡ old
unfolding first_of front
first-none old = rw take-nil

first-set : (done : List Span) (s : Span) (old : List Span) → set (first_of done old) (length done) s ≡ first_of (done ++ (s ∷ [])) old
unfolding first_of front
first-set done s [] = refl
first-set [] s (y ∷ old) = rw (take-nil (length old))
first-set (x ∷ done) s (y ∷ old) = ap (λ l. x ∷ l) (first-set done s old)

-- what the loop keeps when it comes to place i with n fields done: these and the record from there on are the one that is asked for
pub record Filling (text : List ℕ) (at : ℕ) (old now : List Span) (n i : ℕ) : Type 0 where
  pub done : List Span
  pub counted : n ≡ length done
  pub in_front : now ≡ first_of done old
  pub not_past : n ≤ i
  pub few : n ≤ length text
  pub completes : record_at text at ≡ prefixed done (record_at text i)

pub filling-none : (text : List ℕ) (at : ℕ) (old : List Span) → Filling text at old old 0 at
filling-none text at old = record {
  done = [];
  counted = refl;
  in_front = sym (first-none old);
  not_past = omega arith;
  few = omega arith;
  completes = prefixed-none (record_at text at);
}

-- a turn that finds piece p at i
module _ {text : List ℕ} {at : ℕ} {old now : List Span} {n i : ℕ} (t : Filling text at old now n i) {found : Option Piece} (e : found ≡ field_at text i) where
  turned : record_at text at ≡ prefixed t.done (on_piece found (record_at text))
  turned = t.completes ∙ rw (record_turn text i, e)

  pub filling-broken : found ≡ None → Scans (record_at text at) old now None
  filling-broken b = rw (turned, b)

  module _ {p : Piece} (b : found ≡ Some p) where
    filling_on : p.last ≡ false → (i < p.next) × (p.next ≤ length text)
    filling_on l =
        let r : PieceRead text i (Some p) = rw (sym e ∙ b) at (field_read text i) in
        let r : FieldRead text i p.span false p.next = rw l at r in
        (ahead r not_last, (reach r not_last).1)

    pub filling_less : p.last ≡ false → length text - p.next < length text - i
    filling_less l =
        let (far, near) = filling_on l in
        omega arith

    -- the field goes into the list
    module _ {now' : List Span} (put : now' ≡ set now n p.span) where
      put_first : now' ≡ first_of (t.done ++ (p.span ∷ [])) old
      put_first = put ∙ rw (t.counted, t.in_front) (first-set t.done p.span old)

      pub filling-last : length old ≡ field_count → p.last ≡ true → Scans (record_at text at) old now' (Some (scanned (n + 1) p.next))
      unfolding first_of
      filling-last room l =
          rw (turned, b, l) (rw (length-append t.done (p.span ∷ []), t.counted), rw room at put_first)

      pub filling-more : p.last ≡ false → Filling text at old now' (n + 1) p.next
      filling-more l =
          let (far, near) = filling_on l in
          record {
            done = t.done ++ (p.span ∷ []);
            counted = omega (arith, length-append t.done (p.span ∷ []), t.counted);
            in_front = put_first;
            not_past = omega (arith, t.not_past);
            few = omega (arith, t.not_past);
            completes = turned ∙ rw (b, l) (prefixed-push t.done p.span (record_at text p.next));
          }
