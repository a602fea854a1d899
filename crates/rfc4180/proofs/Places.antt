-- Records at places of a text: one turn after another, and what the code hands back of one. Assumes nothing.
use mathlib.Core.Path.{◌≡◌, refl, sym, ap, ◌∙◌}
use Rattle.std.specs.Prelude.{Option, Some, None}
use mathlib.Core.Bool.{Bool, true, false, cond, false≢true}
use mathlib.Core.List.{List, [], ◌∷◌, map}
use Prim.Native.Nat.{ℕ, ◌≤◌, ◌<◌, min}
use native.Mathlib.Omega.{arith}
use borrow.Author.Tests.{lt-ltb, le-ltb, ltb-true}
use lib.Dec.{ltb}
use lib.ListN.{length, get_or, take, length-take, length-map, get_or-eq_default, get_or-append}
use lib.Seq.{take_all, get_or-take, ext_get_or}
use Rattle.lists.specs.Tables.{list_to, front}
use Rattle.lists.proofs.Tables.{length_to, get_or-to, get_or-map_in}
use Rattle.rfc4180.specs.Reading.{span, scanned, part, field_at, Split, fields, malformed, push, on_piece, fields_from, record_at, Read, formed, broken, on_split, records_from, records_at}
use Rattle.rfc4180.specs.Reading.{field_count, Scans, texts_of, texts_in, HandsBack}
use Rattle.rfc4180.specs.declared.Span.{Span}
use Rattle.rfc4180.specs.declared.Piece.{Piece}
use Rattle.rfc4180.specs.declared.Scanned.{Scanned}
use Rattle.rfc4180.proofs.Turns.{unbounded}
use Rattle.rfc4180.proofs.Pieces.{FieldRead, PieceRead, field_read, reach, ahead}

-- a field that is not the last
pub not_last : {A : Type 0} → false ≡ true → A
not_last e = absurd (false≢true e)

-- a record that begins with a field
pushed : (s : Span) (p : Split) {l : List Span} {next : ℕ} → push s p ≡ fields l next → (ss : List Span) × (l ≡ s ∷ ss) × (p ≡ fields ss next)
pushed s (fields ss next) e = (ss, cc, cc)
pushed s malformed e = absurd cc

module _ (text : List ℕ) where
  -- reading on from a field asks only of places further on, and in the text
  onward : (g h : ℕ → Split) (i : ℕ) → ((j : ℕ) → i < j → j ≤ length text → g j ≡ h j) → (p : Option Piece) → PieceRead text i p → on_piece p g ≡ on_piece p h
  onward g h i e (Some p) r = by p.last refl
    where
      by : (b : Bool) → p.last ≡ b → cond b (fields (p.span ∷ []) p.next) (push p.span (g p.next)) ≡ cond b (fields (p.span ∷ []) p.next) (push p.span (h p.next))
      by true l = refl
      by false l =
          let t : FieldRead text i p.span false p.next = rw l at r in
          ap (push p.span) (e p.next (ahead t not_last) (reach t not_last).1)
  onward g h i e None r = refl

  -- a record is a field, alone or before those that are read from the next place
  pub record_turn : (i : ℕ) → record_at text i ≡ on_piece (field_at text i) (record_at text)
  unfolding record_at fields_from
  record_turn =
      unbounded (length text) (fields_from text) (λ g i. on_piece (field_at text i) g) (λ k i. refl)
      (λ g h i e. onward g h i e (field_at text i) (field_read text i))

  -- a record that was read, field by field
  pub data Reads : ℕ → List Span → ℕ → Type 0 where
    final : {i next : ℕ} {s : Span} → FieldRead text i s true next → Reads i (s ∷ []) next
    another : {i j next : ℕ} {s : Span} {ss : List Span} → FieldRead text i s false j → Reads j ss next → Reads i (s ∷ ss) next

  pub record_reads : (ss : List Span) (i next : ℕ) → record_at text i ≡ fields ss next → Reads i ss next
  record_reads [] i next e = go (field_at text i) (sym (record_turn i) ∙ e)
    where
      by : (p : Piece) (b : Bool) → cond b (fields (p.span ∷ []) p.next) (push p.span (record_at text p.next)) ≡ fields [] next → Reads i [] next
      by p true e = absurd cc
      by p false e =
          let (ss, a, b) = pushed p.span (record_at text p.next) e in
          absurd cc

      go : (p : Option Piece) → on_piece p (record_at text) ≡ fields [] next → Reads i [] next
      go (Some p) e = by p p.last e
      go None e = absurd cc
  record_reads (x ∷ ss) i next e = go (field_at text i) (field_read text i) (sym (record_turn i) ∙ e) (λ n. record_reads ss n next)
    where
      by : (p : Piece) (b : Bool) → FieldRead text i p.span b p.next → cond b (fields (p.span ∷ []) p.next) (push p.span (record_at text p.next)) ≡ fields (x ∷ ss) next
          → ((n : ℕ) → record_at text n ≡ fields ss next → Reads n ss next) → Reads i (x ∷ ss) next
      by p true r e f =
          let a : x ∷ ss ≡ p.span ∷ [] = cc in
          let b : next ≡ p.next = cc in
          rw (a, b) (final r)
      by p false r e f =
          let (ts, a, b) = pushed p.span (record_at text p.next) e in
          let c : x ≡ p.span = cc in
          let d : ts ≡ ss = cc in
          rw c (another r (f p.next (b ∙ rw d)))

      go : (p : Option Piece) → PieceRead text i p → on_piece p (record_at text) ≡ fields (x ∷ ss) next
          → ((n : ℕ) → record_at text n ≡ fields ss next → Reads n ss next) → Reads i (x ∷ ss) next
      go (Some p) r e f = by p p.last r e f
      go None r e f = absurd cc

  reads_reach : {i next : ℕ} {ss : List Span} → Reads i ss next → i ≤ length text → (i ≤ next) × (next ≤ length text)
  reads_reach (final r) h = reach r (λ e. h)
  reads_reach (another r rs) h =
      let (a, b) = reach r (λ e. h) in
      let (c, d) = reads_reach rs b in
      (omega arith, d)

  reads_ahead : {i next : ℕ} {ss : List Span} → Reads i ss next → i < length text → i < next
  reads_ahead (final r) h = ahead r (λ e. h)
  reads_ahead (another r rs) h =
      let a = ahead r (λ e. h) in
      let b = (reads_reach rs (reach r not_last).1).0 in
      omega arith

  -- the next record starts further on, and in the text
  pub progress : (i : ℕ) (ss : List Span) (next : ℕ) → i < length text → record_at text i ≡ fields ss next → (i < next) × (next ≤ length text)
  progress i ss next h e =
      let r = record_reads ss i next e in
      (reads_ahead r h, (reads_reach r (omega arith)).1)

  -- and so does reading on from a record
  later : (g h : ℕ → List Read) (i : ℕ) → ((j : ℕ) → i < j → j ≤ length text → g j ≡ h j) → (p : Split) → record_at text i ≡ p → (b : Bool) → ltb i (length text) ≡ b
      → cond b (on_split text p g) [] ≡ cond b (on_split text p h) []
  later g h i e (fields ss next) p true b =
      let (l, m) = progress i ss next (ltb-true i (length text) b) p in
      ap (λ rs. formed (map (part text) ss) ∷ rs) (e next l m)
  later g h i e malformed p true b = refl
  later g h i e p q false b = refl

  records_turn : (i : ℕ) → records_at text i ≡ cond (ltb i (length text)) (on_split text (record_at text i) (records_at text)) []
  unfolding records_at records_from
  records_turn =
      unbounded (length text) (records_from text) (λ g i. cond (ltb i (length text)) (on_split text (record_at text i) g) []) (λ k i. refl)
      (λ g h i e. later g h i e (record_at text i) refl (ltb i (length text)) refl)

  module _ (i : ℕ) where
    pub records_end : length text ≤ i → records_at text i ≡ []
    records_end h = records_turn i ∙ rw (le-ltb i (length text) h)

    pub records_broken : i < length text → record_at text i ≡ malformed → records_at text i ≡ broken ∷ []
    records_broken h e = records_turn i ∙ rw (lt-ltb i (length text) h, e)

    pub records_next : {ss : List Span} {next : ℕ} → i < length text → record_at text i ≡ fields ss next → records_at text i ≡ formed (map (part text) ss) ∷ records_at text next
    records_next h e = records_turn i ∙ rw (lt-ltb i (length text) h, e)

-- the first n entries of a list, as a table of n that has the list's as far as it goes
take-listed : {A : Type 0} (d : A) (n : ℕ) (f : ℕ → A) (xs : List A) → ((k : ℕ) → k < n → k < length xs → f k ≡ get_or xs k d)
    → take (length xs) (list_to n f) ≡ take n xs
take-listed d n f xs h =
    ext_get_or d (take (length xs) (list_to n f)) (take n xs) (simp (length-take, length_to) (omega arith))
    (λ k q.
    let r = simp (length-take, length_to) at q in
    let a : k < n = omega arith in
    let b : k < length xs = omega arith in
    get_or-take (length xs) (list_to n f) k d b ∙ get_or-to n f k d a ∙ h k a b ∙ sym (get_or-take n xs k d a))

-- where a field stands, by a list that has the places of the first n at its front
placed : (n : ℕ) (ss old : List Span) (k : ℕ) (s : Span) → k < n → k < length ss → get_or (front (take n ss) old) k s ≡ get_or ss k s
unfolding front
placed n ss old k s a b =
    get_or-append (take n ss) _ s k (simp length-take (omega arith)) ∙ get_or-take n ss k s a

-- a record that was counted is in the grammar, with as many fields
pub scanned_fields : (p : Split) (old now : List Span) {r : Option Scanned} {t : Scanned} → Scans p old now r → r ≡ Some t
    → (ss : List Span) × (p ≡ fields ss t.next) × (length ss ≡ t.count)
scanned_fields (fields ss next) old now {t = t} s e =
    let same : scanned (length ss) next ≡ t = cc in
    (ss, rw (← same), rw (← same))
scanned_fields malformed old now s e = absurd cc

-- one that was found malformed is outside it
pub scanned_malformed : (p : Split) (old now : List Span) {r : Option Scanned} → Scans p old now r → r ≡ None → p ≡ malformed
scanned_malformed (fields ss next) old now s e = absurd cc
scanned_malformed malformed old now s e = refl

module _ (text : List ℕ) where
  -- the texts by the places of a record that was counted are those of its first fields
  pub scanned_texts : (p : Split) (old spans : List Span) {r : Option Scanned} {count next : ℕ} → Scans p old spans r → r ≡ Some (scanned count next)
      → texts_in text count spans ≡ take field_count (texts_of text p)
  unfolding texts_in
  scanned_texts (fields ss n) old spans {count = count} {next = next} (r, a) e =
      let same : scanned (length ss) n ≡ scanned count next = cc in
      let long : count ≡ length (map (part text) ss) = simp length-map (ap (λ (s : Scanned). s.count) (sym same)) in
      rw long
      (take-listed [] field_count (λ k. part text (get_or spans k (span 0 0))) (map (part text) ss)
      (λ k h q.
      let m : k < length ss = simp length-map at q in
      rw (a, placed field_count ss old k (span 0 0) h m)
      (sym (get_or-map_in (part text) ss k (span 0 0) [] m))))
  scanned_texts malformed old spans s e = absurd cc

  -- field_count fields are all in the list
  module _ (p : Split) (old spans : List Span) (r : Option Scanned) {ss : List Span} {next : ℕ} (s : Scans p old spans r) (is : p ≡ fields ss next) where
    pub counted-texts : {count : ℕ} → length ss ≡ count → count ≡ field_count → texts_in text count spans ≡ map (part text) ss
    counted-texts counted whole =
        let t = rw is at s in
        rw counted at (scanned_texts (fields ss next) old spans t t.0)
        ∙ take_all field_count (map (part text) ss) (simp length-map (omega arith))

-- the text of a field by its number
module _ (text : List ℕ) (count : ℕ) (spans : List Span) (k : ℕ) where
  hands_back : {r : List ℕ} → r ≡ get_or (texts_in text count spans) k [] → HandsBack text count spans k r
  hands_back e = record {
    by_places = e;
    of_record = λ at next old s. e ∙ ap (λ l. get_or l k []) (scanned_texts text (record_at text at) old spans s refl);
  }

  pub hands_part : {r : List ℕ} → k < min count field_count → r ≡ part text (get_or spans k (span 0 0)) → HandsBack text count spans k r
  unfolding texts_in
  hands_part h e = hands_back (e ∙ sym (get_or-take count (list_to field_count _) k [] (omega arith) ∙ get_or-to field_count _ k [] (omega arith)))

  pub hands_none : min count field_count ≤ k → HandsBack text count spans k []
  unfolding texts_in
  hands_none h = hands_back (sym (get_or-eq_default (texts_in text count spans) [] (simp (length-take, length_to) (omega arith))))
