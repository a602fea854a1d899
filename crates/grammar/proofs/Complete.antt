-- Complete: a record of the grammar is read where it stands, and a file of the grammar record by record. Assumes nothing.
use mathlib.Core.Path.{◌≡◌, refl, sym, ap, ◌∙◌}
use Rattle.std.specs.Prelude.{Option, Some}
use mathlib.Core.Bool.{Bool, true, false, false≢true}
use mathlib.Core.List.{List, [], ◌∷◌, ◌++◌, map, append_assoc, append-nil}
use Prim.Native.Nat.{ℕ, ◌+◌, ◌<◌}
use native.Mathlib.Omega.{arith}
use borrow.Author.Tests.{ne_eqb}
use lib.Dec.{eqb}
use lib.ListN.{length, drop, length-append, length-drop}
use Rattle.lists.specs.Choice.{within}
use Rattle.rfc4180.specs.Grammar.{is_text, is_quotable, TextRun, no_text, text_data, QuotedRun, no_quoted, quoted, doubled, escaped, non_escaped, Record, one, more, File, none, last, line}
use Rattle.rfc4180.specs.Grammar as G
use Rattle.rfc4180.specs.Reading.{span, piece, part, text_from, text_end, close_from, close_at, followed_by, followed, begins, opens, enclosed, field_at}
use Rattle.rfc4180.specs.Reading.{fields, record_at, Read, formed, records_at, records_of}
use Rattle.rfc4180.specs.declared.Span.{Span}
use Rattle.rfc4180.specs.declared.Piece.{Piece}
use Rattle.rfc4180.proofs.Scan.{close_cons}
use Rattle.rfc4180.proofs.Pieces.{Ending, comma, end, after, part_of}
use Rattle.rfc4180.proofs.Pieces as pieces
use Rattle.rfc4180.proofs.Places.{record_turn, records_end, records_next}

-- what may follow a field: it is no TEXTDATA, no quote, and is read as what it is
text-ends : {b : Bool} {mark rest : List ℕ} → Ending b mark rest → (i : ℕ) → text_from i (mark ++ rest) ≡ i
unfolding text_from is_text within
text-ends comma i = refl
text-ends pieces.line i = refl
text-ends end i = refl

close_ends : {b : Bool} {mark rest : List ℕ} → Ending b mark rest → (i : ℕ) → close_from i (0x22 ∷ (mark ++ rest)) ≡ Some i
unfolding close_from
close_ends comma i = refl
close_ends pieces.line i = refl
close_ends end i = refl

opens_not : {b : Bool} {mark rest : List ℕ} → Ending b mark rest → begins 0x22 (mark ++ rest) ≡ false
unfolding begins
opens_not comma = refl
opens_not pieces.line = refl
opens_not end = refl

ends : {b : Bool} {mark rest : List ℕ} → Ending b mark rest → (s : Span) (i : ℕ) → followed_by s i (mark ++ rest) ≡ Some (piece s b (i + length mark))
unfolding followed_by begins
ends comma s i = refl
ends pieces.line s i = refl
ends end s i =
    let z : i + 0 ≡ i = omega arith in
    rw z

-- a quote is neither TEXTDATA nor quotable
no_quote : (test : ℕ → Bool) → test 0x22 ≡ false → (c : ℕ) → test c ≡ true → eqb c 0x22 ≡ false
no_quote test q c t = ne_eqb c 0x22 (λ e. false≢true (sym q ∙ rw (← e) t))

quote_no_text : is_text 0x22 ≡ false
unfolding is_text within
quote_no_text = refl

quote_not_quotable : is_quotable 0x22 ≡ false
unfolding is_quotable is_text within
quote_not_quotable = refl

opens_quote : (l : List ℕ) → begins 0x22 (0x22 ∷ l) ≡ true
unfolding begins
opens_quote l = refl

-- what is read of a list that stands at place i
module _ (text : List ℕ) (i : ℕ) (l : List ℕ) (d : drop i text ≡ l) where
  text-on : {n : ℕ} → text_from i l ≡ n → text_end text i ≡ n
  unfolding text_end
  text-on e = rw d e

  close_on : {f : Option ℕ} → close_from i l ≡ f → close_at text i ≡ f
  unfolding close_at
  close_on e = rw d e

  opens-on : {o : Bool} → begins 0x22 l ≡ o → opens text i ≡ o
  unfolding opens
  opens-on e = rw d e

  followed-on : (s : Span) {p : Option Piece} → followed_by s i l ≡ p → followed text s i ≡ p
  unfolding followed
  followed-on s e = rw d e

module _ {b : Bool} {mark rest : List ℕ} (w : Ending b mark rest) where
  text-whole : {t : List ℕ} → TextRun t → (i : ℕ) → text_from i (t ++ (mark ++ rest)) ≡ i + length t
  unfolding text_from
  text-whole no_text i = text-ends w i ∙ omega arith
  text-whole (text_data {c} {s} e h) i = rw e (text-whole h (i + 1) ∙ omega arith)

  opens-text : {t : List ℕ} → TextRun t → begins 0x22 (t ++ (mark ++ rest)) ≡ false
  unfolding begins
  opens-text no_text = opens_not w
  opens-text (text_data {c} e h) = no_quote is_text quote_no_text c e

  close_whole : {t : List ℕ} → QuotedRun t → (i : ℕ) → close_from i (t ++ 0x22 ∷ (mark ++ rest)) ≡ Some (i + length t)
  unfolding close_from
  close_whole no_quoted i = close_ends w i ∙ ap Some (omega arith)
  close_whole (quoted {c} {s} e h) i =
      close_cons i c (s ++ 0x22 ∷ (mark ++ rest)) ∙ rw (no_quote is_quotable quote_not_quotable c e, e) (close_whole h (i + 1) ∙ ap Some (omega arith))
  close_whole (doubled h) i = close_whole h (i + 2) ∙ ap Some (omega arith)

  module _ (text : List ℕ) (i : ℕ) where
    -- a field of the grammar is read where it stands
    pub field_complete : {t f : List ℕ} → G.Field t f → drop i text ≡ t ++ (mark ++ rest)
        → (s : Span) × (field_at text i ≡ Some (piece s b (i + length t + length mark))) × (part text s ≡ f)
    unfolding field_at enclosed
    field_complete (non_escaped {t} h) d =
        let e = i + length t in
        let follows = followed-on text e (mark ++ rest) (after text i t (mark ++ rest) d e refl) (span i e) (ends w (span i e) e) in (
          span i e,
          rw (opens-on text i _ d (opens-text h), text-on text i _ d (text-whole h i)) follows,
          part_of text i t (mark ++ rest) d e refl,
        )
    field_complete (escaped {t} h) d =
        let e = i + 1 + length t in
        let whole : List ℕ = 0x22 ∷ (t ++ 0x22 ∷ []) in
        let n : e + 1 ≡ i + length whole = omega (arith, length-append t (0x22 ∷ [])) in
        let inner : drop (i + 1) text ≡ t ++ 0x22 ∷ (mark ++ rest) =
        after text i (0x22 ∷ []) (t ++ 0x22 ∷ (mark ++ rest)) (d ∙ ap (λ l. 0x22 ∷ l) (append_assoc t (0x22 ∷ []) (mark ++ rest))) (i + 1) refl in
        let follows = followed-on text (e + 1) (mark ++ rest) (after text i whole (mark ++ rest) d (e + 1) n) (span (i + 1) e) (ends w (span (i + 1) e) (e + 1)) in (
          span (i + 1) e,
          rw (opens-on text i _ d (opens_quote _), close_on text (i + 1) _ inner (close_whole h (i + 1)), ← n) follows,
          part_of text (i + 1) t (0x22 ∷ (mark ++ rest)) inner e refl,
        )

-- a record of the grammar is read where it stands, up to what follows it
module _ (text : List ℕ) {mark rest : List ℕ} (w : Ending true mark rest) where
  pub record_complete : {t : List ℕ} {fs : List (List ℕ)} → Record t fs → (i next : ℕ) → drop i text ≡ t ++ (mark ++ rest) → next ≡ i + length t + length mark
      → (ss : List Span) × (record_at text i ≡ fields ss next) × (map (part text) ss ≡ fs)
  record_complete (one d) i next e n =
      let (s, read, handed) = field_complete w text i d e in
      (s ∷ [], record_turn text i ∙ rw (read, n), rw handed)
  record_complete (more {t} {s} d ds) i next e n =
      let there : drop i text ≡ t ++ 0x2C ∷ (s ++ (mark ++ rest)) = e ∙ append_assoc t (0x2C ∷ s) (mark ++ rest) in
      let j = i + length t + 1 in
      let later : drop j text ≡ s ++ (mark ++ rest) =
      after text (i + length t) (0x2C ∷ []) (s ++ (mark ++ rest)) (after text i t (0x2C ∷ (s ++ (mark ++ rest))) there (i + length t) refl) j refl in
      let (x, read, handed) = field_complete comma text i d there in
      let (ss, reads, all) = record_complete ds j next later (n ∙ omega (arith, length-append t (0x2C ∷ s))) in
      (x ∷ ss, record_turn text i ∙ rw (read, reads), rw (handed, all))

some_byte : (t : List ℕ) → (t ≡ [] → ⊥) → 0 < length t
some_byte [] h = absurd (h refl)
some_byte (c ∷ t) h = omega arith

module _ (text : List ℕ) where
  -- a record that stands at i, and those after it
  records-more : {t mark rest : List ℕ} {fs : List (List ℕ)} {later : List Read} → Ending true mark rest → Record t fs → (i : ℕ)
      → drop i text ≡ t ++ (mark ++ rest) → 0 < length t + length mark
      → ((next : ℕ) → drop next text ≡ rest → records_at text next ≡ later) → records_at text i ≡ formed fs ∷ later
  records-more {t} {mark} {rest} w r i d h f =
      let next = i + length t + length mark in
      let (ss, read, handed) = record_complete text w r i next d refl in
      let inside : i < length text = omega (arith, ap length d, length-append t (mark ++ rest), length-append mark rest, length-drop i text) in
      let there : drop next text ≡ rest = after text (i + length t) mark rest (after text i t (mark ++ rest) d (i + length t) refl) next refl in
      records_next text i inside read ∙ rw (handed, f next there)

  records-none : (i : ℕ) → drop i text ≡ [] → records_at text i ≡ []
  records-none i d = records_end text i (omega (arith, ap length d, length-drop i text))

  records_complete : {t : List ℕ} {rs : List (List (List ℕ))} → File t rs → (i : ℕ) → drop i text ≡ t → records_at text i ≡ map formed rs
  records_complete none i d = records-none i d
  records_complete (last {t} r ne) i d =
      records-more end r i (d ∙ sym (append-nil t)) (omega (arith, some_byte t ne)) records-none
  records_complete (line r f) i d = records-more pieces.line r i d (omega arith) (λ n e. records_complete f n e)

-- a file of the grammar is read as its records
pub file_complete : (text : List ℕ) (rs : List (List (List ℕ))) → File text rs → records_of text ≡ map formed rs
unfolding records_of
file_complete text rs f = records_complete text f 0 refl

-- and so it has no other records
pub file_unique : (text : List ℕ) (rs rs' : List (List (List ℕ))) → File text rs → File text rs' → rs ≡ rs'
file_unique text rs rs' f g = formed-same rs rs' (sym (file_complete text rs f) ∙ file_complete text rs' g)
  where
    formed-same : (xs ys : List (List (List ℕ))) → map formed xs ≡ map formed ys → xs ≡ ys
    formed-same [] [] e = refl
    formed-same [] (y ∷ ys) e = absurd cc
    formed-same (x ∷ xs) [] e = absurd cc
    formed-same (x ∷ xs) (y ∷ ys) e =
        let a : x ≡ y = cc in
        let b : map formed xs ≡ map formed ys = cc in
        rw (a, formed-same xs ys b)

-- no bytes are no record, and a line end alone is a record of one empty field
pub no_bytes-read : records_of [] ≡ []
no_bytes-read = file_complete [] [] none

pub line-end-read : records_of (0x0D ∷ 0x0A ∷ []) ≡ formed ([] ∷ []) ∷ []
line-end-read = file_complete (0x0D ∷ 0x0A ∷ []) (([] ∷ []) ∷ []) (line (one (non_escaped no_text)) none)
