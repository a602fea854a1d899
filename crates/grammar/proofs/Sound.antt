-- Sound: a record that is read is a record of the grammar, and a text from which only such are read is a file. Assumes nothing.
use mathlib.Core.Path.{◌≡◌, refl, sym, ap, ◌∙◌}
use mathlib.Core.Bool.{true, false}
use mathlib.Core.List.{List, [], ◌∷◌, ◌++◌, map, append_assoc, append-nil}
use Prim.Native.Nat.{ℕ, ◌<◌}
use native.Mathlib.Omega.{arith}
use lib.ListN.{length, drop, length-append, length-drop, drop_of_length-le}
use Rattle.lists.proofs.Tests.{by_end}
use Rattle.rfc4180.specs.Grammar.{Record, one, more, File, none, last, line}
use Rattle.rfc4180.specs.Reading.{part, Split, fields, malformed, record_at, formed, records_at, records_of}
use Rattle.rfc4180.specs.declared.Span.{Span}
use Rattle.rfc4180.proofs.Pieces as pieces
use Rattle.rfc4180.proofs.Pieces.{Ending}
use Rattle.rfc4180.proofs.Places.{Reads, final, another, record_reads, records_end, records_broken, records_next}

-- a record that was read at place i: its text, what ends it, and where the next one starts
pub record RecordRead (text : List ℕ) (i : ℕ) (ss : List Span) (next : ℕ) : Type 0 where
  pub whole : List ℕ
  pub mark : List ℕ
  pub derived : Record whole (map (part text) ss)
  pub ending : Ending true mark (drop next text)
  pub here : drop i text ≡ whole ++ (mark ++ drop next text)

comma-mark : {mark rest : List ℕ} → Ending false mark rest → mark ≡ 0x2C ∷ []
comma-mark pieces.comma = refl

reads_sound : {text : List ℕ} {i next : ℕ} {ss : List Span} → Reads text i ss next → RecordRead text i ss next
reads_sound (final r) = record {
  whole = r.whole;
  mark = r.mark;
  derived = rw r.handed (one r.derived);
  ending = r.ending;
  here = r.here;
}
reads_sound (another r rs) =
    let q = reads_sound rs in
    record {
      whole = r.whole ++ 0x2C ∷ q.whole;
      mark = q.mark;
      derived = rw r.handed (more r.derived q.derived);
      ending = q.ending;
      here = r.here ∙ rw (comma-mark r.ending, q.here) (sym (append_assoc r.whole (0x2C ∷ q.whole) _));
    }

pub record_sound : (text : List ℕ) (i : ℕ) (ss : List Span) (next : ℕ) → record_at text i ≡ fields ss next → RecordRead text i ss next
record_sound text i ss next e = reads_sound (record_reads text ss i next e)

-- no bytes are no record
no_bytes : (t : List ℕ) → length t ≡ 0 → t ≡ []
no_bytes [] z = refl
no_bytes (c ∷ t) z = absurd (omega arith)

file-empty : {t : List ℕ} {rs : List (List (List ℕ))} → File t rs → length t ≡ 0 → rs ≡ []
file-empty none z = refl
file-empty (last {t} r ne) z = absurd (ne (no_bytes t z))
file-empty (line {t} {s} r f) z = absurd (omega (arith, length-append t (0x0D ∷ 0x0A ∷ s)))

-- a record before a file, with what ends it
file-more : {w mark rest : List ℕ} {fs : List (List ℕ)} {rs : List (List (List ℕ))} → Ending true mark rest → Record w fs → File rest rs
    → 0 < length (w ++ (mark ++ rest)) → File (w ++ (mark ++ rest)) (fs ∷ rs)
file-more pieces.line r f l = line r f
file-more {w} pieces.end r f l = rw (file-empty f refl, append-nil w) (last r (λ e. omega (arith, ap length e, length-append w [])))

module _ (text : List ℕ) where
  records_sound : (rs : List (List (List ℕ))) (i : ℕ) → records_at text i ≡ map formed rs → File (drop i text) rs
  records_sound [] =
      by_end (λ (k : ℕ). records_at text k ≡ [] → File (drop k text) []) (length text)
      (λ k h e. go k h (record_at text k) refl e)
      (λ k h e. rw (drop_of_length-le text h) none)
    where
      go : (k : ℕ) → k < length text → (p : Split) → record_at text k ≡ p → records_at text k ≡ [] → File (drop k text) []
      go k h (fields ss next) p e = let z = sym e ∙ records_next text k h p in absurd cc
      go k h malformed p e = let z = sym e ∙ records_broken text k h p in absurd cc
  records_sound (fs ∷ rs) =
      by_end (λ (k : ℕ). records_at text k ≡ formed fs ∷ map formed rs → File (drop k text) (fs ∷ rs)) (length text)
      (λ k h e. go k h (record_at text k) refl e (records_sound rs))
      (λ k h e. let z = sym e ∙ records_end text k h in absurd cc)
    where
      go : (k : ℕ) → k < length text → (p : Split) → record_at text k ≡ p → records_at text k ≡ formed fs ∷ map formed rs
          → ((n : ℕ) → records_at text n ≡ map formed rs → File (drop n text) rs) → File (drop k text) (fs ∷ rs)
      go k h (fields ss next) p e f =
          let z = sym (records_next text k h p) ∙ e in
          let a : map (part text) ss ≡ fs = cc in
          let b : records_at text next ≡ map formed rs = cc in
          let r = record_sound text k ss next p in
          rw r.here (file-more r.ending (rw a at r.derived) (f next b) (omega (arith, ap length r.here, length-drop k text)))
      go k h malformed p e f = let z = sym e ∙ records_broken text k h p in absurd cc

-- a text from which well-formed records are read is a file that has them
pub file_sound : (text : List ℕ) (rs : List (List (List ℕ))) → records_of text ≡ map formed rs → File text rs
unfolding records_of
file_sound text rs e = records_sound text rs 0 e
