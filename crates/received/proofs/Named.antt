-- From what was read of a text to what is promised of the LEIs that are written. Assumes nothing.
use mathlib.Core.Path.{◌≡◌, refl, sym, ap, ◌∙◌}
use mathlib.Core.Logic.{◌↔◌, ◌≢◌}
use mathlib.Core.Bool.{Bool, true, false, cond}
use mathlib.Core.List.{List, []}
use Prim.Native.Nat.{ℕ, ◌+◌, ◌*◌, ◌≤◌, ◌<◌}
use Rattle.std.proofs.Common.{Result, Ok, Err}
use native.Mathlib.Omega.{arith}
use lib.Dec.{ltb, eqb}
use lib.ListN.{length, get_or, take, drop, length-map}
use borrow.Author.Tests.{ne_eqb, le-ltb, ltb-false}
use Rattle.lists.specs.Tables.{front}
use Rattle.lists.proofs.Tables.{get_or-map_in}
use Rattle.lists.proofs.Tests.{neither}
use Rattle.article.specs.Answer.{Answer, make_answer}
use Rattle.proposal.specs.Submission.{Submission}
use Rattle.proposal.proofs.Clear.{number}
use Rattle.lei.specs.declared.Lei.{Lei}
use Rattle.lei.specs.Lei.{no_lei, lei_text}
use Rattle.refusals.specs.Refusals.{number_of}
use Rattle.refusals.specs.declared.Refusal.{Refusal}
use Rattle.proposal.specs.declared.Fault.{Fault}
use Rattle.lent.specs.Boundary.{Answers}
use Rattle.reader.specs.File.{submission_in, leis_in, ReadsFile}
use Rattle.reader.specs.declared.Contents.{Contents}
use Rattle.readable.specs.Readable.{Submits, text_at, number_at}
use Rattle.readable.proofs.Answered.{to-refused, to_none, to-exactly, refusal-known, no_fault, leis-counted, leis-held}
use Rattle.readable.proofs.Exactly.{read-exactly}
use Rattle.received.specs.Naming.{lei_texts, leis_too_short, LeisRoom, naming_answer, naming, Names}
use Rattle.received.proofs.Written.{text-read}

-- a text, the list for its LEIs, and an answer slice
module _ (text leis slice : List ℕ) where
  abbrev keys : List Lei
  keys = leis_in text

  abbrev counted : Answer
  counted = make_answer 0 (length keys) 0

  abbrev pub short : Bool
  short = leis_too_short (length keys) (length leis) (length slice)

  abbrev Room : Type 0
  Room = LeisRoom (length keys) (length leis) (length slice)

  room-exactly : (short ≡ false) ↔ Room
  unfolding leis_too_short
  room-exactly = (
    λ e.
        let (a, b) = neither (ltb (length leis) (20 * length keys)) (ltb (length slice) 16) e in
        record { each = ltb-false (length leis) (20 * length keys) a; answer = ltb-false (length slice) 16 b },
    λ h. rw (le-ltb (length leis) (20 * length keys) h.each, le-ltb (length slice) 16 h.answer),
  )

  written_when : ((naming_answer text leis slice).number ≡ 0) ↔ (Submits text (submission_in text) × Room)
  unfolding naming_answer
  written_when =
      let both = to-exactly text short counted refl in
      let file = (read-exactly text).read in
      (λ e. (file.0 (both.0 e).0, room-exactly.0 (both.0 e).1), λ h. both.1 (file.1 h.0, room-exactly.1 h.1))

  -- on a refusal nothing is written
  naming_by : {t : Bool} → eqb (naming_answer text leis slice).number 0 ≡ t → naming text leis slice ≡ cond t (lei_texts keys) []
  unfolding naming
  naming_by e = ap (λ (read : Bool). cond read (lei_texts keys) []) e

  none_front : leis ≡ front [] leis
  unfolding front
  none_front = refl

  refused : (a : Answer) (slice' : List ℕ) (r : ℕ) → naming_answer text leis slice ≡ a → a.number ≢ 0 → Answers a slice slice' r → Names text leis leis slice slice' r
  refused a slice' r e h t =
      let not-zero : eqb (naming_answer text leis slice).number 0 ≡ false = rw e (ne_eqb a.number 0 h) in
      let not-read : r ≢ 0 = λ z. h (sym t.number ∙ z) in
      record {
        returned = rw e t;
        written = rw (naming_by not-zero) none_front;
        untouched = λ _. refl;
        lei = λ z. absurd (not-read z);
        many = λ z. absurd (not-read z);
        exactly = rw (t.number ∙ sym (ap number e)) written_when;
      }

  -- an LEI is read back where its number says
  read_back : {leis' : List ℕ} → leis' ≡ front (lei_texts keys) leis → (s : Submission) (h : Submits text s) (i k : ℕ) → i < length s.rows → number_at s.rows i ≡ 100 + k
      → take 20 (drop (20 * k) leis') ≡ text_at h.holdings i
  unfolding front
  read_back e s h i k l n =
      let named = (read-exactly text).lei s h i k l n in
      let all = (read-exactly text).leis s h in
      let inside : k < length keys = omega (arith, named.inside, ap (λ (ts : List (List ℕ)). length ts) all, length-map keys lei_text) in
      rw e (text-read keys k _ inside)
      ∙ sym (named.here ∙ ap (λ (ts : List (List ℕ)). get_or ts k []) all ∙ get_or-map_in lei_text keys k no_lei [] inside)

  module _ {rows : ℕ} {book lines book' lines' : List ℕ} {known' : List Lei} {d : Result Contents (Fault Refusal)} (from-file : ReadsFile text rows book lines book' lines' known' d) where
    pub record_refused : {f : Fault Refusal} (slice' : List ℕ) (r : ℕ) → d ≡ Err f → Answers (make_answer (number_of f.refusal) f.place f.second) slice slice' r → Names text leis leis slice slice' r
    unfolding naming_answer
    record_refused {f} slice' r e t =
        let (other, fault) = refusal-known from-file e in
        refused (make_answer (number_of f.refusal) f.place f.second) slice' r (to-refused text short counted refl (λ z. other (sym (ap number fault) ∙ z)) ∙ fault) other t

    -- nothing is refused
    module _ {c : Contents} (e : d ≡ Ok c) where
      -- the list is measured for what the text has
      pub measured : {two : Bool} → two ≡ leis_too_short c.corporations (length leis) (length slice) → two ≡ short
      measured t = t ∙ rw (← leis-counted from-file e)

      module _ {two : Bool} (same : two ≡ short) where
        pub list_refused : (slice' : List ℕ) (r : ℕ) → two ≡ true → Answers (make_answer 2 0 0) slice slice' r → Names text leis leis slice slice' r
        unfolding naming_answer
        list_refused slice' r t answered =
            refused (make_answer 2 0 0) slice' r (to_none text short counted (no_fault from-file e) ∙ rw (sym same ∙ t)) (λ w. omega arith) answered

        module _ (fits : two ≡ false) where
          pub put_room : 20 * c.corporations ≤ length leis
          put_room = omega (arith, leis-counted from-file e, (room-exactly.0 (sym same ∙ fits)).each)

          pub all_named : {leis' : List ℕ} (slice' : List ℕ) (r : ℕ) → leis' ≡ front (lei_texts (take c.corporations known')) leis
              → Answers (make_answer 0 c.corporations 0) slice slice' r → Names text leis leis' slice slice' r
          unfolding naming_answer
          all_named {leis'} slice' r put answered =
              let whole : naming_answer text leis slice ≡ make_answer 0 c.corporations 0 =
              to_none text short counted (no_fault from-file e) ∙ rw (sym same ∙ fits, leis-counted from-file e) in
              let zero : eqb (naming_answer text leis slice).number 0 ≡ true = rw whole in
              let texts : leis' ≡ front (lei_texts keys) leis = put ∙ rw (leis-held from-file e) in
              record {
                returned = rw whole answered;
                written = rw (naming_by zero) texts;
                untouched = λ h. absurd (h answered.number);
                lei = λ _. read_back texts;
                many = λ _ s h.
                    ap (λ (a : Answer). a.first) whole
                    ∙ sym (ap (λ (ts : List (List ℕ)). length ts) ((read-exactly text).leis s h) ∙ length-map keys lei_text ∙ leis-counted from-file e);
                exactly = rw (answered.number ∙ sym (ap number whole)) written_when;
              }
