-- A file that was read is what the definitions say: refused, or read to its end. Assumes nothing.
use mathlib.Core.Path.{◌≡◌, refl, sym, ap, ◌∙◌}
use mathlib.Core.Logic.{◌≢◌}
use mathlib.Core.Bool.{false}
use mathlib.Core.List.{List, []}
use Prim.Native.Nat.{ℕ, ◌≤◌, ◌<◌}
use native.Mathlib.Omega.{arith}
use lib.ListN.{length, take, drop, length-drop, length-map}
use lib.Seq.{take_all, length-take-le}
use borrow.Author.Tests.{eq-eqb, ne_eqb, lt-ltb, le-ltb}
use Rattle.lists.specs.Choice.{first_of}
use Rattle.lists.proofs.Firsts.{first-append, skip_none}
use Rattle.lists.proofs.Passed.{passed-all}
use Rattle.holding.specs.declared.Head.{Head}
use Rattle.article.specs.Answer.{make_answer}
use Rattle.std.specs.Prelude.{Option, Ok, Err}
use Rattle.refusals.specs.Refusals.{number_of}
use Rattle.refusals.specs.declared.Refusal.{Refusal}
use Rattle.refusals.proofs.Refusals.{number-from_1}
use Rattle.proposal.specs.Outcome.{make_fault}
use Rattle.proposal.specs.declared.Fault.{Fault}
use Rattle.rfc4180.proofs.Places.{records_end}
use Rattle.layout.specs.Layout.{Meaning}
use Rattle.lei.specs.declared.Lei.{Lei}
use Rattle.reader.specs.File.{parsed_in, values_by, holdings_of, leis_of, leis_in, submission_of, file_limit, file_faults, answer_to, read_answer, make_contents, ReadsFile}
use Rattle.reader.proofs.Reading.{Reading, Refuses}
use Rattle.reader.proofs.Numbering.{length-numbered, leis-few}

-- a refusal
pub too_long_lem : (text : List ℕ) → file_limit < length text → Refuses text (make_answer 18 0 0)
unfolding file_faults first_of
too_long_lem text h w = rw (lt-ltb file_limit (length text) h)

pub no_record : (text : List ℕ) → length text ≤ file_limit → length text ≡ 0 → Refuses text (make_answer 22 0 0)
unfolding file_faults first_of
no_record text short none w = rw (le-ltb file_limit (length text) short, eq-eqb (length text) 0 none)

pub contents-refused : (text : List ℕ) {rows : ℕ} {book lines book' lines' : List ℕ} {known' : List Lei} (refusal : Refusal) (place : ℕ) → Refuses text (make_answer (number_of refusal) place 0)
    → {f : Fault Refusal} → f ≡ make_fault refusal place 0 → ReadsFile text rows book lines book' lines' known' (Err f)
unfolding read_answer answer_to
contents-refused text refusal place r e =
    let found : read_answer false text ≡ make_answer (number_of refusal) place 0 = first-append (file_faults text) _ _ ∙ r _ in
    let other : number_of refusal ≢ 0 = λ z. omega (arith, number-from_1 refusal) in
    rw e
    (record {
      answer = sym found;
      contents = rw found other;
      each_holding = λ z. absurd (other z);
      each_line = λ z. absurd (other z);
      each_lei = λ z. absurd (other z);
      few_leis = λ z. absurd (other z);
    })

-- all records are read
module _ {text : List ℕ} {rows : ℕ} {book lines book' lines' : List ℕ} {known₀ known : List Lei} {before : Option ℕ} {head : Head} {holdings pairs corporations n i : ℕ}
    (r : Reading text rows book lines known₀ book' lines' known before head holdings pairs corporations n i)
    (end : length text ≤ i) (short : length text ≤ file_limit) (some : length text ≡ 0 → ⊥) where
  none_left : length (parsed_in text) ≤ n
  none_left =
      let none : drop n (parsed_in text) ≡ [] = sym r.passing.rest ∙ rw (records_end text i end) in
      omega (arith, length-drop n (parsed_in text), ap (λ (l : List Meaning). length l) none)

  all : take n (parsed_in text) ≡ parsed_in text
  all = take_all n (parsed_in text) none_left

  counts : read_answer false text ≡ make_answer 0 holdings pairs
  unfolding read_answer answer_to file_faults first_of submission_of
  counts =
      skip_none (file_faults text) _ _ (le-ltb file_limit (length text) short, (ne_eqb (length text) 0 some, passed-all r.passing.passed none_left))
      ∙ simp length-map (rw (r.each_holding.counted, r.each_line.counted, all))

  -- the LEIs that are known are those of all
  listed : take corporations known ≡ leis_in text
  listed = rw all at r.each_lei.listed

  listed-all : length (leis_in text) ≡ corporations
  listed-all = sym (ap (λ (ks : List Lei). length ks) listed) ∙ length-take-le corporations known r.each_lei.inside

  listed-few : length (leis_in text) ≤ 256
  unfolding holdings_of leis_of
  listed-few =
      let values : length (values_by 1 (parsed_in text)) ≡ holdings = sym (r.each_holding.counted ∙ rw all (length-numbered [] (values_by 1 (parsed_in text)))) in
      omega (arith, r.each_holding.few, leis-few [] (values_by 1 (parsed_in text)))

  pub contents-read : ReadsFile text rows book lines book' lines' known (Ok (make_contents head holdings pairs corporations))
  unfolding submission_of
  contents-read = record {
    answer = sym counts;
    contents = rw (counts, r.headed, all, listed-all) (refl, refl);
    each_holding = λ z. rw all at r.each_holding.entered;
    each_line = λ z. rw all at r.each_line.entered;
    each_lei = λ z. rw listed-all listed;
    few_leis = λ z. listed-few;
  }
