-- What the reader answers, by the refusals of the file and by the lengths of the lists, and what its contents are then. Assumes nothing.
use mathlib.Core.Path.{◌≡◌, refl, sym, ap, ◌∙◌}
use mathlib.Core.Logic.{◌↔◌, ◌≢◌}
use mathlib.Core.Bool.{Bool, true, false, cond}
use mathlib.Core.List.{List, [], ◌∷◌}
use Prim.Native.Nat.{ℕ, ◌≤◌}
use native.Mathlib.Omega.{arith}
use lib.ListN.{length, take, length-map}
use Rattle.lists.specs.Choice.{first_of}
use Rattle.lists.proofs.Tests.{same_or_not}
use Rattle.lists.proofs.Firsts.{first-append, first-refused, first_of-none}
use Rattle.article.specs.Answer.{Answer, make_answer}
use Rattle.proposal.specs.Submission.{priced_row, line_by}
use Rattle.proposal.proofs.Clear.{number}
use Rattle.reader.specs.File.{parsed_in, values_by, holdings_of, leis_in, submission_of, submission_in, file_faults, file_fault, answer_to, read_answer}
use Rattle.reader.specs.File.{contents_answer, make_contents, ReadsFile}
use Rattle.reader.specs.declared.Contents.{Contents}
use Rattle.refusals.specs.Refusals.{number_of}
use Rattle.refusals.specs.declared.Refusal.{Refusal}
use Rattle.proposal.specs.declared.Fault.{Fault}
use Rattle.lei.specs.declared.Lei.{Lei}
use Rattle.std.specs.Prelude.{Result, Ok, Err}
use Rattle.readable.proofs.Numbers.{none-exactly}

-- what is answered to a text, by any answer to one that is read
module _ (text : List ℕ) (two : Bool) (a : Answer) where
  pub to-refused : a.number ≡ 0 → (file_fault text).number ≢ 0 → answer_to two a text ≡ file_fault text
  unfolding answer_to file_fault
  to-refused z h =
      first-append (file_faults text) ((two, make_answer 2 0 0) ∷ []) _
      ∙ first-refused number (file_faults text) (make_answer 0 0 0) _ refl h

  pub to_none : (file_fault text).number ≡ 0 → answer_to two a text ≡ cond two (make_answer 2 0 0) a
  unfolding answer_to first_of
  to_none e = first-append (file_faults text) ((two, make_answer 2 0 0) ∷ []) _ ∙ first_of-none (file_faults text) _ ((none-exactly text).0 e)

  pub to-exactly : a.number ≡ 0 → ((answer_to two a text).number ≡ 0) ↔ (((file_fault text).number ≡ 0) × (two ≡ false))
  to-exactly zero = (
    λ e.
        same_or_not (file_fault text).number 0
        (λ z. (z, by two (sym (ap number (to_none z)) ∙ e)))
        (λ z. absurd (z (sym (ap number (to-refused zero z)) ∙ e))),
    λ h. ap number (to_none h.0) ∙ rw h.1 zero,
  )
    where
      by : (t : Bool) → number (cond t (make_answer 2 0 0) a) ≡ 0 → t ≡ false
      by true e = absurd (omega arith)
      by false e = refl

-- of the reader the number of holdings and of lines
module _ (text : List ℕ) (two : Bool) where
  abbrev counts : Answer
  counts = make_answer 0 (length (submission_in text).rows) (length (submission_in text).lines)

  pub answer-refused : (file_fault text).number ≢ 0 → read_answer two text ≡ file_fault text
  unfolding read_answer
  answer-refused h = to-refused text two counts refl h

  pub answer-none : (file_fault text).number ≡ 0 → read_answer two text ≡ cond two (make_answer 2 0 0) counts
  unfolding read_answer
  answer-none e = to_none text two counts e

  pub answer-exactly : ((read_answer two text).number ≡ 0) ↔ (((file_fault text).number ≡ 0) × (two ≡ false))
  unfolding read_answer
  answer-exactly = to-exactly text two counts refl

module _ {text : List ℕ} {rows : ℕ} {book lines book' lines' : List ℕ} {known' : List Lei} {d : Result Contents (Fault Refusal)} (from-file : ReadsFile text rows book lines book' lines' known' d) where
  -- a refusal is the file's first
  pub refusal-known : {f : Fault Refusal} → d ≡ Err f → (number_of f.refusal ≢ 0) × (file_fault text ≡ make_answer (number_of f.refusal) f.place f.second)
  refusal-known {f} e =
      let answer : make_answer (number_of f.refusal) f.place f.second ≡ read_answer false text = rw e at from-file.answer in
      let other : (read_answer false text).number ≢ 0 = rw e at from-file.contents in
      let fault : (file_fault text).number ≢ 0 = λ z. other ((answer-exactly text false).1 (z, refl)) in
      (λ z. other (sym (ap number answer) ∙ z), sym (answer-refused text false fault) ∙ sym answer)

  -- a file that was read has none, and its head and its counts are those of what is submitted
  module _ {c : Contents} (e : d ≡ Ok c) where
    answer : make_answer 0 c.holdings c.lines ≡ read_answer false text
    answer = rw e at from-file.answer

    pub was_read : (contents_answer d).number ≡ 0
    was_read = rw e

    pub no_fault : (file_fault text).number ≡ 0
    no_fault = ((answer-exactly text false).0 (sym (ap number answer))).0

    counted : make_answer 0 c.holdings c.lines ≡ counts text false
    counted = answer ∙ answer-none text false no_fault

    read : c ≡ make_contents (submission_in text).head (read_answer false text).first (read_answer false text).second (length (leis_in text))
    read = (rw e at from-file.contents).1

    pub head_read : (submission_in text).head ≡ c.head
    head_read = sym (ap (λ (c : Contents). c.head) read)

    pub leis-counted : length (leis_in text) ≡ c.corporations
    leis-counted = sym (ap (λ (c : Contents). c.corporations) read)

    -- they are in their list, no more than it holds
    pub leis-held : take c.corporations known' ≡ leis_in text
    leis-held = rw leis-counted at (from-file.each_lei was_read)

    pub few-corporations : c.corporations ≤ 256
    few-corporations = rw leis-counted at (from-file.few_leis was_read)

    pub holdings-counted : length (submission_in text).rows ≡ c.holdings
    holdings-counted = sym (ap (λ (a : Answer). a.first) counted)

    pub lines-counted : length (submission_in text).lines ≡ c.lines
    lines-counted = sym (ap (λ (a : Answer). a.second) counted)

    -- so are those of the values, which the tables hold
    pub holdings-held : length (holdings_of (parsed_in text)) ≡ c.holdings
    unfolding submission_of
    holdings-held = sym (length-map (holdings_of (parsed_in text)) priced_row) ∙ holdings-counted

    pub lines-held : length (values_by 2 (parsed_in text)) ≡ c.lines
    unfolding submission_of
    lines-held = sym (length-map (values_by 2 (parsed_in text)) line_by) ∙ lines-counted

    pub few-holdings : c.holdings ≤ rows
    few-holdings = rw holdings-held at (from-file.each_holding was_read).few

    pub few-lines : c.lines ≤ rows
    few-lines = rw lines-held at (from-file.each_line was_read).few
