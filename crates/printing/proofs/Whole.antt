-- A file that is refused, and one that is read and checked, are printed as the page says. Assumes nothing.
use mathlib.Core.Path.{◌≡◌, refl, sym, ap, ◌∙◌}
use mathlib.Core.Bool.{false}
use mathlib.Core.Logic.{◌↔◌, ◌≢◌}
use mathlib.Core.List.{List, ◌++◌}
use Prim.Native.Nat.{ℕ, ◌*◌, ◌≤◌, ◌<◌}
use Rattle.std.proofs.Common.{Result, Ok, Err}
use native.Mathlib.Omega.{arith}
use lib.ListN.{length, get_or, take}
use borrow.Author.Tests.{eq-eqb, ne_eqb}
use Rattle.lists.specs.Tables.{ascii}
use Rattle.lists.proofs.Tables.{get_or-to}
use Rattle.lists.proofs.Tests.{same_or_not}
use Rattle.article.specs.Answer.{Answer, make_answer}
use Rattle.proposal.specs.Submission.{Submission, priced, remainder, remainders_of}
use Rattle.proposal.specs.Outcome.{outcome}
use Rattle.proposal.specs.Demands.{Acceptable}
use Rattle.proposal.proofs.Clear.{number}
use Rattle.proposal.proofs.Demands.{demands}
use Rattle.columns.specs.Columns.{submission}
use Rattle.reader.specs.File.{parsed_in, values_by, holdings_of, submission_of, submission_in, file_fault, ReadsFile}
use Rattle.reader.specs.declared.Contents.{Contents}
use Rattle.readable.specs.Readable.{Submits}
use Rattle.readable.proofs.Exactly.{read-exactly}
use Rattle.readable.proofs.Fitting.{file-fits}
use Rattle.readable.proofs.Answered.{refusal-known, was_read, no_fault, head_read, holdings-held, lines-held, few-holdings, few-lines}
use Rattle.verdict.specs.Judges.{outcome_in}
use Rattle.verdict.proofs.Judged.{all-ranked}
use Rattle.report.specs.Report.{line_of, refusal_line, margin_line, remainder_line, printed_lines, book_line, printed_of, report_room, Prints}
use Rattle.refusals.specs.Refusals.{number_of}
use Rattle.refusals.specs.declared.Refusal.{Refusal}
use Rattle.proposal.specs.declared.Fault.{Fault}
use Rattle.lei.specs.declared.Lei.{Lei}
use Rattle.report.proofs.Judged.{ranked-texts}
use Rattle.report.proofs.Prints.{prints-written, prints-too_short}
use Rattle.printing.specs.Printed.{file_answer, printed, holding_line, PrintsColumns, columns_of, TablesHold, PrintsFigures, PrintsFile}
use Rattle.printing.proofs.Columns.{tables_even, tables_submitted}

-- M is printed for the number 0, and X for any other
begins_when : (s : Submission) (a : Answer) → (take 1 (printed_of s a) ≡ ascii "M") ↔ (a.number ≡ 0)
unfolding printed_of printed_lines margin_line refusal_line line_of
begins_when s a = (
  λ b.
      same_or_not a.number 0 (λ z. z) (λ z.
      let other = rw (ne_eqb a.number 0 z) at b in
      let first : 0x58 ≡ 0x4D = ap (λ (l : List ℕ). get_or l 0 0) other in
      absurd (omega arith)),
  λ z. rw (eq-eqb a.number 0 z),
)

-- what remains of a holding is printed as the list of remainders has it
same_line : (s : Submission) (k : ℕ) → k < (priced s).count → book_line (priced s) s.lines k ≡ holding_line s k
unfolding book_line remainder_line holding_line remainders_of
same_line s k h = rw (get_or-to (priced s).count (remainder (priced s) s.lines) k 0 h)

module _ (text : List ℕ) where
  -- the answer by the reader's refusals
  answer-refused : (file_fault text).number ≢ 0 → file_answer text ≡ file_fault text
  unfolding file_answer
  answer-refused h = rw (ne_eqb (file_fault text).number 0 h)

  answer_checked : (file_fault text).number ≡ 0 → file_answer text ≡ outcome false false (submission_in text)
  unfolding file_answer
  answer_checked e = rw e

  abbrev s : Submission
  s = submission_in text

  -- the file of an accepted answer was read
  answer-read : (file_answer text).number ≡ 0 → (file_fault text).number ≡ 0
  answer-read e = same_or_not (file_fault text).number 0 (λ z. z) (λ z. absurd (z (sym (ap number (answer-refused z)) ∙ e)))

  accepted_when : ((file_answer text).number ≡ 0) ↔ (Submits text s × Acceptable s)
  accepted_when =
      let file = (read-exactly text).read in
      let check = (demands false false s).exactly in (
        λ e. (file.0 (answer-read e), (check.0 (sym (ap number (answer_checked (answer-read e))) ∙ e)).1),
        λ h. ap number (answer_checked (file.1 h.0)) ∙ check.1 ((refl, refl), h.1),
      )

  figures-printed : (file_answer text).number ≡ 0 → PrintsFigures s (printed text)
  unfolding printed printed_of printed_lines margin_line
  figures-printed e = record {
    units = (file_answer text).first;
    cents = (file_answer text).second;
    keeps = rw (← e, answer_checked (answer-read e)) (demands false false s);
    lines = rw (eq-eqb (file_answer text).number 0 e) (ap (margin_line (file_answer text) ++◌) (ranked-texts s _ _ (same_line s)));
  }

  promised : {before after : List ℕ} {r : Result ℕ Refusal} → Prints (printed text) before after r → length (printed text) ≤ report_room → PrintsFile text before after r
  unfolding printed
  promised p few =
      let begins = begins_when s (file_answer text) in
      record {
        prints = p;
        written = prints-written p;
        too_short = prints-too_short p;
        room = few;
        exactly = (λ b. accepted_when.0 (begins.0 b), λ h. begins.1 (accepted_when.1 h));
        figures = λ b. figures-printed (begins.0 b);
        order = all-ranked s;
        only = (read-exactly text).only;
      }

  module _ {book lines book' lines' : List ℕ} {known' : List Lei} {d : Result Contents (Fault Refusal)} (from-file : ReadsFile text 512 book lines book' lines' known' d) where
    pub refused_printed : {f : Fault Refusal} {before after : List ℕ} {r : Result ℕ Refusal} → d ≡ Err f
        → (let line = refusal_line (make_answer (number_of f.refusal) f.place f.second) in Prints line before after r × (length line ≤ report_room)) → PrintsFile text before after r
    unfolding printed printed_of printed_lines
    refused_printed {f} e (p, few) =
        let (other, fault) = refusal-known from-file e in
        let n : ℕ = number_of f.refusal in
        let a : Answer = make_answer n f.place f.second in
        let same : file_answer text ≡ a = answer-refused (λ z. other (sym (ap number fault) ∙ z)) ∙ fault in
        let line : printed text ≡ refusal_line a = rw (same, ne_eqb n 0 other) in
        promised (rw line p) (rw line few)

    -- tables that the file was read into
    module _ {c : Contents} (e : d ≡ Ok c) (whole : length book ≡ 8 * (512 * 8)) (whole_lines : length lines ≡ 8 * (512 * 3)) where
      pub tables_hold : TablesHold c.holdings c.lines book' lines'
      tables_hold = record {
        few-holdings = few-holdings from-file e;
        few-lines = few-lines from-file e;
        whole_book = (from-file.each_holding (was_read from-file e)).long ∙ whole;
        whole_lines = (from-file.each_line (was_read from-file e)).long ∙ whole_lines;
      }

      pub checked_printed : {before after : List ℕ} {r : Result ℕ Refusal} → PrintsColumns c.head (columns_of c.holdings c.lines book' lines') before after r → PrintsFile text before after r
      unfolding printed outcome_in submission_of
      checked_printed p =
          let read = was_read from-file e in
          let holds : submission c.head (columns_of c.holdings c.lines book' lines') ≡ submission_in text =
          rw (← head_read from-file e)
          (tables_submitted c.holdings c.lines book' lines' _ (holdings_of (parsed_in text)) (values_by 2 (parsed_in text)) (from-file.each_holding read) (from-file.each_line read)
          (holdings-held from-file e) (lines-held from-file e) (file-fits text (no_fault from-file e))) in
          let same : printed_of (submission c.head (columns_of c.holdings c.lines book' lines')) (outcome_in false c.head (columns_of c.holdings c.lines book' lines')) ≡ printed text =
          rw (answer_checked (no_fault from-file e), tables_even c.holdings c.lines book' lines' tables_hold, holds) in
          promised (rw same at p.prints) (rw same at p.room)
