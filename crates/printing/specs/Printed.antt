-- THE PAGE OF THE PROGRAM: what `margin` prints, from the bytes of the file to the bytes that are printed. Assumes nothing.
use mathlib.Core.{Path.◌≡◌, Logic.◌↔◌, Bool.cond, Bool.false, List.List, List.[], List.◌∷◌, List.◌++◌, List.flat_map}
use Rattle.std.specs.Prelude.{ℕ, ◌-◌, ◌*◌, ◌≤◌, ◌<◌, Result}
use lib.{Dec.eqb, ListN.length, ListN.get_or, ListN.take}
use Rattle.lists.specs.Tables.{ascii, front}
use Rattle.article.specs.Answer.{Answer, make_answer}
use Rattle.proposal.specs.{Submission.Submission, Submission.priced, Submission.margin, Submission.remainders_of, Submission.ranked, Submission.InRankingOrder, Outcome.outcome, Demands.Acceptable}
use Rattle.proposal.specs.Demands.{Demands}
use Rattle.rfc4180.specs.Reading.{field_count}
use Rattle.reader.specs.File.{submission_in, file_fault}
use Rattle.readable.specs.Readable.{Submits}
use Rattle.holding.specs.declared.Head.{Head}
use Rattle.columns.specs.Columns.{Columns, make_columns, submission, column_in}
use Rattle.verdict.specs.Judges.{outcome_in}
use Rattle.report.specs.Report.{line_of, printed_of, report_room, Prints, printed_answer}
use Rattle.refusals.specs.declared.Refusal.{Refusal}

-- what is printed of a head and columns: the lines of what they submit, by its outcome, where nothing else is lent; they are no longer than a report can be
pub record PrintsColumns (h : Head) (c : Columns) (before after : List ℕ) (r : Result ℕ Refusal) : Type 0 where
  pub prints : Prints (printed_of (submission h c) (outcome_in false h c)) before after r
  pub room : length (printed_of (submission h c) (outcome_in false h c)) ≤ report_room

-- the columns of the first n holdings and the first m lines of two tables, and tables that hold them
abbrev pub columns_of : ℕ → ℕ → List ℕ → List ℕ → Columns
columns_of n m book lines =
    let held : ℕ → List ℕ = column_in 512 n book in
    let lined : ℕ → List ℕ = column_in 512 m lines in
    make_columns (held 0 ∷ held 1 ∷ held 2 ∷ held 3 ∷ held 4 ∷ held 6 ∷ held 7 ∷ []) (held 5) (lined 0 ∷ lined 1 ∷ lined 2 ∷ [])

pub record TablesHold (n m : ℕ) (book lines : List ℕ) : Type 0 where
  pub few-holdings : n ≤ 512
  pub few-lines : m ≤ 512
  pub whole_book : length book ≡ 8 * (512 * (field_count - 1))
  pub whole_lines : length lines ≡ 8 * (512 * 3)

-- the answer to a file: the reader's refusal with its place; or, of what the file submits, the figures or the check's refusal with its places
unfoldable pub file_answer : List ℕ → Answer
file_answer text = cond (eqb (file_fault text).number 0) (outcome false false (submission_in text)) (file_fault text)

-- the bytes that are printed: accepted, M with units and cents, and R for each holding in ranking order; refused, X with number and places
unfoldable pub printed : List ℕ → List ℕ
printed text = printed_of (submission_in text) (file_answer text)

-- R: holding, remainder in cents, its units
unfoldable pub holding_line : Submission → ℕ → List ℕ
holding_line s k = line_of (ascii "R") (k ∷ get_or (remainders_of (priced s) s.lines) k 0 ∷ margin (priced s) s.lines k ∷ [])

-- bytes that print figures of a submission: M with units and cents, which keep the demands on an accepted answer, then R in ranking order
pub record PrintsFigures (s : Submission) (bytes : List ℕ) : Type 0 where
  pub units : ℕ
  pub cents : ℕ
  pub keeps : Demands s false false (make_answer 0 units cents)
  pub lines : bytes ≡ line_of (ascii "M") (units ∷ cents ∷ []) ++ flat_map (holding_line s) (ranked (priced s) s.lines)

-- what printing a file promises of the lent list, before and after, and of what is returned
module _ (text before after : List ℕ) (r : Result ℕ Refusal) where
  pub record PrintsFile : Type 0 where
    -- the bytes stand at the front of the list, all others are kept, and they are counted; or the list is too short
    pub prints : Prints (printed text) before after r
    -- a list that holds the bytes is written: 0 and how many they are, with the bytes at its front and all others kept
    pub written : length (printed text) ≤ length before → (printed_answer r ≡ make_answer 0 (length (printed text)) 0) × (after ≡ front (printed text) before)
    -- a list that is shorter is refused with 2, and left alone
    pub too_short : length before < length (printed text) → (printed_answer r ≡ make_answer 2 0 0) × (after ≡ before)
    -- 257 lines of at most 66 bytes hold whatever is printed
    pub room : length (printed text) ≤ 257 * 66
    -- they begin with M exactly when the file submits a book and a proposal in the paper's words, and they are acceptable
    pub exactly : (take 1 (printed text) ≡ ascii "M") ↔ (Submits text (submission_in text) × Acceptable (submission_in text))
    -- the units and cents that they then print are the least margin of what is submitted, rounded once
    pub figures : take 1 (printed text) ≡ ascii "M" → PrintsFigures (submission_in text) (printed text)
    -- the ranking has every holding once, by margin of the remainder, largest first, ties by lower number
    pub order : InRankingOrder (priced (submission_in text)) (submission_in text).lines
    -- what a text submits is one submission
    pub only : (s : Submission) → Submits text s → s ≡ submission_in text
