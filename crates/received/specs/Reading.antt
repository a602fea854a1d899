-- THE PAGE OF THE EXPORTED READER. Document 01, "The reader fills lent columns, or leaves them untouched", and document 02 b), the valuation date, and e), the letter. Assumes nothing.
use mathlib.Core.{Path.◌≡◌, Logic.◌↔◌, Bool.cond, List.List, List.[], List.◌∷◌}
use Rattle.std.specs.Prelude.{ℕ, ◌<◌}
use lib.{Dec.eqb, ListN.length, ListN.get_or}
use Rattle.article.specs.Answer.{Answer}
use Rattle.proposal.specs.Submission.{Submission, no_row, no_line}
use Rattle.words.specs.Words.{word_at}
use Rattle.holding.specs.Holding.{head_numbers, head_by}
use Rattle.columns.specs.Columns.{Columns, column, lists_of, filled, RowAt, LineAt}
use Rattle.sizes.specs.Sizes.{Room, too_short}
use Rattle.lent.specs.Boundary.{Answers}
use Rattle.reader.specs.File.{submission_in, read_answer}
use Rattle.readable.specs.Readable.{Submits}

-- what the lists are to hold of a submission: the head's list an entry for each of its numbers, and the columns theirs
unfoldable pub held_lists : Submission → List ℕ → Columns → List (ℕ × ℕ)
held_lists s head c = (length (head_numbers s.head), length head) ∷ lists_of s c

-- what the reader answers: the first refusal in its order, or 0 with the number of holdings and of lines
unfoldable pub reading_answer : List ℕ → List ℕ → Columns → List ℕ → Answer
reading_answer text head c slice = read_answer (too_short (held_lists (submission_in text) head c) (length slice)) text

-- what goes into the columns, and into the head's list: on a refusal nothing
abbrev pub nothing : Submission
nothing = record { head = head_by []; rows = []; prices = []; lines = [] }

unfoldable pub filling : List ℕ → List ℕ → Columns → List ℕ → Submission
filling text head c slice = cond (eqb (reading_answer text head c slice).number 0) (submission_in text) nothing

unfoldable pub heading : List ℕ → List ℕ → Columns → List ℕ → List ℕ
heading text head c slice = cond (eqb (reading_answer text head c slice).number 0) (head_numbers (submission_in text).head) []

-- what the exported reader promises of a text and of what is lent, before and after, and of the number that it returns
module _ (text head head' : List ℕ) (before after : Columns) (slice slice' : List ℕ) (r : ℕ) where
  pub record Reads : Type 0 where
    -- the refusal number, 0 for none, is returned; the number of holdings and of lines, or the place, stand in the answer slice
    pub returned : Answers (reading_answer text head before slice) slice slice' r
    -- the columns of the holdings, and of the lines; a refusal leaves them untouched, and entries past what they are to hold keep what they held
    pub columns : after ≡ filled (filling text head before slice) before
    -- the valuation date and the account's letter go into the first two entries of the head's list, in the same way
    pub valued : head' ≡ column (heading text head before slice) head
    -- a refusal writes to none
    pub untouched : (r ≡ 0 → ⊥) → (after ≡ before) × (head' ≡ head)
    -- of a file that is read, the valuation date, the letter, each holding's numbers with its price, and each line's, stand at their entries
    pub date : r ≡ 0 → word_at head' 0 ≡ (submission_in text).head.date
    pub letter : r ≡ 0 → word_at head' 1 ≡ (submission_in text).head.letter
    pub holding : r ≡ 0 → (k : ℕ) → k < length (submission_in text).rows → RowAt after.holdings k (get_or (submission_in text).rows k no_row)
    pub price : r ≡ 0 → (k : ℕ) → k < length (submission_in text).rows → word_at after.price k ≡ get_or (submission_in text).prices k 0
    pub line : r ≡ 0 → (k : ℕ) → k < length (submission_in text).lines → LineAt after.lines k (get_or (submission_in text).lines k no_line)
    -- read exactly when it is a file that submits a book and a proposal, and the lists hold them
    pub exactly : (r ≡ 0) ↔ (Submits text (submission_in text) × Room (held_lists (submission_in text) head before) (length slice))
    -- what a text submits is one submission
    pub only : (s : Submission) → Submits text s → s ≡ submission_in text
