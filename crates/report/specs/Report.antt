-- Document 01, "The file": the lines that are printed, as bytes. Assumes nothing.
use mathlib.Core.{Path.◌≡◌, Bool.cond, List.List, List.[], List.◌∷◌, List.◌++◌, List.flat_map}
use Rattle.std.specs.Prelude.{ℕ, ◌+◌, ◌*◌, Result, Ok, Err}
use lib.{Dec.ltb, Dec.eqb, ListN.length, ListN.get_or, ListN.take}
use Rattle.lists.specs.Tables.{front, overwrite, list_to, ascii}
use Rattle.article.specs.Answer.{Answer, make_answer}
use Rattle.refusals.specs.Refusals.{number_of}
use Rattle.refusals.specs.declared.Refusal.{Refusal}
use Rattle.refusals.specs.declared.Refusal.TheVariants.{NoRoom}
use Rattle.numerals.specs.Numerals.{digits}
use Rattle.pairing.specs.declared.Line.{Line}
use Rattle.proposal.specs.Submission.{Submission, PricedBook, priced, remainder, margin, ranked}
use Rattle.verdict.specs.Judges.{answer_of}
use Rattle.verdict.specs.declared.Verdict.{Verdict}

-- a text stands from a place on, and the next place is after it
pub record Written (text : List ℕ) (at next : ℕ) (old now : List ℕ) : Type 0 where
  pub ends : next ≡ at + length text
  pub bytes : now ≡ overwrite at text old

-- 257 lines of at most 66 bytes
abbrev pub report_room : ℕ
report_room = 257 * 66

-- the paper's number and values of each case: 0 with how many bytes were written, or the refusal's number
abbrev pub printed_answer : Result ℕ Refusal → Answer
printed_answer (Ok bytes) = make_answer 0 bytes 0
printed_answer (Err refusal) = make_answer (number_of refusal) 0 0

-- a text printed into a list: at its front, all other bytes kept, its own counted; a list that is shorter is left alone, and 2 returned
pub record Prints (text old now : List ℕ) (r : Result ℕ Refusal) : Type 0 where
  pub case : r ≡ cond (ltb (length old) (length text)) (Err NoRoom) (Ok (length text))
  pub bytes : now ≡ cond (ltb (length old) (length text)) old (front text old)

-- a number after a comma
unfoldable pub after_comma : ℕ → List ℕ
after_comma x = ascii "," ++ digits x

-- a line: a letter, its numbers, CRLF
unfoldable pub line_of : List ℕ → List ℕ → List ℕ
line_of letter numbers = letter ++ flat_map after_comma numbers ++ ascii "\r\n"

-- an answer's number and values
unfoldable pub answer_numbers : Answer → List ℕ
answer_numbers a = a.number ∷ a.first ∷ a.second ∷ []

-- `X`, number, place, second place
unfoldable pub refusal_line : Answer → List ℕ
refusal_line a = line_of (ascii "X") (answer_numbers a)

-- M: units, cents
unfoldable pub margin_line : Answer → List ℕ
margin_line a = line_of (ascii "M") (a.first ∷ a.second ∷ [])

-- R: holding, remainder in cents, its units
unfoldable pub remainder_line : ℕ → ℕ → ℕ → List ℕ
remainder_line holding cents units = line_of (ascii "R") (holding ∷ cents ∷ units ∷ [])

-- accepted, the M line and after it an R line for each holding in an order; a refusal prints one line
unfoldable pub printed_lines : Answer → (ℕ → List ℕ) → List ℕ → List ℕ
printed_lines a line order = cond (eqb a.number 0) (margin_line a ++ flat_map line order) (refusal_line a)

-- the R line of a holding with so many lines on its book: its remainder, and the margin of it
unfoldable pub book_line : PricedBook → List Line → ℕ → List ℕ
book_line b lines k = remainder_line k (remainder b lines k) (margin b lines k)

-- what is printed of a submission and its answer: R in ranking order
unfoldable pub printed_of : Submission → Answer → List ℕ
printed_of s a = printed_lines a (book_line (priced s) s.lines) (ranked (priced s) s.lines)

-- the R line of a number in lists of remainders and of their margins, past which nothing remains
unfoldable pub judged_line : List ℕ → List ℕ → ℕ → List ℕ
judged_line left margins k = remainder_line k (get_or left k 0) (get_or margins k 0)

-- what is printed of a verdict on so many holdings, at most 256, with their lists
unfoldable pub report_of : Verdict → ℕ → List ℕ → List ℕ → List ℕ → List ℕ
report_of v count left margins ranks = printed_lines (answer_of v) (judged_line left margins) (take count (list_to 256 (λ k. get_or ranks k 0)))
