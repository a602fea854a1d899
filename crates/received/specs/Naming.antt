-- THE PAGE OF THE EXPORTED LEIS. Document 02 d), the LEIs of the corporations of a file in the order of their numbers. Assumes nothing.
use mathlib.Core.{Path.◌≡◌, Logic.◌↔◌, Bool.Bool, Bool.cond, Bool.◌||◌, List.List, List.[], List.◌∷◌, List.◌++◌}
use Rattle.std.specs.Prelude.{ℕ, ◌+◌, ◌*◌, ◌≤◌, ◌<◌}
use lib.{Dec.ltb, Dec.eqb, ListN.length, ListN.take, ListN.drop}
use Rattle.lists.specs.Tables.{front}
use Rattle.article.specs.Answer.{Answer, make_answer}
use Rattle.proposal.specs.Submission.{Submission}
use Rattle.lei.specs.Lei.{lei_text}
use Rattle.lei.specs.declared.Lei.{Lei}
use Rattle.lent.specs.Boundary.{Answers}
use Rattle.reader.specs.File.{submission_in, leis_in, answer_to}
use Rattle.readable.specs.Readable.{Submits, text_at, number_at}

-- the texts of LEIs, one after another
unfoldable pub lei_texts : List Lei → List ℕ
lei_texts [] = []
lei_texts (x ∷ xs) = lei_text x ++ lei_texts xs

-- 2 a list of fewer than 20 bytes for each LEI, or an answer slice of fewer than 16
unfoldable pub leis_too_short : ℕ → ℕ → ℕ → Bool
leis_too_short count leis slice = ltb leis (20 * count) || ltb slice 16

-- neither: what is lent has the room
pub record LeisRoom (count leis slice : ℕ) : Type 0 where
  pub each : 20 * count ≤ leis
  pub answer : 16 ≤ slice

-- what is answered of a text and of what is lent: the first refusal in the reader's order, or 0 with the number of LEIs
unfoldable pub naming_answer : List ℕ → List ℕ → List ℕ → Answer
naming_answer text leis slice = answer_to (leis_too_short (length (leis_in text)) (length leis) (length slice)) (make_answer 0 (length (leis_in text)) 0) text

-- what goes into the list: on a refusal nothing
unfoldable pub naming : List ℕ → List ℕ → List ℕ → List ℕ
naming text leis slice = cond (eqb (naming_answer text leis slice).number 0) (lei_texts (leis_in text)) []

-- what the exported function promises of a text and of what is lent, before and after, and of the number that it returns
module _ (text leis leis' slice slice' : List ℕ) (r : ℕ) where
  pub record Names : Type 0 where
    -- the refusal number, 0 for none, is returned; the number of LEIs and 0, or the place, stand in the answer slice
    pub returned : Answers (naming_answer text leis slice) slice slice' r
    -- the LEIs in the order of their numbers; bytes past them keep what they held
    pub written : leis' ≡ front (naming text leis slice) leis
    -- a refusal writes none
    pub untouched : (r ≡ 0 → ⊥) → leis' ≡ leis
    -- of a file that is read, the 20 bytes at 20 k are the LEI, as the file has it, of every holding of the issuer of number 100 + k
    pub lei : r ≡ 0 → (s : Submission) (h : Submits text s) (i k : ℕ) → i < length s.rows → number_at s.rows i ≡ 100 + k → take 20 (drop (20 * k) leis') ≡ text_at h.holdings i
    -- and they are as many as it has corporations
    pub many : r ≡ 0 → (s : Submission) (h : Submits text s) → (naming_answer text leis slice).first ≡ length h.leis
    -- written exactly when the text is a file that submits something, and what is lent has the room
    pub exactly : (r ≡ 0) ↔ (Submits text (submission_in text) × LeisRoom (length (leis_in text)) (length leis) (length slice))
