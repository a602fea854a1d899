-- RFC 4180's grammar line by line beside its ABNF. A field also has the text that is handed back: enclosing quotes dropped. Assumes nothing.
use mathlib.Core.{Bool.Bool, Bool.◌||◌, Bool.true, Path.◌≡◌, List.List, List.[], List.◌∷◌, List.◌++◌}
use Rattle.std.specs.Prelude.{ℕ, eqb}
use Rattle.lists.specs.Choice.{within}

-- TEXTDATA = %x20-21 / %x23-2B / %x2D-7E
unfoldable pub is_text : ℕ → Bool
is_text c = within 0x20 0x21 c || within 0x23 0x2B c || within 0x2D 0x7E c

-- TEXTDATA / COMMA / CR / LF, where COMMA = %x2C, CR = %x0D, LF = %x0A
unfoldable pub is_quotable : ℕ → Bool
is_quotable c = eqb c 0x2C || eqb c 0x0D || eqb c 0x0A || is_text c

-- *TEXTDATA
pub data TextRun : List ℕ → Type 0 where
  no_text : TextRun []
  text_data : {c : ℕ} {s : List ℕ} → is_text c ≡ true → TextRun s → TextRun (c ∷ s)

-- *(TEXTDATA / COMMA / CR / LF / 2DQUOTE)                 DQUOTE = %x22
pub data QuotedRun : List ℕ → Type 0 where
  no_quoted : QuotedRun []
  quoted : {c : ℕ} {s : List ℕ} → is_quotable c ≡ true → QuotedRun s → QuotedRun (c ∷ s)
  doubled : {s : List ℕ} → QuotedRun s → QuotedRun (0x22 ∷ 0x22 ∷ s)

-- field = (escaped / non-escaped)
-- escaped = DQUOTE *(TEXTDATA / COMMA / CR / LF / 2DQUOTE) DQUOTE
-- non-escaped = *TEXTDATA
pub data Field : List ℕ → List ℕ → Type 0 where
  escaped : {t : List ℕ} → QuotedRun t → Field (0x22 ∷ (t ++ 0x22 ∷ [])) t
  non_escaped : {t : List ℕ} → TextRun t → Field t t

-- record = field *(COMMA field)                           COMMA = %x2C
pub data Record : List ℕ → List (List ℕ) → Type 0 where
  one : {t f : List ℕ} → Field t f → Record t (f ∷ [])
  more : {t f s : List ℕ} {fs : List (List ℕ)} → Field t f → Record s fs → Record (t ++ 0x2C ∷ s) (f ∷ fs)

-- file = [header CRLF] record *(CRLF record) [CRLF]       CRLF = %x0D %x0A
-- with no header, and no bytes being no record: *(record CRLF) [record], where a last record that no CRLF ends is not empty
pub data File : List ℕ → List (List (List ℕ)) → Type 0 where
  none : File [] []
  last : {t : List ℕ} {fs : List (List ℕ)} → Record t fs → (t ≡ [] → ⊥) → File t (fs ∷ [])
  line : {t s : List ℕ} {fs : List (List ℕ)} {rs : List (List (List ℕ))} → Record t fs → File s rs → File (t ++ 0x0D ∷ 0x0A ∷ s) (fs ∷ rs)
