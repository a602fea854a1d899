-- Records read from a text by places, which the code promises; the crate `grammar` shows that they are those of `Grammar`. Assumes nothing.
use mathlib.Core.{Path.◌≡◌, Bool.Bool, Bool.true, Bool.false, Bool.cond, Bool.◌&&◌, List.List, List.[], List.◌∷◌, List.map}
use Rattle.std.specs.Prelude.{ℕ, zero, suc, ◌+◌, ◌-◌, Option, Some, None}
use lib.{Dec.ltb, Dec.eqb, ListN.length, ListN.get_or, ListN.take, ListN.drop}
use Rattle.lists.specs.Tables.{list_to, front}
use Rattle.rfc4180.specs.Grammar.{is_text, is_quotable}
use Rattle.rfc4180.specs.declared.{Span.Span, Piece.Piece, Scanned.Scanned}

-- from a place to another
abbrev pub span : ℕ → ℕ → Span
span start end = record { start = start; end = end }

-- a field at a span with what follows it: whether it is its record's last, and where the next field or record starts
abbrev pub piece : Span → Bool → ℕ → Piece
piece s last next = record { span = s; last = last; next = next }

-- a record that was counted, and where the next one starts
abbrev pub scanned : ℕ → ℕ → Scanned
scanned count next = record { count = count; next = next }

-- the bytes of a text from one place to another
unfoldable pub part : List ℕ → Span → List ℕ
part text s = take (s.end - s.start) (drop s.start text)

-- where the TEXTDATA ends with which a list begins that stands at place i
unfoldable pub text_from : ℕ → List ℕ → ℕ
text_from i [] = i
text_from i (c ∷ s) = cond (is_text c) (text_from (i + 1) s) i

-- where the TEXTDATA from place i on ends
unfoldable pub text_end : List ℕ → ℕ → ℕ
text_end text i = text_from i (drop i text)

-- the first DQUOTE that no DQUOTE follows, in a list that stands at place i; before it, pairs of them and what may be quoted
unfoldable pub close_from : ℕ → List ℕ → Option ℕ
close_from i [] = None
close_from i (c ∷ []) = cond (eqb c 0x22) (Some i) None
close_from i (c ∷ d ∷ s) =
    let pair = close_from (i + 2) s in
    let on = close_from (i + 1) (d ∷ s) in
    cond (eqb c 0x22) (cond (eqb d 0x22) pair (Some i)) (cond (is_quotable c) on None)

-- the DQUOTE that closes a field whose text starts at place i
unfoldable pub close_at : List ℕ → ℕ → Option ℕ
close_at text i = close_from i (drop i text)

-- whether a list begins with a byte
unfoldable pub begins : ℕ → List ℕ → Bool
begins b [] = false
begins b (c ∷ s) = eqb c b

-- a field that ended at place i, where a list stands: a comma and another field, a line end, the text's end; nothing else may follow
unfoldable pub followed_by : Span → ℕ → List ℕ → Option Piece
followed_by s i [] = Some (piece s true i)
followed_by s i (c ∷ l) = cond (eqb c 0x2C) (Some (piece s false (i + 1))) (cond (eqb c 0x0D && begins 0x0A l) (Some (piece s true (i + 2))) None)

-- a field that ended at place i of a text, with what follows it there
unfoldable pub followed : List ℕ → Span → ℕ → Option Piece
followed text s i = followed_by s i (drop i text)

-- whether a DQUOTE stands at place i
unfoldable pub opens : List ℕ → ℕ → Bool
opens text i = begins 0x22 (drop i text)

-- the field whose text starts at place i, up to the quote that closes it
unfoldable pub enclosed : List ℕ → ℕ → Option ℕ → Option Piece
enclosed text i (Some e) = followed text (span i e) (e + 1)
enclosed text i None = None

-- the field at place i, in quotes or not, with what follows it
unfoldable pub field_at : List ℕ → ℕ → Option Piece
field_at text i =
    let inQuotes = enclosed text (i + 1) (close_at text (i + 1)) in
    let plain = followed text (span i (text_end text i)) (text_end text i) in
    cond (opens text i) inQuotes plain

-- a record as the places of its fields and the place where the next record starts, or one outside the grammar
pub data Split : Type 0 where
  fields : List Span → ℕ → Split
  malformed : Split

-- a field before those of a record
abbrev pub push : Span → Split → Split
push s (fields ss next) = fields (s ∷ ss) next
push s malformed = malformed

-- a field alone, or before those that are read from the next place
abbrev pub on_piece : Option Piece → (ℕ → Split) → Split
on_piece (Some p) more = cond p.last (fields (p.span ∷ []) p.next) (push p.span (more p.next))
on_piece None more = malformed

-- the record at place i, of at most k fields
unfoldable pub fields_from : List ℕ → ℕ → ℕ → Split
fields_from text zero i = malformed
fields_from text (suc k) i = on_piece (field_at text i) (fields_from text k)

-- the record at place i: it has at most one field more than the text has bytes
unfoldable pub record_at : List ℕ → ℕ → Split
record_at text i = fields_from text (suc (length text)) i

-- the number of fields that a record of the file has
abbrev pub field_count : ℕ
field_count = 9

-- a record that was looked at: counted, with the places of its first fields at the front of a list; outside the grammar, what it holds is free
abbrev pub Scans : Split → List Span → List Span → Option Scanned → Type 0
Scans (fields ss next) old now r = (r ≡ Some (scanned (length ss) next)) × (now ≡ front (take field_count ss) old)
Scans malformed old now r = r ≡ None

-- the texts of a record's fields
abbrev pub texts_of : List ℕ → Split → List (List ℕ)
texts_of text (fields ss next) = map (part text) ss
texts_of text malformed = []

-- the texts of the fields whose places are in a list, as many as are counted
unfoldable pub texts_in : List ℕ → ℕ → List Span → List (List ℕ)
texts_in text count spans = take count (list_to field_count (λ k. part text (get_or spans k (span 0 0))))

-- field k of a record that was read, of its first field_count: the part of the text between its separators, enclosing quotes dropped; else empty
pub record HandsBack (text : List ℕ) (count : ℕ) (spans : List Span) (k : ℕ) (r : List ℕ) : Type 0 where
  -- by the places in the list
  pub by_places : r ≡ get_or (texts_in text count spans) k []
  -- of the record at any place that was looked at with this list
  pub of_record : (at next : ℕ) (old : List Span) → Scans (record_at text at) old spans (Some (scanned count next))
      → r ≡ get_or (take field_count (texts_of text (record_at text at))) k []

-- a record of a file: the texts of its fields, or outside the grammar
pub data Read : Type 0 where
  formed : List (List ℕ) → Read
  broken : Read

-- a record before those that are read from the next place; nothing is read past one outside the grammar
abbrev pub on_split : List ℕ → Split → (ℕ → List Read) → List Read
on_split text (fields ss next) more = formed (map (part text) ss) ∷ more next
on_split text malformed more = broken ∷ []

-- the records from place i on, at most k; at the text's end there is none
unfoldable pub records_from : List ℕ → ℕ → ℕ → List Read
records_from text zero i = []
records_from text (suc k) i =
    let found = on_split text (record_at text i) (records_from text k) in
    cond (ltb i (length text)) found []

-- the records from place i on: there are no more than the text has bytes
unfoldable pub records_at : List ℕ → ℕ → List Read
records_at text i = records_from text (suc (length text)) i

-- the records of a text
unfoldable pub records_of : List ℕ → List Read
records_of text = records_at text 0
