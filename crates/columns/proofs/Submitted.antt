-- Columns of bytes hold what is submitted, entry by entry. Assumes nothing.
use mathlib.Core.Path.{◌≡◌, refl, ap, ◌∙◌}
use mathlib.Core.List.{List, [], ◌∷◌}
use Prim.Native.Nat.{ℕ, ◌*◌}
use lib.ListN.{get_or, get_or-map}
use lib.Seq.{drop-nil}
use Rattle.lists.proofs.Tables.{length_to, get_or-to}
use Rattle.holding.specs.Holding.{row_by}
use Rattle.holding.specs.declared.{Head.Head, Row.Row}
use Rattle.pairing.specs.declared.Line.{Line}
use Rattle.proposal.specs.Submission.{no_row, no_line, line_by}
use Rattle.words.specs.Words.{number, word_at, entries, decode}
use Rattle.columns.specs.Columns.{Columns, column_at, count_in, numbers_at, rows_in, lines_in, submission, RowAt, LineAt, ColumnEntries}

-- no bytes make 0, so a column that is not there reads as 0 everywhere
nothing-there : (k : ℕ) → word_at [] k ≡ 0
unfolding word_at number
nothing-there k = rw (drop-nil {A = ℕ} (8 * k))

module _ (columns : List (List ℕ)) (k : ℕ) where
  -- the numbers at an entry, one of each column
  number_at_lem : (j : ℕ) → get_or (numbers_at columns k) j 0 ≡ word_at (column_at columns j) k
  unfolding numbers_at
  number_at_lem j = rw (nothing-there k) at (get_or-map (λ c. word_at c k) columns j [])

  pub row_at : (r : Row) → r ≡ row_by (numbers_at columns k) → RowAt columns k r
  row_at r e = record {
    side = ap (λ (r : Row). r.side) e ∙ number_at_lem 0;
    kind = ap (λ (r : Row). r.kind) e ∙ number_at_lem 1;
    issuer = ap (λ (r : Row). r.issuer) e ∙ number_at_lem 2;
    maturity = ap (λ (r : Row). r.maturity) e ∙ number_at_lem 3;
    value = ap (λ (r : Row). r.value) e ∙ number_at_lem 4;
    currency = ap (λ (r : Row). r.currency) e ∙ number_at_lem 5;
    rating = ap (λ (r : Row). r.rating) e ∙ number_at_lem 6;
  }

  pub line_at : (l : Line) → l ≡ line_by (numbers_at columns k) → LineAt columns k l
  line_at l e = record {
    long = ap (λ (l : Line). l.long) e ∙ number_at_lem 0;
    short = ap (λ (l : Line). l.short) e ∙ number_at_lem 1;
    amount = ap (λ (l : Line). l.amount) e ∙ number_at_lem 2;
  }

-- the record of a row, and of a line, whose numbers were read at an entry of the columns
pub row_read : (side kind issuer maturity value currency rating : List ℕ) (i : ℕ) {a b c d e f g : ℕ}
    → a ≡ word_at side i → b ≡ word_at kind i → c ≡ word_at issuer i → d ≡ word_at maturity i → e ≡ word_at value i → f ≡ word_at currency i → g ≡ word_at rating i
    → record { side = a; kind = b; issuer = c; maturity = d; value = e; currency = f; rating = g }
    ≡ row_by (numbers_at (side ∷ kind ∷ issuer ∷ maturity ∷ value ∷ currency ∷ rating ∷ []) i)
unfolding numbers_at
row_read side kind issuer maturity value currency rating i a b c d e f g =
    λ j. record { side = a j; kind = b j; issuer = c j; maturity = d j; value = e j; currency = f j; rating = g j }

pub line_read : (long short amount : List ℕ) (i : ℕ) {a b c : ℕ} → a ≡ word_at long i → b ≡ word_at short i → c ≡ word_at amount i
    → record { long = a; short = b; amount = c } ≡ line_by (numbers_at (long ∷ short ∷ amount ∷ []) i)
unfolding numbers_at
line_read long short amount i a b c = λ j. record { long = a j; short = b j; amount = c j }

pub column-entries : (h : Head) (c : Columns) → ColumnEntries h c
unfolding submission rows_in lines_in count_in decode entries
column-entries h c = record {
  head = refl;
  holdings = length_to _ _;
  lines = length_to _ _;
  holding = λ k q. row_at c.holdings k _ (get_or-to _ _ k no_row q);
  price = λ k q. get_or-to _ _ k 0 q;
  line = λ k q. line_at c.lines k _ (get_or-to _ _ k no_line q);
}
