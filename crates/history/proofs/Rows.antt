-- The rows of a book as entries of the ledger: what an adding and a taking do to the one they do to the other. Assumes nothing.
use mathlib.Core.Path.{◌≡◌, refl, sym, ap, ◌∙◌}
use mathlib.Core.List.{List, [], ◌∷◌, map}
use lib.Dec.{eqb}
use lib.ListN.{get_or}
use Rattle.lists.specs.Choice.{same}
use Rattle.lists.proofs.Tests.{either_way}
use Rattle.lists.proofs.Entries.{same_refl, same_true}
use Rattle.holding.specs.declared.Row.{Row}
use Rattle.ledger.specs.Trades.{Entry}
use Rattle.ledger.proofs.Holdings.{Equality, held, added as added-entries, taken as taken-entries}
use Rattle.daybook.specs.Book.{description_of, alike, valued, held_in, added, taken}
use Rattle.history.specs.History.{Description, entry_of}

-- two descriptions that pass the test are one
pub described : Equality same
described = record { itself = same_refl; alike = same_true }

-- the row of an entry: an entry has all that its row has
abbrev row_from : Entry Description → Row
row_from e = record {
  side = get_or e.description 0 0;
  kind = get_or e.description 1 0;
  issuer = get_or e.description 2 0;
  maturity = get_or e.description 3 0;
  value = e.value;
  currency = get_or e.description 4 0;
  rating = get_or e.description 5 0;
}

rows_back : (rows : List Row) → map row_from (map entry_of rows) ≡ rows
unfolding entry_of description_of
rows_back [] = refl
rows_back (r ∷ rows) = ap (λ (l : List Row). r ∷ l) (rows_back rows)

pub one-rows : (rows others : List Row) → map entry_of rows ≡ map entry_of others → rows ≡ others
one-rows rows others e = sym (rows_back rows) ∙ ap (map row_from) e ∙ rows_back others

module _ (t : Row) where
  pub entries-held : (rows : List Row) → held same (map entry_of rows) (description_of t) ≡ held_in rows t
  unfolding held held_in alike entry_of
  entries-held [] = refl
  entries-held (r ∷ rows) =
      either_way (same (description_of r) (description_of t))
      (λ s. rw s)
      (λ s. rw s (entries-held rows))

  pub entries-added : (rows : List Row) → map entry_of (added rows t) ≡ added-entries same (description_of t) t.value (map entry_of rows)
  unfolding added added-entries alike entry_of valued description_of
  entries-added [] = refl
  entries-added (r ∷ rows) =
      either_way (same (description_of r) (description_of t))
      (λ s. rw s)
      (λ s. rw s (ap (λ (l : List (Entry Description)). entry_of r ∷ l) (entries-added rows)))

  pub entries-taken : (rows : List Row) → map entry_of (taken rows t) ≡ taken-entries same (description_of t) t.value (map entry_of rows)
  unfolding taken taken-entries alike entry_of valued description_of
  entries-taken [] = refl
  entries-taken (r ∷ rows) =
      either_way (same (description_of r) (description_of t))
      (λ s. either_way (eqb r.value t.value) (λ z. rw (s, z)) (λ z. rw (s, z)))
      (λ s. rw s (ap (λ (l : List (Entry Description)). entry_of r ∷ l) (entries-taken rows)))
