-- What the lists that are filled hold, and that they are the same lists. Assumes nothing.
use Rattle.std.specs.Prelude.{◌≡◌, ℕ, List, [], ◌∷◌}
use Rattle.columns.specs.declared.ColumnsMut.{ColumnsMut}
use Rattle.columns.specs.Columns.{Columns, make_columns}

-- the columns that they hold
abbrev pub columns_in : ColumnsMut → Columns
columns_in c = make_columns
    (c.side.now ∷ c.kind.now ∷ c.issuer.now ∷ c.maturity.now ∷ c.value.now ∷ c.currency.now ∷ c.rating.now ∷ [])
    c.price.now
    (c.long.now ∷ c.short.now ∷ c.amount.now ∷ [])

-- those that a table of holdings has, and a table of lines, in its order
abbrev pub book_in : ColumnsMut → List (List ℕ)
book_in c = c.side.now ∷ c.kind.now ∷ c.issuer.now ∷ c.maturity.now ∷ c.value.now ∷ c.price.now ∷ c.currency.now ∷ c.rating.now ∷ []

abbrev pub lines_of : ColumnsMut → List (List ℕ)
lines_of c = c.long.now ∷ c.short.now ∷ c.amount.now ∷ []

-- each refers to what it referred to
pub record SameLists (before after : ColumnsMut) : Type 0 where
  pub side : after.side.ghost_name ≡ before.side.ghost_name
  pub kind : after.kind.ghost_name ≡ before.kind.ghost_name
  pub issuer : after.issuer.ghost_name ≡ before.issuer.ghost_name
  pub maturity : after.maturity.ghost_name ≡ before.maturity.ghost_name
  pub value : after.value.ghost_name ≡ before.value.ghost_name
  pub price : after.price.ghost_name ≡ before.price.ghost_name
  pub currency : after.currency.ghost_name ≡ before.currency.ghost_name
  pub rating : after.rating.ghost_name ≡ before.rating.ghost_name
  pub long : after.long.ghost_name ≡ before.long.ghost_name
  pub short : after.short.ghost_name ≡ before.short.ghost_name
  pub amount : after.amount.ghost_name ≡ before.amount.ghost_name
