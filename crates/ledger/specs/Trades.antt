-- Document 02 f), "The book through the day": trades, and lists of what is held, over any descriptions. Assumes nothing.
use Rattle.std.specs.Prelude.{Bool, false, ◌||◌, List, [], ◌∷◌, map, ℕ}

-- a trade: value added to a description, or taken from it
pub data Trade (D : Type 0) : Type 0 where
  adding : D → ℕ → Trade D
  taking : D → ℕ → Trade D

-- what is held of a description: a value
pub record Entry (D : Type 0) : Type 0 where
  pub description : D
  pub value : ℕ

abbrev pub make_entry : {D : Type 0} → D → ℕ → Entry D
make_entry d v = record { description = d; value = v }

-- the descriptions of a list of entries, in its order
unfoldable pub descriptions : {D : Type 0} → List (Entry D) → List D
descriptions es = map (λ e. e.description) es

-- whether an entry has the description
unfoldable pub listed : {D : Type 0} → (D → D → Bool) → List (Entry D) → D → Bool
listed same [] d = false
listed same (e ∷ es) d = same e.description d || listed same es d
