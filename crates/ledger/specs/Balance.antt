-- Document 02 f): the list that accepted trades leave, from the trades alone and with no word of how a book is changed. Trades are listed latest
-- first: those before a trade are what follows it. Assumes nothing.
use Rattle.std.specs.Prelude.{◌≡◌, Bool, true, false, cond, ◌&&◌, List, [], ◌∷◌, ℕ, suc, ◌-◌, ◌<◌, eqb, length}
use Rattle.lists.specs.Tables.{Each, sum_of}
use Rattle.ledger.specs.Trades.{Trade, adding, taking, Entry, listed, descriptions}

-- each entry of a list stands so to every later one
abbrev pub Ordered : {A : Type 0} → (A → A → Type 0) → List A → Type 0
Ordered before [] = Unit {0}
Ordered before (x ∷ xs) = Each (before x) xs × Ordered before xs

module _ {D : Type 0} (same : D → D → Bool) where
  -- what a trade adds to a description, and what it takes
  unfoldable pub adds : D → Trade D → ℕ
  adds d (adding x v) = cond (same x d) v 0
  adds d (taking x v) = 0

  unfoldable pub takes : D → Trade D → ℕ
  takes d (adding x v) = 0
  takes d (taking x v) = cond (same x d) v 0

  unfoldable pub added_of : List (Trade D) → D → ℕ
  added_of trades d = sum_of trades (adds d)

  unfoldable pub taken_of : List (Trade D) → D → ℕ
  taken_of trades d = sum_of trades (takes d)

  -- a description joins at an adding that finds nothing of it: as much was taken before as was added
  unfoldable pub joins : D → Trade D → List (Trade D) → Bool
  joins d (adding x v) earlier = same x d && eqb (added_of earlier d) (taken_of earlier d)
  joins d (taking x v) earlier = false

  -- the number, from 1 on in time, of the trade at which a description last joined, 0 for none
  unfoldable pub joined : List (Trade D) → D → ℕ
  joined [] d = 0
  joined (x ∷ earlier) d = cond (joins d x earlier) (suc (length earlier)) (joined earlier d)

  -- just the descriptions with more added than taken, each once with the difference, in order of last joining
  pub record Balance (trades : List (Trade D)) (es : List (Entry D)) : Type 0 where
    pub just : Each (λ d. taken_of trades d < added_of trades d) (descriptions es)
    pub all : (d : D) → taken_of trades d < added_of trades d → listed same es d ≡ true
    pub once : Ordered (λ x y. same x y ≡ false) (descriptions es)
    pub difference : Each (λ e. e.value ≡ added_of trades e.description - taken_of trades e.description) es
    pub order : Ordered (λ x y. joined trades x < joined trades y) (descriptions es)
