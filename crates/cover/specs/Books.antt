-- What is found of a book that is lent as packed legs and a column of prices. Assumes nothing.
use mathlib.Core.List.{List}
use Rattle.std.specs.Prelude.{ℕ, length, Result}
use Rattle.refusals.specs.declared.Refusal.{Refusal}
use Rattle.proposal.specs.declared.Fault.{Fault}
use Rattle.cover.specs.Cover.{ShortsByPart, LongCovered, FirstOpen, Finds}
use Rattle.cover.specs.declared.{Shorts.Shorts, book.Book.Book}

abbrev pub count_of : Book → ℕ
count_of b = length b.legs.now

-- the shorts in the parts are those of the book
abbrev pub ShortsOf : Book → List Shorts → Type 0
ShortsOf b parts = ShortsByPart (count_of b) b.legs.now b.price.now parts

-- i is covered, as the long, with each holding of the book; j is the first that it is not covered with
abbrev pub CoveredIn : Book → ℕ → Type 0
CoveredIn b i = LongCovered (count_of b) b.legs.now b.price.now i

abbrev pub OpenIn : Book → ℕ → ℕ → Type 0
OpenIn b i j = FirstOpen (count_of b) b.legs.now b.price.now i j

-- r is the first uncovered pair of the book
abbrev pub FindsIn : {A : Type 0} → Book → Result A (Fault Refusal) → Type 0
FindsIn b r = Finds (count_of b) b.legs.now b.price.now r
