-- One book has one figure: two accepted proposals of it have the same units. Assumes nothing.
use mathlib.Core.Path.{◌≡◌, refl}
use mathlib.Core.Bool.{Bool}
use mathlib.Core.List.{List}
use Prim.Native.Nat.{ℕ}
use Rattle.holding.specs.declared.Row.{Row}
use Rattle.holding.specs.declared.Head.{Head}
use Rattle.pairing.specs.declared.Line.{Line}
use Rattle.pairing.proofs.Least.{least_unique}
use Rattle.proposal.specs.Submission.{Submission, book_of, terms_of, priced}
use Rattle.proposal.specs.Outcome.{outcome}
use Rattle.proposal.proofs.Demands.{demands}

abbrev proposed : Head → List Row → List ℕ → List Line → Submission
proposed h rows prices lines = record { head = h; rows = rows; prices = prices; lines = lines }

-- the terms of a book do not rest on the prices
same-terms : (h : Head) (rows : List Row) (p q : List ℕ) (a b : List Line) → terms_of (priced (proposed h rows p a)) ≡ terms_of (priced (proposed h rows q b))
unfolding terms_of priced book_of
same-terms h rows p q a b = refl

pub one_figure : (one two : Bool) (h : Head) (rows : List Row) (p q : List ℕ) (a b : List Line)
    → (outcome one two (proposed h rows p a)).number ≡ 0 → (outcome one two (proposed h rows q b)).number ≡ 0
    → (outcome one two (proposed h rows p a)).first ≡ (outcome one two (proposed h rows q b)).first
one_figure one two h rows p q a b e f =
    least_unique (terms_of (priced (proposed h rows q b))) a b _ _
    (rw (same-terms h rows p q a b) at ((demands one two (proposed h rows p a)).cheapest e))
    ((demands one two (proposed h rows q b)).cheapest f)
