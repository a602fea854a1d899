-- The rows that are given of a list's holdings are those of every list that begins with the same. Assumes nothing.
use mathlib.Core.Path.{◌≡◌, sym, ap, ◌∙◌}
use mathlib.Core.List.{List, map}
use Prim.Native.Nat.{ℕ, ◌<◌}
use native.Mathlib.Omega.{arith}
use lib.ListN.{length, get_or, take}
use lib.Seq.{get_or-take}
use Rattle.std.proofs.lemmas.List.{get_or-map}
use Rattle.holding.specs.Holding.{row_of}
use Rattle.holding.specs.declared.{Holding.Holding, Row.Row}
use Rattle.proposal.specs.Submission.{no_row}
use Rattle.desk.specs.Desk.{blank}

pub listed : (ys : List Holding) (n : ℕ) (list : List Row) → length list ≡ length ys → take n list ≡ take n (map row_of ys)
    → (i : ℕ) → i < n → i < length list → (r : Row) → r ≡ row_of (get_or ys i blank) → r ≡ get_or list i no_row
listed ys n list long same i few low r e =
    e
    ∙ sym (get_or-map row_of ys i blank no_row (omega (arith, long)))
    ∙ sym (get_or-take n (map row_of ys) i no_row few)
    ∙ ap (λ (l : List Row). get_or l i no_row) (sym same)
    ∙ get_or-take n list i no_row few
