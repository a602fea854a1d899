-- A book as its records are: what the core asks and promises of it. Assumes nothing.
use mathlib.Core.Path.{◌≡◌, sym, ◌∙◌}
use mathlib.Core.List.{List}
use Prim.Native.Nat.{ℕ, ◌<◌}
use native.Mathlib.Omega.{arith}
use lib.ListN.{length, get_or}
use Rattle.holding.specs.declared.Row.{Row}
use Rattle.proposal.specs.Submission.{no_row}
use Rattle.records.specs.Records.{row_at, rows_in}
use Rattle.records.proofs.Rows.{length-rows}
use Rattle.records.proofs.Rewriting.{row_of_lem}

-- the rows that are given of a list's records are its rows
pub listed : (bytes : List ℕ) (n i : ℕ) → i < n → i < length (rows_in bytes) → (r : Row) → r ≡ row_at bytes i → r ≡ get_or (rows_in bytes) i no_row
listed bytes n i few low r e = e ∙ sym (row_of_lem bytes i (omega (arith, length-rows bytes)))
