-- The numbers of what a text submits fit in eight bytes. Assumes nothing.
use mathlib.Core.Path.{◌≡◌}
use mathlib.Core.List.{List, [], ◌∷◌}
use Prim.Native.Nat.{ℕ, ◌^◌, ◌≤◌, ◌<◌}
use lib.ListN.{length, set}
use native.Mathlib.Omega.{arith}
use Rattle.lists.specs.Tables.{Each}
use Rattle.lists.proofs.Entries.{each_so, each-parts}
use Rattle.holding.specs.Holding.{numbers_of}
use Rattle.holding.specs.declared.Row.{Row}
use Rattle.pairing.specs.declared.Line.{Line}
use Rattle.proposal.specs.Submission.{priced_numbers, line_numbers}
use Rattle.columns.proofs.ReadBack.{Fits, SubmissionFits}
use Rattle.layout.specs.Layout.{IsRecord}
use Rattle.reader.specs.File.{submission_in, file_fault}
use Rattle.readable.specs.Readable.{AreHoldings, no_holdings, holding_and, AreLines, no_lines, line_and}
use Rattle.readable.proofs.Below.{values_below}
use Rattle.readable.proofs.ByFirst.{issued-within, holdings_grown, holdings-few}
use Rattle.readable.proofs.Exactly.{read-exactly}

-- the values of a good record
record_fits : (k : ℕ) (texts : List (List ℕ)) (vs : List ℕ) → IsRecord k texts vs → Fits vs
record_fits k [] vs is = absurd is
record_fits k (letter ∷ texts) vs is =
    each_so (λ (v : ℕ). v < 10 ^ 12) (λ v. v < 2 ^ 64) (λ v l. omega (arith, l)) vs (each-parts (λ (v : ℕ). v < 10 ^ 12) vs _ (values_below is.1)).0

record HoldingsFit (rows : List Row) (prices : List ℕ) : Type 0 where
  each_row : Each (λ row. Fits (numbers_of row)) rows
  each_price : Fits prices

-- the number of an issuer is one of as many as are known
holdings-fit : {known leis : List (List ℕ)} {rs : List (List (List ℕ))} {rows : List Row} {prices : List ℕ}
    → AreHoldings known rs rows prices leis → length leis ≤ 256 → HoldingsFit rows prices
unfolding priced_numbers numbers_of
holdings-fit no_holdings few = record { each_row = tt; each_price = tt }
holdings-fit (holding_and {r = r} {row = row} {price = price} {v = v} is issued rest) few =
    let (side, (kind, (_, (maturity, (value, (worth, (currency, (rating, none)))))))) = record_fits 1 r (set (priced_numbers row price) 2 v) is in
    let issuer : row.issuer < 2 ^ 64 = omega (arith, issued-within issued, (holdings_grown rest).long) in
    let more = holdings-fit rest few in
    record { each_row = ((side, (kind, (issuer, (maturity, (value, (currency, (rating, none))))))), more.each_row); each_price = (worth, more.each_price) }

lines_fit : {rs : List (List (List ℕ))} {lines : List Line} → AreLines rs lines → Each (λ line. Fits (line_numbers line)) lines
lines_fit no_lines = tt
lines_fit (line_and {r} is rest) = (record_fits 2 r _ is, lines_fit rest)

-- of a file that is read
pub file-fits : (text : List ℕ) → (file_fault text).number ≡ 0 → SubmissionFits (submission_in text)
file-fits text e =
    let file = (read-exactly text).read.0 e in
    let holdings = holdings-fit file.each_holding (omega (arith, holdings-few file.each_holding, file.few-holdings)) in
    record { head = record_fits 0 file.head _ file.valued; rows = holdings.each_row; prices = holdings.each_price; lines = lines_fit file.each_line }
