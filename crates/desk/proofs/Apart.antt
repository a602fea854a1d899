-- A row for each holding, no two alike: where several records have one row, as those of provinces that are none, here each has its own. Assumes nothing.
use mathlib.Core.Path.{◌≡◌, refl, ap}
use mathlib.Core.Bool.{cond}
use mathlib.Core.List.{List, [], ◌∷◌, map}
use Prim.Native.Nat.{ℕ, ◌+◌, ◌-◌, ◌≤◌, ◌<◌}
use native.Mathlib.Omega.{arith}
use lib.Dec.{ltb}
use borrow.Author.Tests.{lt-ltb}
use Rattle.lists.specs.{Choice.first_of, Tables.Each}
use Rattle.holding.specs.Holding.{side_number, side_of, kind_number, kind_of, issuer_of, currency_number, currency_of, rating_number, rating_of, row_of, holding_of}
use Rattle.holding.specs.declared.{Holding.Holding, Row.Row, Side.Side, Side.TheVariants.Long, Side.TheVariants.Short}
use Rattle.holding.specs.declared.Issuer.{Issuer, TheVariants.Canada, TheVariants.Province, TheVariants.UnitedStates}
use Rattle.holding.specs.declared.Issuer.{TheVariants.UnitedKingdom, TheVariants.Corporation}
use Rattle.holding.proofs.Ranges.{kind-back, currency-back, rating-back}

-- a province and a corporation keep their number, whatever it is, and the side says which of them an issuer is
mark : Issuer → ℕ
mark Canada = 0
mark (Province p) = 2
mark UnitedStates = 0
mark UnitedKingdom = 0
mark (Corporation c) = 4

plain : Issuer → ℕ
plain Canada = 0
plain (Province p) = p
plain UnitedStates = 11
plain UnitedKingdom = 12
plain (Corporation c) = c

pub apart_of : Holding → Row
apart_of h = record {
  side = mark h.issuer + side_number h.side;
  kind = kind_number h.kind;
  issuer = plain h.issuer;
  maturity = h.maturity;
  value = h.value;
  currency = currency_number h.currency;
  rating = rating_number h.rating;
}

-- the holding of such a row; of a row whose side is one, its record
side_back : ℕ → Side
side_back n = side_of (cond (ltb n 2) n (cond (ltb n 4) (n - 2) (n - 4)))

issuer_back : ℕ → ℕ → Issuer
issuer_back n i = cond (ltb n 2) (issuer_of i) (cond (ltb n 4) (Province i) (Corporation i))

pub back_of : Row → Holding
back_of r = record {
  side = side_back r.side;
  kind = kind_of r.kind;
  issuer = issuer_back r.side r.issuer;
  maturity = r.maturity;
  value = r.value;
  currency = currency_of r.currency;
  rating = rating_of r.rating;
}

-- the side and the issuer, back from their numbers
parts-back : (i : Issuer) (s : Side) → (side_back (mark i + side_number s) ≡ s) × (issuer_back (mark i + side_number s) (plain i) ≡ i)
unfolding side_back issuer_back mark plain side_of issuer_of first_of
parts-back Canada Long = (refl, refl)
parts-back Canada Short = (refl, refl)
parts-back (Province p) Long = (refl, refl)
parts-back (Province p) Short = (refl, refl)
parts-back UnitedStates Long = (refl, refl)
parts-back UnitedStates Short = (refl, refl)
parts-back UnitedKingdom Long = (refl, refl)
parts-back UnitedKingdom Short = (refl, refl)
parts-back (Corporation c) Long = (refl, refl)
parts-back (Corporation c) Short = (refl, refl)

back-apart : (h : Holding) → back_of (apart_of h) ≡ h
unfolding back_of apart_of
back-apart h =
    let (side, issuer) = parts-back h.issuer h.side in
    rw (side, issuer, kind-back h.kind, currency-back h.currency, rating-back h.rating)

pub backs_apart : (hs : List Holding) → map back_of (map apart_of hs) ≡ hs
backs_apart [] = refl
backs_apart (h ∷ hs) = rw (back-apart h) (ap (λ (l : List Holding). h ∷ l) (backs_apart hs))

-- of a row whose side is one
pub back-row : (r : Row) → r.side ≤ 1 → back_of r ≡ holding_of r
unfolding back_of holding_of side_back issuer_back
back-row r h = let below : r.side < 2 = omega arith in rw (lt-ltb r.side 2 below)

pub backs_rows : (rows : List Row) → Each (λ r. r.side ≤ 1) rows → map back_of rows ≡ map holding_of rows
backs_rows [] h = refl
backs_rows (r ∷ rows) h = rw (back-row r h.0, backs_rows rows h.1)

-- as every record's is
pub side-low : (h : Holding) → (row_of h).side ≤ 1
unfolding row_of
side-low h = by h.side
  where
    by : (s : Side) → side_number s ≤ 1
    by Long = omega arith
    by Short = omega arith
