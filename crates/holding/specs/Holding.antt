-- Document 01, "A holding", document 02 a), its currency, b), dates, d), corporations, and e), the account's letter: the ranges of raw numbers, and the records that
-- numbers within them make. Assumes nothing.
use mathlib.Core.{Path.◌≡◌, Bool.Bool, Bool.cond, Bool.not, Bool.◌||◌, Bool.true, Bool.false, List.List, List.[], List.◌∷◌, List.◌++◌, Logic.◌⊎◌}
use Rattle.std.specs.Prelude.{ℕ, ◌≤◌, ◌<◌, Result, Ok, Err}
use lib.{Dec.eqb, Dec.ltb, Dec.leb, ListN.get_or}
use Rattle.lists.specs.Choice.{first_of, within}
use Rattle.dates.specs.Calendar.{is_date, anniversary}
use Rattle.refusals.specs.{Refusals.refused_by, Refusals.numbered, declared.Refusal.Refusal}
use Rattle.holding.specs.declared.{Side.Side, Side.TheVariants.Long, Side.TheVariants.Short, Kind.Kind, Kind.TheVariants.Bond, Kind.TheVariants.Coupon, Kind.TheVariants.Residual}
use Rattle.holding.specs.declared.Issuer.{Issuer, TheVariants.Canada, TheVariants.Province, TheVariants.UnitedStates, TheVariants.UnitedKingdom, TheVariants.Corporation}
use Rattle.holding.specs.declared.Rating.{Rating, TheVariants.SingleA, TheVariants.Lower, TheVariants.NotGiven}
use Rattle.holding.specs.declared.{Currency.Currency, Currency.TheVariants.Cad, Currency.TheVariants.Usd, Currency.TheVariants.Gbp, Holding.Holding, Row.Row, Head.Head, Account.Account}
use Rattle.holding.specs.declared.AccountKind.{AccountKind, TheVariants.Participant, TheVariants.Client}

-- the most cents that a market value may be
abbrev pub value_limit : ℕ
value_limit = 100000000000

-- the head of a submission, what is said once for all of its holdings: its numbers, and the head of such a list
unfoldable pub head_numbers : Head → List ℕ
head_numbers h = h.date ∷ h.letter ∷ []

abbrev pub head_by : List ℕ → Head
head_by xs = record { date = get_or xs 0 0; letter = get_or xs 1 0 }

-- 24 a valuation date that is unreal or outside the years 1900 to 2299, after it 26 a letter that is neither `P` nor `C`
unfoldable pub head_faults : Head → List (Bool × ℕ)
head_faults h = (not (is_date h.date), 24) ∷ (not (within 0 1 h.letter), 26) ∷ []

unfoldable pub head_fault : Head → ℕ
head_fault h = first_of (head_faults h) 0

-- the account's letter: 0 `P`, an approved participant's, 1 `C`, a client's; and from a number to its case
abbrev pub letter_number : AccountKind → ℕ
letter_number Participant = 0
letter_number Client = 1

unfoldable pub letter_of : ℕ → AccountKind
letter_of n = cond (eqb n 0) Participant Client

-- the account of a head: it is valued on this date and has this letter
unfoldable pub account_of : Head → Account
account_of h = record { date = h.date; letter = letter_of h.letter }

-- a head without fault has its account, any other is refused with its fault
unfoldable pub headed_of : Head → Result Account ℕ
headed_of h = cond (eqb (head_fault h) 0) (Ok (account_of h)) (Err (head_fault h))

-- the numbers of a row in the order of their columns, and the row of such a list
unfoldable pub numbers_of : Row → List ℕ
numbers_of r = r.side ∷ r.kind ∷ r.issuer ∷ r.maturity ∷ r.value ∷ r.currency ∷ r.rating ∷ []

abbrev pub row_by : List ℕ → Row
row_by xs = record {
  side = get_or xs 0 0;
  kind = get_or xs 1 0;
  issuer = get_or xs 2 0;
  maturity = get_or xs 3 0;
  value = get_or xs 4 0;
  currency = get_or xs 5 0;
  rating = get_or xs 6 0;
}

-- a corporation's number is one from 100 to 355, any other issuer's one from 0 to 12
unfoldable pub is_corporation : ℕ → Bool
is_corporation n = within 100 355 n

unfoldable pub is_issuer : ℕ → Bool
is_issuer n = within 0 12 n || is_corporation n

-- the rating of a corporation is `Y` 0 or `N` 1, that of a government empty, 2
unfoldable pub is_rated : ℕ → ℕ → Bool
is_rated issuer rating = cond (is_corporation issuer) (within 0 1 rating) (eqb rating 2)

-- matured by the valuation date, or past its 100th anniversary
unfoldable pub out_of_term : Account → ℕ → Bool
out_of_term a maturity = leb maturity a.date || ltb (anniversary a.date 100) maturity

-- a maturity that is held: a date, after the valuation date and up to its 100th anniversary
pub record InTerm (a : Account) (maturity : ℕ) : Type 0 where
  pub date : is_date maturity ≡ true
  pub after : a.date < maturity
  pub until : maturity ≤ anniversary a.date 100

-- a government, 0 to 12, or a corporation, 100 to 355
abbrev pub Government : ℕ → Type 0
Government n = n ≤ 12

abbrev pub Corporate : ℕ → Type 0
Corporate n = (100 ≤ n) × (n ≤ 355)

-- what a row is: side 0 and 1, kind 0 to 2, issuer 0 to 12 or 100 to 355
pub record Identified (r : Row) : Type 0 where
  pub side : r.side ≤ 1
  pub kind : r.kind ≤ 2
  pub issuer : Government r.issuer ⊎ Corporate r.issuer

-- market value 1 to 100,000,000,000 cents
pub record Worth (r : Row) : Type 0 where
  pub low : 1 ≤ r.value
  pub high : r.value ≤ 100000000000

-- a government has no rating, 2, a corporation one, 0 or 1
pub record Rated (r : Row) : Type 0 where
  pub government : Government r.issuer → r.rating ≡ 2
  pub corporation : Corporate r.issuer → r.rating ≤ 1

-- what it is, a maturity that is held, its value, currency 0 to 2, its rating
pub record Ranges (a : Account) (r : Row) : Type 0 where
  pub identity : Identified r
  pub maturity : InTerm a r.maturity
  pub value : Worth r
  pub currency : r.currency ≤ 2
  pub rating : Rated r

-- the refusals of a row, each with its test: of what it is 4 side, 5 kind, 6 issuer outside its range; of its term 24 a maturity that is unreal or outside
-- the years, 7 one that is out of its term; of its worth 8 value, of its money 23 currency outside its range, 25 a rating that is none or not the issuer's
unfoldable pub identity_faults : Row → List (Bool × ℕ)
identity_faults r =
    (not (within 0 1 r.side), 4)
    ∷ (not (within 0 2 r.kind), 5)
    ∷ (not (is_issuer r.issuer), 6)
    ∷ []

unfoldable pub term_faults : Account → Row → List (Bool × ℕ)
term_faults a r = (not (is_date r.maturity), 24) ∷ (out_of_term a r.maturity, 7) ∷ []

unfoldable pub worth_faults : Row → List (Bool × ℕ)
worth_faults r = (not (within 1 value_limit r.value), 8) ∷ []

unfoldable pub money_faults : Row → List (Bool × ℕ)
money_faults r = (not (within 0 2 r.currency), 23) ∷ (not (is_rated r.issuer r.rating), 25) ∷ []

-- 24 comes just before 7, 23 after 8, 25 after 23
unfoldable pub row_faults : Account → Row → List (Bool × ℕ)
row_faults a r = identity_faults r ++ term_faults a r ++ worth_faults r ++ money_faults r

-- the first that holds, 0 for none
unfoldable pub fault_of : Account → Row → ℕ
fault_of a r = first_of (row_faults a r) 0

-- side: 0 long, 1 short
abbrev pub side_number : Side → ℕ
side_number Long = 0
side_number Short = 1

-- kind: 0 bond or debenture, 1 stripped coupon, 2 residual
abbrev pub kind_number : Kind → ℕ
kind_number Bond = 0
kind_number Coupon = 1
kind_number Residual = 2

-- a number that no issuer has
abbrev pub no_issuer : ℕ
no_issuer = 18446744073709551615

-- issuer: 0 Canada, 1 to 10 a province in the order AB BC MB NB NL NS ON PE QC SK, 11 `US`, 12 `GB`, 100 to 355 a corporation; a province or a corporation of no
-- such number is given one that no issuer has
abbrev pub issuer_number : Issuer → ℕ
issuer_number Canada = 0
issuer_number (Province p) = cond (within 1 10 p) p no_issuer
issuer_number UnitedStates = 11
issuer_number UnitedKingdom = 12
issuer_number (Corporation c) = cond (is_corporation c) c no_issuer

-- currency: 0 CAD, 1 USD, 2 GBP
abbrev pub currency_number : Currency → ℕ
currency_number Cad = 0
currency_number Usd = 1
currency_number Gbp = 2

-- rating: 0 `Y`, single A or higher, 1 `N`, 2 none
abbrev pub rating_number : Rating → ℕ
rating_number SingleA = 0
rating_number Lower = 1
rating_number NotGiven = 2

-- the numbers of a record
unfoldable pub row_of : Holding → Row
row_of h = record {
  side = side_number h.side;
  kind = kind_number h.kind;
  issuer = issuer_number h.issuer;
  maturity = h.maturity;
  value = h.value;
  currency = currency_number h.currency;
  rating = rating_number h.rating;
}

-- an account valued on a date, and a record whose numbers are within the ranges
pub record InRange (a : Account) (h : Holding) : Type 0 where
  pub valued : is_date a.date ≡ true
  pub ranges : Ranges a (row_of h)

-- from a number to its case
unfoldable pub side_of : ℕ → Side
side_of n = cond (eqb n 0) Long Short

unfoldable pub kind_of : ℕ → Kind
kind_of n = cond (eqb n 0) Bond (cond (eqb n 1) Coupon Residual)

unfoldable pub issuer_of : ℕ → Issuer
issuer_of n = first_of ((eqb n 0, Canada) ∷ (eqb n 11, UnitedStates) ∷ (eqb n 12, UnitedKingdom) ∷ (is_corporation n, Corporation n) ∷ []) (Province n)

unfoldable pub currency_of : ℕ → Currency
currency_of n = cond (eqb n 0) Cad (cond (eqb n 1) Usd Gbp)

unfoldable pub rating_of : ℕ → Rating
rating_of n = cond (eqb n 0) SingleA (cond (eqb n 1) Lower NotGiven)

-- the record of a row: it keeps its issuer as a named government, or as a province or a corporation with its number, and its kind, its currency and its rating each
-- as one of three named cases
unfoldable pub holding_of : Row → Holding
holding_of r = record {
  side = side_of r.side;
  kind = kind_of r.kind;
  issuer = issuer_of r.issuer;
  maturity = r.maturity;
  value = r.value;
  currency = currency_of r.currency;
  rating = rating_of r.rating;
}

-- a row without fault makes its record, any other is refused with its fault
unfoldable pub built_of : Account → Row → Result Holding ℕ
built_of a r = cond (eqb (fault_of a r) 0) (Ok (holding_of r)) (Err (fault_of a r))

-- what making a record of a row promises
pub record Builds (a : Account) (row : Row) (r : Result Holding Refusal) : Type 0 where
  pub number : refused_by r ≡ fault_of a row
  pub built : numbered r ≡ built_of a row

-- a head is its valuation date and its letter; it is refused, with 24, when the date is unreal or outside the years, else with 26 when the letter is neither of the two,
-- and else these are the account's: 0 is `P`, an approved participant's, and 1 is `C`, a client's
pub record HeadKept (h : Head) : Type 0 where
  pub numbers : head_numbers h ≡ h.date ∷ h.letter ∷ []
  pub back : head_by (h.date ∷ h.letter ∷ []) ≡ h
  pub no_fault : is_date h.date ≡ true → h.letter ≤ 1 → head_fault h ≡ 0
  pub unreal : is_date h.date ≡ false → head_fault h ≡ 24
  pub neither : is_date h.date ≡ true → 1 < h.letter → head_fault h ≡ 26
  pub made : is_date h.date ≡ true → h.letter ≤ 1 → headed_of h ≡ Ok (account_of h)
  pub date : (account_of h).date ≡ h.date
  pub participant : h.letter ≡ 0 → (account_of h).letter ≡ Participant
  pub client : h.letter ≡ 1 → (account_of h).letter ≡ Client

-- the refusal that a row has: of the first of side, kind, issuer, maturity, value, currency and rating that is outside its range
pub record RowRefused (a : Account) (r : Row) : Type 0 where
  pub side : 1 < r.side → fault_of a r ≡ 4
  pub kind : r.side ≤ 1 → 2 < r.kind → fault_of a r ≡ 5
  pub issuer : r.side ≤ 1 → r.kind ≤ 2 → (Government r.issuer ⊎ Corporate r.issuer → ⊥) → fault_of a r ≡ 6
  pub unreal : Identified r → is_date r.maturity ≡ false → fault_of a r ≡ 24
  pub term : Identified r → is_date r.maturity ≡ true → (r.maturity ≤ a.date) ⊎ (anniversary a.date 100 < r.maturity) → fault_of a r ≡ 7
  pub value : Identified r → InTerm a r.maturity → (r.value < 1) ⊎ (100000000000 < r.value) → fault_of a r ≡ 8
  pub currency : Identified r → InTerm a r.maturity → Worth r → 2 < r.currency → fault_of a r ≡ 23
  pub rating : Identified r → InTerm a r.maturity → Worth r → r.currency ≤ 2 → (Rated r → ⊥) → fault_of a r ≡ 25

-- the numbers of a record. Side: 0 long, 1 short. Kind: 0 bond or debenture, 1 stripped coupon, 2 residual. Issuer: 0 Canada, 1 to 10 a province, 11 US, 12 GB, 100 to 355 a
-- corporation. Currency: 0 CAD, 1 USD, 2 GBP. Rating: 0 single A or higher, 1 lower, 2 none
pub record Numbers (h : Holding) : Type 0 where
  pub of_long : h.side ≡ Long → (row_of h).side ≡ 0
  pub of_short : h.side ≡ Short → (row_of h).side ≡ 1
  pub of-bond : h.kind ≡ Bond → (row_of h).kind ≡ 0
  pub of_coupon : h.kind ≡ Coupon → (row_of h).kind ≡ 1
  pub of_residual : h.kind ≡ Residual → (row_of h).kind ≡ 2
  pub of_canada : h.issuer ≡ Canada → (row_of h).issuer ≡ 0
  pub of-province : (p : ℕ) → within 1 10 p ≡ true → h.issuer ≡ Province p → (row_of h).issuer ≡ p
  pub of-us : h.issuer ≡ UnitedStates → (row_of h).issuer ≡ 11
  pub of-gb : h.issuer ≡ UnitedKingdom → (row_of h).issuer ≡ 12
  pub of-corporation : (c : ℕ) → within 100 355 c ≡ true → h.issuer ≡ Corporation c → (row_of h).issuer ≡ c
  pub of_cad : h.currency ≡ Cad → (row_of h).currency ≡ 0
  pub of_usd : h.currency ≡ Usd → (row_of h).currency ≡ 1
  pub of_gbp : h.currency ≡ Gbp → (row_of h).currency ≡ 2
  pub of_single_a : h.rating ≡ SingleA → (row_of h).rating ≡ 0
  pub of_lower : h.rating ≡ Lower → (row_of h).rating ≡ 1
  pub of_no_rating : h.rating ≡ NotGiven → (row_of h).rating ≡ 2
  pub maturity : (row_of h).maturity ≡ h.maturity
  pub value : (row_of h).value ≡ h.value
