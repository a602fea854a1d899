-- A leg as one number, and a book in lent lists: the packed legs of its holdings, their values and their prices. Assumes nothing.
use mathlib.Core.{Path.◌≡◌, List.List}
use Rattle.std.specs.Prelude.{ℕ, ◌/◌, ◌%◌, ◌<◌, ◌≤◌, length, get_or}
use Rattle.article.specs.declared.pair.Leg.{Leg}
use Rattle.article.specs.Pair.{RateInRange}
use Rattle.proposal.specs.Submission.{PricedBook}

-- the leg that a number is the code of: 16 bits for its rate, 8 for its period, 4 each for side and kind, 16 for its issuer, 4 each for currency, rating and letter; 4 are left
unfoldable pub leg_in : ℕ → Leg
leg_in c = record {
  letter = (c / 72057594037927936) % 16;
  side = (c / 16777216) % 16;
  kind = (c / 268435456) % 16;
  issuer = (c / 4294967296) % 65536;
  currency = (c / 281474976710656) % 16;
  rating = (c / 4503599627370496) % 16;
  period = (c / 65536) % 256;
  rate = c % 65536;
}

-- a leg that has a code
pub record Small (l : Leg) : Type 0 where
  pub letter : l.letter < 16
  pub side : l.side < 16
  pub kind : l.kind < 16
  pub issuer : l.issuer < 65536
  pub currency : l.currency < 16
  pub rating : l.rating < 16
  pub period : l.period < 256
  pub rate : l.rate < 65536

-- the leg of a holding
abbrev pub leg_at : List ℕ → ℕ → Leg
leg_at legs k = leg_in (get_or legs k 0)

-- n legs, at most 256, none with a rate above the highest
pub record Legs (n : ℕ) (legs : List ℕ) : Type 0 where
  pub few : n ≤ 256
  pub held : n ≤ length legs
  pub rate : (k : ℕ) → k < n → RateInRange (leg_at legs k)

-- they are the legs of a book
pub record LegsOf (b : PricedBook) (n : ℕ) (legs : List ℕ) : Type 0 where
  pub count : b.count ≡ n
  pub leg : (k : ℕ) → k < n → leg_at legs k ≡ b.leg k

-- numbers by holding: the same below n, and none below n above a limit
abbrev pub Same : ℕ → (ℕ → ℕ) → (ℕ → ℕ) → Type 0
Same n f g = (k : ℕ) → k < n → f k ≡ g k

abbrev pub AtMost : ℕ → ℕ → (ℕ → ℕ) → Type 0
AtMost limit n f = (k : ℕ) → k < n → f k ≤ limit

-- the entries of a list
abbrev pub entry : List ℕ → ℕ → ℕ
entry xs k = get_or xs k 0
