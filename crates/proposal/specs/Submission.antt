-- Document 01, "A proposal and its check": what is submitted to the check, the terms of its book, and the figures of an accepted proposal. Assumes nothing.
use Rattle.std.specs.Prelude.{List, [], ◌∷◌, map, ℕ, ◌+◌, ◌-◌, ◌*◌, ◌/◌, ◌≤◌, length, get_or}
use Rattle.holding.specs.Holding.{account_of, holding_of, value_limit}
use Rattle.holding.specs.declared.{Head.Head, Account.Account, Holding.Holding, Row.Row}
use Rattle.article.specs.Pair.{leg_of, allowed, pair_rate_of, rate_limit, saving_limit}
use Rattle.article.specs.declared.pair.Leg.{Leg}
use Rattle.pairing.specs.Pairing.{Terms, used, pair_units}
use Rattle.pairing.specs.declared.Line.{Line}
use Rattle.lists.specs.Tables.{sum_to, list_to}
use Rattle.ranking.specs.Ranking.{ranking_of, Ranks}

-- the head, which has the valuation date and the account's letter, a book's rows, the prices on its holdings, and the pair lines
pub record Submission : Type 0 where
  pub head : Head
  pub rows : List Row
  pub prices : List ℕ
  pub lines : List Line

-- the numbers of a line in the order of their columns, and the line of such a list
unfoldable pub line_numbers : Line → List ℕ
line_numbers l = l.long ∷ l.short ∷ l.amount ∷ []

abbrev pub line_by : List ℕ → Line
line_by xs = record { long = get_or xs 0 0; short = get_or xs 1 0; amount = get_or xs 2 0 }

-- the numbers of a holding and its price in the order of the file's fields and of the exported columns, where the price is the sixth; and the row and the
-- price of such a list
unfoldable pub priced_numbers : Row → ℕ → List ℕ
priced_numbers r price = r.side ∷ r.kind ∷ r.issuer ∷ r.maturity ∷ r.value ∷ price ∷ r.currency ∷ r.rating ∷ []

abbrev pub priced_row : List ℕ → Row
priced_row xs = record {
  side = get_or xs 0 0;
  kind = get_or xs 1 0;
  issuer = get_or xs 2 0;
  maturity = get_or xs 3 0;
  value = get_or xs 4 0;
  currency = get_or xs 6 0;
  rating = get_or xs 7 0;
}

abbrev pub row_price : List ℕ → ℕ
row_price xs = get_or xs 5 0

-- what is read where nothing stands
abbrev pub no_row : Row
no_row = record { side = 0; kind = 0; issuer = 0; maturity = 0; value = 0; currency = 0; rating = 0 }

abbrev pub no_line : Line
no_line = record { long = 0; short = 0; amount = 0 }

abbrev pub no_leg : Leg
no_leg = record { letter = 0; side = 0; kind = 0; issuer = 0; currency = 0; rating = 0; period = 0; rate = 0 }

-- a priced book by the numbers of its holdings: what a pair asks of each, its market value, and its price
pub record PricedBook : Type 0 where
  pub count : ℕ
  pub leg : ℕ → Leg
  pub value : ℕ → ℕ
  pub price : ℕ → ℕ

unfoldable pub book_of : Account → List Row → List ℕ → PricedBook
book_of a rows prices = record {
  count = length rows;
  leg = λ k. get_or (map (λ r. leg_of a (holding_of r)) rows) k no_leg;
  value = λ k. get_or (map (λ r. r.value) rows) k 0;
  price = λ k. get_or prices k 0;
}

-- its terms: the article's rates and pairs
unfoldable pub terms_of : PricedBook → Terms
terms_of b = record {
  count = b.count;
  value = b.value;
  rate = λ k. (b.leg k).rate;
  allowed = λ i j. allowed (b.leg i) (b.leg j);
  pair_rate = λ i j. pair_rate_of (b.leg i) (b.leg j);
}

-- the account that it is submitted for
abbrev pub account_in : Submission → Account
account_in s = account_of s.head

-- what is submitted, by number
unfoldable pub priced : Submission → PricedBook
priced s = book_of (account_in s) s.rows s.prices

-- the holding of a number
unfoldable pub holding_at : Submission → ℕ → Holding
holding_at s k = holding_of (get_or s.rows k no_row)

-- the highest price, the most that one holding's margin can be, and the most that one line can save or one holding's price times value be
abbrev pub price_limit : ℕ
price_limit = 43800

abbrev pub margin_limit : ℕ
margin_limit = rate_limit * value_limit

abbrev pub saved_limit : ℕ
saved_limit = saving_limit * value_limit

module _ (b : PricedBook) (lines : List Line) where
  -- a holding's remainder is its value less its amounts over all lines
  unfoldable pub remainder : ℕ → ℕ
  remainder k = b.value k - used lines k

  -- the margin of the remainder
  unfoldable pub margin : ℕ → ℕ
  margin k = (b.leg k).rate * remainder k

  -- total units: pair rate times amount over the lines, plus rate times remainder over the holdings
  unfoldable pub units_of : ℕ
  units_of = pair_units (terms_of b) lines + sum_to b.count margin

  -- each holding's remainder
  unfoldable pub remainders_of : List ℕ
  remainders_of = list_to b.count remainder

  -- each holding's margin of the remainder
  unfoldable pub margins_of : List ℕ
  margins_of = list_to b.count margin

  -- the ranking: holding numbers by margin of the remainder, largest first, ties by lower number
  unfoldable pub ranked : List ℕ
  ranked = ranking_of margin b.count

  -- it has every holding once, in that order
  abbrev pub InRankingOrder : Type 0
  InRankingOrder = Ranks margin b.count ranked

-- total cents, rounded up once
unfoldable pub cents_of : ℕ → ℕ
cents_of units = (units + 145999) / 146000

-- the smallest whole number that is, times 146,000, at least the units
pub record RoundedUp (units cents : ℕ) : Type 0 where
  pub enough : units ≤ cents * 146000
  pub smallest : (other : ℕ) → units ≤ other * 146000 → cents ≤ other
