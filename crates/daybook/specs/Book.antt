-- Document 02 f), "The book through the day": a book's holdings, what a trade does to them, and the five totals. Assumes nothing.
use mathlib.Core.{Bool.Bool, Bool.cond, List.List, List.[], List.◌∷◌}
use Rattle.std.specs.Prelude.{ℕ, suc, ◌+◌, ◌-◌, ◌*◌}
use lib.{Dec.eqb, ListN.take}
use Rattle.lists.specs.{Choice.same, Tables.list_to, Tables.sum_of, Tables.only}
use Rattle.holding.specs.Holding.{account_of, holding_of}
use Rattle.holding.specs.declared.{Head.Head, Account.Account, Row.Row}
use Rattle.rates.specs.Rate.{period_of, rate_of}
use Rattle.daybook.specs.declared.Day.{Day}

-- side, kind, issuer, maturity, currency and rating
unfoldable pub description_of : Row → List ℕ
description_of r = r.side ∷ r.kind ∷ r.issuer ∷ r.maturity ∷ r.currency ∷ r.rating ∷ []

-- two rows equal in these
unfoldable pub alike : Row → Row → Bool
alike r t = same (description_of r) (description_of t)

-- a row with another value
unfoldable pub valued : Row → ℕ → Row
valued r v = record {
  side = r.side;
  kind = r.kind;
  issuer = r.issuer;
  maturity = r.maturity;
  value = v;
  currency = r.currency;
  rating = r.rating;
}

-- the place of the first holding equal to a trade, and how many there are where none is
unfoldable pub place_in : List Row → Row → ℕ
place_in [] t = 0
place_in (r ∷ rs) t = cond (alike r t) 0 (suc (place_in rs t))

-- what that first one holds, nothing if none is equal
unfoldable pub held_in : List Row → Row → ℕ
held_in [] t = 0
held_in (r ∷ rs) t = cond (alike r t) r.value (held_in rs t)

-- adding value goes to the first equal holding, or else joins at the end
unfoldable pub added : List Row → Row → List Row
added [] t = t ∷ []
added (r ∷ rs) t = cond (alike r t) (valued r (r.value + t.value) ∷ rs) (r ∷ added rs t)

-- taking removes value from that first one; brought to zero it leaves, and later ones move up
unfoldable pub taken : List Row → Row → List Row
taken [] t = []
taken (r ∷ rs) t = cond (alike r t) (cond (eqb r.value t.value) rs (valued r (r.value - t.value) ∷ rs)) (r ∷ taken rs t)

-- a holding's margin alone, in units: rate times value
unfoldable pub margin_of : Account → Row → ℕ
margin_of a r = rate_of a (holding_of r) * r.value

-- the holdings' margins alone, added up for each of the five periods
unfoldable pub total_of : Account → List Row → ℕ → ℕ
total_of a rows period = sum_of rows (λ r. only (period_of a r.maturity) (margin_of a r) period)

unfoldable pub totals_of : Account → List Row → List ℕ
totals_of a rows = list_to 5 (λ k. total_of a rows (suc k))

-- the head of what is stored with a book, and the account that the book is valued in
unfoldable pub head_of : Day → Head
head_of d = record { date = d.date; letter = d.letter }

unfoldable pub account_at : Day → Account
account_at d = account_of (head_of d)

-- a book as it is lent: what is stored with it, and the entries of its list
pub record Book : Type 0 where
  pub day : Day
  pub list : List Row

abbrev pub make_book : Day → List Row → Book
make_book day list = record { day = day; list = list }

-- its holdings: the first entries, as many as are counted
unfoldable pub holdings_in : Book → List Row
holdings_in b = take b.day.count b.list
