-- A book whose list is of holdings: what an order does to it, to the last entry, and what the parts of booking promise of it. Assumes nothing.
use mathlib.Core.{Path.◌≡◌, Bool.cond, Bool.false, List.List, List.map}
use Rattle.std.specs.Prelude.{ℕ}
use lib.{ListN.length, ListN.take}
use Rattle.lists.specs.Tables.{front}
use Rattle.holding.specs.Holding.{row_of, holding_of}
use Rattle.holding.specs.declared.{Holding.Holding, Row.Row, Side.TheVariants.Long, Kind.TheVariants.Bond}
use Rattle.holding.specs.declared.{Issuer.TheVariants.Canada, Currency.TheVariants.Cad, Rating.TheVariants.SingleA}
use Rattle.daybook.specs.Book.{Book, make_book, holdings_in}
use Rattle.daybook.specs.Orders.{trade_or, answer_of, holdings_after, outcome, accepted, booked}
use Rattle.daybook.specs.declared.{Day.Day, Reply.Reply}
use Rattle.daybook.specs.declared.Order.{Order, TheVariants.Add, TheVariants.Take, TheVariants.MoveTo}
use Rattle.booking.specs.Seeing.{Fits, Concluded}
use Rattle.booking.specs.declared.Outcome.{Outcome}

-- an order by the numbers of its holding
unfoldable pub order_of : Order Holding → Order Row
order_of (Add h) = Add (row_of h)
order_of (Take h) = Take (row_of h)
order_of (MoveTo to) = MoveTo to

-- an order to a book in the list ys leaves the list zs and gets a reply
module _ (ys : List Holding) (d : Day) (o : Order Holding) where
  -- the book by the numbers of its holdings
  abbrev pub book_of : Book
  book_of = make_book d (map row_of ys)

  -- the answer; what is then stored with the book; the list to the last entry: the holdings stand first, entries past them keep what they held, and a
  -- refusal changes nothing; and the rows that the next order sees
  pub record Books (zs : List Holding) (r : Reply) : Type 0 where
    pub answer : answer_of r.finding ≡ outcome false book_of (order_of o)
    pub day : r.day ≡ (booked false book_of (order_of o)).day
    pub list : zs ≡ cond (accepted false book_of (order_of o)) (front (map holding_of (holdings_after (order_of o) (holdings_in book_of))) ys) ys
    pub rows : map row_of zs ≡ (booked false book_of (order_of o)).list

-- a holding with another value
unfoldable pub worth : Holding → ℕ → Holding
worth h v = record {
  side = h.side;
  kind = h.kind;
  issuer = h.issuer;
  maturity = h.maturity;
  value = v;
  currency = h.currency;
  rating = h.rating;
}

-- the holding of first cases and zeros
unfoldable pub blank : Holding
blank = record { side = Long; kind = Bond; issuer = Canada; maturity = 0; value = 0; currency = Cad; rating = SingleA }

-- the holding of an order, a move has the blank one; and with a value
unfoldable pub traded_by : Order Holding → Holding
traded_by o = trade_or blank o

unfoldable pub put_of : Order Holding → ℕ → Holding
put_of o v = worth (traded_by o) v

-- an order judged on a list: so it is of every list of as many entries that begins with the same holdings
pub record Examines (ys : List Holding) (d : Day) (o : Order Holding) (r : Outcome) : Type 0 where
  pub concluded : (list : List Row) → length list ≡ length ys → take d.count list ≡ take d.count (map row_of ys)
      → Concluded false (make_book d list) (order_of o) r
  pub fits : Fits (length ys) r.change
