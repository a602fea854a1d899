-- THE PAGE OF A BOOK'S DAY: document 02 f), "After any bookings and moves from an empty book with zero totals, with nothing else writing it, they equal the totals
-- worked out afresh, and the list has just the descriptions with more added than taken by accepted trades, each once with the difference, in order of last
-- joining". In proofs/History.antt `kept` proves `Kept` of every empty book after any calls, and `continued` proves `Continued` of any book. Assumes nothing.
use mathlib.Core.{Path.◌≡◌, Bool.Bool, Bool.cond, List.List, List.[], List.◌∷◌, List.map, Logic.◌⊎◌}
use Rattle.std.specs.Prelude.{ℕ, ◌≤◌, length}
use Rattle.lists.specs.Choice.{same}
use Rattle.holding.specs.declared.Row.{Row}
use Rattle.ledger.specs.{Trades.Trade, Trades.adding, Trades.taking, Trades.Entry, Trades.make_entry, Balance.Balance}
use Rattle.daybook.specs.Book.{description_of, totals_of, account_at, Book, holdings_in}
use Rattle.daybook.specs.Orders.{outcome, accepted, book_after, booked}
use Rattle.daybook.specs.declared.Order.{Order, TheVariants.Add, TheVariants.Take, TheVariants.MoveTo}

-- a call: an order, and whether 2 holds of another list that is lent with it
pub record Call : Type 0 where
  pub short : Bool
  pub order : Order Row

-- a description in numbers: side, kind, issuer, maturity, currency and rating; a row is one, with a value
abbrev pub Description : Type 0
Description = List ℕ

unfoldable pub entry_of : Row → Entry Description
entry_of r = make_entry (description_of r) r.value

-- the trade of an order before earlier trades; a move is none
unfoldable pub noted : Order Row → List (Trade Description) → List (Trade Description)
noted (Add t) earlier = adding (description_of t) t.value ∷ earlier
noted (Take t) earlier = taking (description_of t) t.value ∷ earlier
noted (MoveTo to) earlier = earlier

module _ (b : Book) where
  -- the book after calls, each of which meets the book that those before it left; calls, and trades below, are listed latest first
  unfoldable pub after : List Call → Book
  after [] = b
  after (c ∷ earlier) = booked c.short (after earlier) c.order

  -- the trades of those calls that were accepted
  unfoldable pub trades : List Call → List (Trade Description)
  trades [] = []
  trades (c ∷ earlier) = cond (accepted c.short (after earlier) c.order) (noted c.order (trades earlier)) (trades earlier)

  -- no holdings and zero totals, whatever its list holds, and whatever date and letter it has
  pub record Empty : Type 0 where
    pub none : b.day.count ≡ 0
    pub totals : b.day.totals ≡ 0 ∷ 0 ∷ 0 ∷ 0 ∷ 0 ∷ []

  -- what holds after any calls from an empty book
  pub record Kept (calls : List Call) : Type 0 where
    -- the stored totals equal those of the holdings worked out afresh, on the stored date and for the stored letter, which stays
    pub totals : (after calls).day.totals ≡ totals_of (account_at (after calls).day) (holdings_in (after calls))
    pub letter : (after calls).day.letter ≡ b.day.letter
    -- the holdings are as many as are counted, 256 at most, in a list that keeps its length
    pub count : length (holdings_in (after calls)) ≡ (after calls).day.count
    pub few : (after calls).day.count ≤ 256
    pub room : length (after calls).list ≡ length b.list
    -- they are what the accepted trades leave, and no other list of holdings is
    pub list : Balance same (trades calls) (map entry_of (holdings_in (after calls)))
    pub only : (rows : List Row) → Balance same (trades calls) (map entry_of rows) → rows ≡ holdings_in (after calls)

  -- what one call more does to the book and to the trades
  pub record Continued (calls : List Call) (c : Call) : Type 0 where
    -- refused: nothing
    pub refused : ((outcome c.short (after calls) c.order).number ≡ 0 → ⊥)
        → (after (c ∷ calls) ≡ after calls) × (trades (c ∷ calls) ≡ trades calls)
    -- accepted: the book is what its order leaves, and the latest trade is its own; a move is none
    pub changed : (outcome c.short (after calls) c.order).number ≡ 0 → after (c ∷ calls) ≡ book_after (after calls) c.order
    pub added : (t : Row) → c.order ≡ Add t → (outcome c.short (after calls) c.order).number ≡ 0
        → trades (c ∷ calls) ≡ adding (description_of t) t.value ∷ trades calls
    pub taken : (t : Row) → c.order ≡ Take t → (outcome c.short (after calls) c.order).number ≡ 0
        → trades (c ∷ calls) ≡ taking (description_of t) t.value ∷ trades calls
    pub moved : (to : ℕ) → c.order ≡ MoveTo to → trades (c ∷ calls) ≡ trades calls
    -- the date is that of the latest move
    pub date : (to : ℕ) → c.order ≡ MoveTo to → (outcome c.short (after calls) c.order).number ≡ 0 → (after (c ∷ calls)).day.date ≡ to
    pub same-date : (t : Row) → (c.order ≡ Add t) ⊎ (c.order ≡ Take t) → (after (c ∷ calls)).day.date ≡ (after calls).day.date
