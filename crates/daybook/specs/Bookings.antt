-- THE PAGE OF BOOKINGS: what document 02 f), "The book through the day", demands of every order to every lent book, in its own words; proofs/Bookings.antt proves it.
-- What the ranges, the refusal, the rate and the period of a holding are, is on the page Article. Assumes nothing.
use mathlib.Core.{Path.◌≡◌, Bool.Bool, Bool.true, Bool.false, List.List, List.[], List.◌∷◌, Logic.◌↔◌, Logic.◌⊎◌}
use Rattle.std.specs.Prelude.{ℕ, Ok, Err, suc, ◌+◌, ◌*◌, ◌≤◌, ◌<◌, length, get_or, take, set}
use Rattle.refusals.specs.Refusals.{number_of}
use Rattle.refusals.specs.declared.Refusal.{Refusal}
use Rattle.dates.specs.Calendar.{is_date}
use Rattle.holding.specs.Holding.{account_of, holding_of, Identified, InTerm, Worth, Rated, Ranges, fault_of}
use Rattle.holding.specs.declared.{Account.Account, Row.Row}
use Rattle.rates.specs.Rate.{period_of, rate_of}
use Rattle.article.specs.Answer.{Answer, make_answer}
use Rattle.proposal.specs.Submission.{no_row}
use Rattle.daybook.specs.Book.{description_of, alike, place_in, held_in, taken, account_at, Book, holdings_in}
use Rattle.daybook.specs.Orders.{answer_of, outcome, accepted, booked}
use Rattle.daybook.specs.declared.Order.{Order, TheVariants.Add, TheVariants.Take, TheVariants.MoveTo}

-- "equal in side, kind, issuer, maturity, currency and rating"
pub record Equal (r t : Row) : Type 0 where
  pub side : r.side ≡ t.side
  pub kind : r.kind ≡ t.kind
  pub issuer : r.issuer ≡ t.issuer
  pub maturity : r.maturity ≡ t.maturity
  pub currency : r.currency ≡ t.currency
  pub rating : r.rating ≡ t.rating

-- a trade's description without fault: what the ranges of a holding ask, but its value
pub record Described (a : Account) (t : Row) : Type 0 where
  pub identity : Identified t
  pub maturity : InTerm a t.maturity
  pub currency : t.currency ≤ 2
  pub rating : Rated t

-- the margins alone, rate times value, of the holdings in one period add up to so many units
pub data AddsUp (a : Account) (period : ℕ) : List Row → ℕ → Type 0 where
  none : AddsUp a period [] 0
  in_period : {r : Row} {rows : List Row} {units : ℕ} → period_of a r.maturity ≡ period → AddsUp a period rows units
      → AddsUp a period (r ∷ rows) (rate_of a (holding_of r) * r.value + units)
  in_another : {r : Row} {rows : List Row} {units : ℕ} → (period_of a r.maturity ≡ period → ⊥) → AddsUp a period rows units
      → AddsUp a period (r ∷ rows) units

-- "five totals of the holdings' margins alone, in units, one for each period", "worked out afresh"
pub record Afresh (a : Account) (rows : List Row) (totals : List ℕ) : Type 0 where
  pub five : length totals ≡ 5
  pub each_period : (k : ℕ) → k < 5 → AddsUp a (suc k) rows (get_or totals k 0)

module _ (b : Book) where
  -- what stands at a place of a book's list
  abbrev pub entry_at : ℕ → Row
  entry_at k = get_or b.list k no_row

  -- the account of its letter, valued on a date, and on its own
  abbrev pub account_on : ℕ → Account
  account_on date = account_of (record { date = date; letter = b.day.letter })

  abbrev pub book_account : Account
  book_account = account_on b.day.date

  -- each of its holdings is within the ranges
  abbrev pub EachInRange : Type 0
  EachInRange = (k : ℕ) → k < b.day.count → Ranges book_account (entry_at k)

  -- the stored totals are those of its holdings, worked out afresh
  abbrev pub TotalsRight : Type 0
  TotalsRight = Afresh book_account (take b.day.count b.list) b.day.totals

  -- the first of its holdings that is equal to a trade, or none is
  pub record FirstEqual (t : Row) (k : ℕ) : Type 0 where
    pub counted : k < b.day.count
    pub matches : Equal (entry_at k) t
    pub first : (j : ℕ) → j < k → Equal (entry_at j) t → ⊥

  abbrev pub NoneEqual : Row → Type 0
  NoneEqual t = (k : ℕ) → k < b.day.count → Equal (entry_at k) t → ⊥

  -- its list when a holding has left: those before it stay, later ones have moved up, and the entries behind the new end keep what they held
  pub record Without (k : ℕ) (list : List Row) : Type 0 where
    pub long : length list ≡ length b.list
    pub before : (j : ℕ) → j < k → get_or list j no_row ≡ entry_at j
    pub moved_up_lem : (j : ℕ) → k ≤ j → j + 1 < b.day.count → get_or list j no_row ≡ entry_at (j + 1)
    pub kept : (j : ℕ) → b.day.count ≤ j + 1 → get_or list j no_row ≡ entry_at j

-- a book as it is lent; `short` says whether 2 holds of another list that is lent with it
module _ (short : Bool) (b : Book) where
  -- at most 256 holdings, in a list as long as their count
  pub record Fits : Type 0 where
    pub holdings : b.day.count ≤ 256
    pub entries : b.day.count ≤ length b.list
    pub others : short ≡ false

  -- and a date and a letter
  pub record Headed : Type 0 where
    pub sizes : Fits
    pub dated : is_date b.day.date ≡ true
    pub lettered : b.day.letter ≤ 1

  -- a lent book without fault
  pub record InOrder : Type 0 where
    pub head : Headed
    pub each_holding : EachInRange b
    pub totals : TotalsRight b

-- the answer to an order, and the book after it
module _ (b : Book) (the-answer : Answer) (after : Book) where
  -- an order is accepted: the answer is the new count; the book then has the new date, keeps its letter, has the new count, a list such as is said, and the totals of
  -- its holdings worked out afresh on its date
  pub record Executed (new-date new_count : ℕ) (Such : List Row → Type 0) : Type 0 where
    pub answered : the-answer ≡ make_answer 0 new_count 0
    pub date : after.day.date ≡ new-date
    pub letter : after.day.letter ≡ b.day.letter
    pub count : after.day.count ≡ new_count
    pub list : Such after.list
    pub totals : Afresh (account_on b new-date) (take new_count after.list) after.day.totals

  -- "a lent book is first checked like any other: its own bad records give their numbers, and stored totals that are off give 27", whatever the order
  pub record Checked (short : Bool) : Type 0 where
    pub too_many : 256 < b.day.count → the-answer ≡ make_answer 3 0 0
    pub too_short : b.day.count ≤ 256 → (length b.list < b.day.count) ⊎ (short ≡ true) → the-answer ≡ make_answer 2 0 0
    pub undated : Fits short b → is_date b.day.date ≡ false → the-answer ≡ make_answer 24 0 0
    pub unlettered : Fits short b → is_date b.day.date ≡ true → 1 < b.day.letter → the-answer ≡ make_answer 26 0 0
    pub bad_record : Headed short b → (k : ℕ) → k < b.day.count → ((j : ℕ) → j < k → Ranges (book_account b) (entry_at b j))
        → (Ranges (book_account b) (entry_at b k) → ⊥) → the-answer ≡ make_answer (fault_of (book_account b) (entry_at b k)) k 0
    pub totals_off : Headed short b → EachInRange b → (TotalsRight b → ⊥) → the-answer ≡ make_answer 27 0 0
    -- an order is accepted in a book without fault only; where it is refused, "nothing changes"
    pub in_order : the-answer.number ≡ 0 → InOrder short b
    pub unchanged : (the-answer.number ≡ 0 → ⊥) → after ≡ b

  -- "then come the trade's description ..": the number that a holding of this description has, with a value within the limits
  abbrev pub DescribedFirst : Row → Type 0
  DescribedFirst t = (Described (book_account b) t → ⊥) → (r : Row) → Equal r t → Worth r → the-answer ≡ make_answer (fault_of (book_account b) r) 0 0

  -- "adding value goes to the first holding equal .. or else joins at the end"; "8 for an added value or a new sum outside the limits"; "last come 3 for a 257th holding
  -- and 2 for a list with no place left"
  pub record Adding (t : Row) : Type 0 where
    pub no_value : t.value ≡ 0 → the-answer ≡ make_answer 8 0 0
    pub great_value : 100000000000 < t.value → the-answer ≡ make_answer 8 0 0
    pub great_sum : (k : ℕ) → FirstEqual b t k → 100000000000 < (entry_at b k).value + t.value → the-answer ≡ make_answer 8 0 0
    pub to_first : (k : ℕ) → FirstEqual b t k → 1 ≤ t.value → (entry_at b k).value + t.value ≤ 100000000000
        → (r : Row) → Equal r t → r.value ≡ (entry_at b k).value + t.value → Executed b.day.date b.day.count (◌≡ set b.list k r)
    pub a_257th : NoneEqual b t → Worth t → b.day.count ≡ 256 → the-answer ≡ make_answer 3 0 0
    pub no_place : NoneEqual b t → Worth t → b.day.count < 256 → length b.list ≡ b.day.count → the-answer ≡ make_answer 2 0 0
    pub at_end : NoneEqual b t → Worth t → b.day.count < 256 → b.day.count < length b.list
        → Executed b.day.date (b.day.count + 1) (◌≡ set b.list b.day.count t)

  -- "taking removes value from that first one, which holds nothing if none is equal; a holding brought to zero leaves and later ones move up"; "27 for taking more
  -- than it holds, taking zero"
  pub record Taking (t : Row) : Type 0 where
    pub no_value : t.value ≡ 0 → the-answer ≡ make_answer 27 0 0
    pub none_held : NoneEqual b t → the-answer ≡ make_answer 27 0 0
    pub more : (k : ℕ) → FirstEqual b t k → (entry_at b k).value < t.value → the-answer ≡ make_answer 27 0 0
    pub from_first : (k : ℕ) → FirstEqual b t k → 1 ≤ t.value
        → (r : Row) → Equal r t → 1 ≤ r.value → r.value + t.value ≡ (entry_at b k).value → Executed b.day.date b.day.count (◌≡ set b.list k r)
    pub to_zero : (k : ℕ) → FirstEqual b t k → t.value ≡ (entry_at b k).value
        → (rest : ℕ) → rest + 1 ≡ b.day.count → Executed b.day.date rest (Without b k)

  -- ".. or new date", "27 for .. a date that is not later"; "moving to a later date refigures all five, or refuses with 7 at the first holding matured by then"
  pub record Moving (to : ℕ) : Type 0 where
    pub unreal : is_date to ≡ false → the-answer ≡ make_answer 24 0 0
    pub not_later : is_date to ≡ true → to ≤ b.day.date → the-answer ≡ make_answer 27 0 0
    pub matured : is_date to ≡ true → b.day.date < to → (k : ℕ) → k < b.day.count → ((j : ℕ) → j < k → to < (entry_at b j).maturity)
        → (entry_at b k).maturity ≤ to → the-answer ≡ make_answer 7 k 0
    pub moved : is_date to ≡ true → b.day.date < to → ((k : ℕ) → k < b.day.count → to < (entry_at b k).maturity) → Executed to b.day.count (◌≡ b.list)

  -- an order to a book without fault
  abbrev pub OfOrder : Order Row → Type 0
  OfOrder (Add t) = DescribedFirst t × (Described (book_account b) t → Adding t)
  OfOrder (Take t) = DescribedFirst t × (Described (book_account b) t → Taking t)
  OfOrder (MoveTo to) = Moving to

  -- all that is demanded of the answer and of the book after
  pub record Booking (short : Bool) (o : Order Row) : Type 0 where
    pub at_first : Checked short
    pub next : InOrder short b → OfOrder o

-- the names that contracts use: a book's account and its holdings, and the place and the value of the first one equal to a trade; where none is, nothing is taken
pub record BookNames (b : Book) (t : Row) : Type 0 where
  pub account_at_lem : account_at b.day ≡ book_account b
  pub holdings_in_lem : holdings_in b ≡ take b.day.count b.list
  pub place : b.day.count ≤ length b.list → (k : ℕ) → FirstEqual b t k → place_in (holdings_in b) t ≡ k
  pub held : b.day.count ≤ length b.list → (k : ℕ) → FirstEqual b t k → held_in (holdings_in b) t ≡ (entry_at b k).value
  pub no_place : b.day.count ≤ length b.list → NoneEqual b t → place_in (holdings_in b) t ≡ b.day.count
  pub none_held : b.day.count ≤ length b.list → NoneEqual b t → held_in (holdings_in b) t ≡ 0
  pub none_taken : b.day.count ≤ length b.list → NoneEqual b t → taken (holdings_in b) t ≡ holdings_in b

-- two rows have one description, and are found alike, exactly when they are equal in the six
pub record OneDescription (r t : Row) : Type 0 where
  pub description : (description_of r ≡ description_of t) ↔ Equal r t
  pub found : (alike r t ≡ true) ↔ Equal r t

-- the paper's numbers of a finding: 0 and the new count, or the refusal's number and its place
pub record FindingAnswers (m : ℕ) (r : Refusal) (n : ℕ) : Type 0 where
  pub new_count : answer_of (Ok m) ≡ make_answer 0 m 0
  pub refusal : answer_of (Err (record { refusal = r; place = n })) ≡ make_answer (number_of r) n 0

-- the whole: every order to every lent book has an outcome and leaves a book as is demanded, and no other answer and no other book are
pub record Bookings : Type 0 where
  pub outcomes : (short : Bool) (b : Book) (o : Order Row) → Booking b (outcome short b o) (booked short b o) short o
  pub no_other : (short : Bool) (b : Book) (o : Order Row) (the-answer : Answer) (after : Book) → Booking b the-answer after short o
      → (the-answer ≡ outcome short b o) × (after ≡ booked short b o)
  pub is_accepted : (short : Bool) (b : Book) (o : Order Row) → (accepted short b o ≡ true) ↔ ((outcome short b o).number ≡ 0)
  pub names : (b : Book) (t : Row) → BookNames b t
  pub descriptions : (r t : Row) → OneDescription r t
  pub findings : (m : ℕ) (r : Refusal) (n : ℕ) → FindingAnswers m r n
