-- Document 01, "Who can be refused, and for what", with document 02: the paper's number of each refusal, and of what may be refused. Assumes nothing.
use Rattle.std.specs.Prelude.{ℕ, Result, Ok, Err}
use Rattle.refusals.specs.declared.Refusal.{Refusal}
use Rattle.refusals.specs.declared.Refusal.TheVariants.{Lengths, NoRoom}
use Rattle.refusals.specs.declared.Refusal.TheVariants.{TooManyHoldings, Side, Kind, Issuer, Term, Value}
use Rattle.refusals.specs.declared.Refusal.TheVariants.{TooManyLines, Price, NotInBook, Sides, NotAllowed, NoAmount, AmountTooHigh, NotCovered, Totals}
use Rattle.refusals.specs.declared.Refusal.TheVariants.{FileTooLong, Grammar, FieldCount, Field, Sequence}
use Rattle.refusals.specs.declared.Refusal.TheVariants.{Currency, Date, Rating, Letter, Booking}

abbrev pub number_of : Refusal → ℕ
-- the host that lends memory: columns that differ in length, or a list too short for its count or for what must be written
number_of Lengths = 1
number_of NoRoom = 2
-- the sender of the book: more than 256 holdings; a side, kind, issuer, maturity or value outside its range
number_of TooManyHoldings = 3
number_of Side = 4
number_of Kind = 5
number_of Issuer = 6
number_of Term = 7
number_of Value = 8
-- the maker of the proposal: more than 512 lines, a price above 43,800; of a line a number not in the book, a first leg not long or a second not short, a pair not
-- allowed, amount zero, or above what remains of either leg; an allowed pair not covered; a priced total that differs from the saving
number_of TooManyLines = 9
number_of Price = 10
number_of NotInBook = 11
number_of Sides = 12
number_of NotAllowed = 13
number_of NoAmount = 14
number_of AmountTooHigh = 15
number_of NotCovered = 16
number_of Totals = 17
-- the sender of the file: longer than 65,536 bytes; a record outside RFC 4180's grammar, of another number of fields, with a field that is not of its sort, or out of place
number_of FileTooLong = 18
number_of Grammar = 19
number_of FieldCount = 20
number_of Field = 21
number_of Sequence = 22
-- document 02: a currency outside its range, an unreal date, a rating that is none or not the issuer's, a letter that is neither; and what booking refuses
number_of Currency = 23
number_of Date = 24
number_of Rating = 25
number_of Letter = 26
number_of Booking = 27

-- 0 for what is not refused
abbrev pub refused_by : {A : Type 0} → Result A Refusal → ℕ
refused_by (Ok _) = 0
refused_by (Err r) = number_of r

-- the paper's number in the place of the refusal
abbrev pub numbered : {A : Type 0} → Result A Refusal → Result A ℕ
numbered (Ok x) = Ok x
numbered (Err r) = Err (number_of r)
