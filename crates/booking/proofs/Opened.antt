-- A book before its holdings, and on a later date. Assumes nothing.
use mathlib.Core.Path.{◌≡◌, refl, sym, ap, ◌∙◌}
use mathlib.Core.Bool.{Bool, true, false}
use Prim.Native.Nat.{ℕ, ◌≤◌, ◌<◌}
use native.Mathlib.Omega.{arith}
use borrow.Author.Tests.{lt-ltb, le-ltb, le-leb, lt-leb, leb-false, not-false}
use Rattle.std.specs.Prelude.{Result, Ok, Err, Some}
use Rattle.lists.specs.Choice.{first_of}
use Rattle.lists.proofs.Firsts.{None, none_first}
use Rattle.refusals.specs.{Refusals.number_of, Refusals.refused_by, Refusals.numbered, declared.Refusal.Refusal, declared.Refusal.TheVariants.Date, declared.Refusal.TheVariants.Booking}
use Rattle.dates.specs.Calendar.{is_date}
use Rattle.dates.proofs.Tested.{date-high}
use Rattle.holding.specs.Holding.{head_fault, headed_of, account_of}
use Rattle.holding.specs.declared.{Account.Account}
use Rattle.holding.proofs.Heads.{head-valued, account-head}
use Rattle.daybook.specs.Book.{head_of, account_at}
use Rattle.daybook.specs.Orders.{lent_faults, date_faults}
use Rattle.daybook.specs.declared.Day.{Day}
use Rattle.daybook.specs.declared.Order.{TheVariants.MoveTo}
use Rattle.booking.specs.Seeing.{Opened, Opens, OpensLater, OpensAgain, on_date}

module _ (short : Bool) (room : ℕ) (d : Day) where
  abbrev number : ℕ
  number = first_of (lent_faults short room d) 0

  -- a refusal before the holdings
  pub opens-refused : {x : Refusal} → number_of x ≡ number → Opens short room d (Err x)
  opens-refused e = record { number = e; opened = λ a f. absurd (cc) }

  -- an account was opened
  pub opened_ok : {a : Account} → Opens short room d (Ok a) → Opened room d a
  opened_ok {a} opens = opens.opened a refl

  pub many : 256 < d.count → 3 ≡ number
  unfolding lent_faults first_of
  many h = rw (lt-ltb 256 d.count h)

  module _ (few : d.count ≤ 256) where
    pub no_list : room < d.count → 2 ≡ number
    unfolding lent_faults first_of
    no_list h = rw (le-ltb 256 d.count few, lt-ltb room d.count h)

    module _ (within : d.count ≤ room) where
      pub no_other : short ≡ true → 2 ≡ number
      unfolding lent_faults first_of
      no_other e = rw (le-ltb 256 d.count few, le-ltb room d.count within, e)

      module _ (e : short ≡ false) where
        from_head_lem : head_fault (head_of d) ≡ number
        unfolding lent_faults first_of head_fault
        from_head_lem = rw (le-ltb 256 d.count few, le-ltb room d.count within, e)

        -- 24, 26, or the account
        pub opens_head : {r : Result Account Refusal} → refused_by r ≡ head_fault (head_of d) → numbered r ≡ headed_of (head_of d) → Opens short room d r
        unfolding account_at account_of head_of
        opens_head {r} found made = record {
          number = found ∙ from_head_lem;
          opened = λ a f.
              let (none, is) = account-head (head_of d) made f in
              record {
                account = is;
                valued = ap (λ (x : Account). is_date x.date) is ∙ head-valued (head_of d) none;
                few = few;
                within = within;
              };
        }

-- a new date
module _ {d : Day} {a : Account} {to : ℕ} where
  pub later_unreal : is_date to ≡ false → OpensLater d a to (Err Date)
  unfolding date_faults first_of
  later_unreal e = record { number = rw e; account = λ x f. absurd (cc); valued = λ x f. absurd (cc) }

  module _ (real : is_date to ≡ true) where
    pub later_back : to ≤ d.date → OpensLater d a to (Err Booking)
    unfolding date_faults first_of
    later_back h = record { number = rw (real, le-leb to d.date h); account = λ x f. absurd (cc); valued = λ x f. absurd (cc) }

    pub later_on : d.date < to → OpensLater d a to (Ok (record { date = to; letter = a.letter }))
    unfolding date_faults first_of on_date
    later_on h = record {
      number = rw (real, lt-leb to d.date h);
      account = λ x f. cc;
      valued = λ x f. let same : record { date = to; letter = a.letter } ≡ x = cc in ap (λ (y : Account). is_date y.date) (sym same) ∙ real;
    }

  -- an account on it: it is a date, and a later one
  module _ {x : Account} (opens : OpensLater d a to (Ok x)) where
    unrefused : None (date_faults d.date to)
    unfolding date_faults
    unrefused = (none_first (λ (n : ℕ). n) (date_faults d.date to) 0 (omega arith, (omega arith, tt)) (sym opens.number)).0

    pub later_real : is_date to ≡ true
    unfolding date_faults
    later_real = not-false _ unrefused.0

    pub later_than : d.date < to
    unfolding date_faults
    later_than = leb-false to d.date unrefused.1.0

-- what is to be seen once more
pub again_on : {a : Account} {to : ℕ} → is_date to ≡ true → OpensAgain (MoveTo to) a (Some (Ok (record { date = to; letter = a.letter })))
unfolding on_date
again_on {a} {to} real = record {
  account = λ x e v. let same : to ≡ x = cc in ap (λ (n : ℕ). Some (Ok (on_date n a))) same;
  unreal = λ x e v. let same : to ≡ x = cc in absurd (cc);
  none = λ other. absurd (other to refl);
  valued = λ x f. let same : record { date = to; letter = a.letter } ≡ x = cc in ap (λ (y : Account). is_date y.date) (sym same) ∙ real;
}

pub date-fits : (to : ℕ) → is_date to ≡ true → to < 4294967296
date-fits to v = omega (arith, date-high to v)
