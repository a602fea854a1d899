-- A trade's description is refused as a holding of this description is, with a value within the limits. Assumes nothing.
use mathlib.Core.Path.{◌≡◌, sym, ◌∙◌}
use mathlib.Core.Bool.{Bool}
use mathlib.Core.List.{List, ◌++◌}
use Prim.Native.Nat.{ℕ}
use native.Mathlib.Omega.{arith}
use Rattle.lists.specs.Choice.{first_of}
use Rattle.lists.proofs.Tests.{true_within, same_or_not}
use Rattle.lists.proofs.Firsts.{None, Listed, found_first}
use Rattle.holding.specs.Holding.{identity_faults, term_faults, worth_faults, money_faults, row_faults, fault_of, Worth, Ranges}
use Rattle.holding.specs.declared.{Account.Account, Row.Row}
use Rattle.holding.proofs.Ranges.{none-of-row, fault-none, none_fault}
use Rattle.daybook.specs.Book.{valued, head_of, account_at, Book}
use Rattle.daybook.specs.Orders.{description_faults}
use Rattle.daybook.specs.Bookings.{Equal, Described, book_account}
use Rattle.daybook.proofs.Descriptions.{valued_equal}

-- the refusals of a description have numbers, from 1
pub description-listed : (a : Account) (t : Row) → Listed (description_faults a t)
unfolding description_faults identity_faults term_faults money_faults
description-listed a t = (omega arith, (omega arith, (omega arith, (omega arith, (omega arith, (omega arith, (omega arith, tt)))))))

module _ (a : Account) (t : Row) where
  -- the first fault of the description is that of the holding
  description-fault : (r : Row) → Equal r t → Worth r → first_of (description_faults a t) 0 ≡ fault_of a r
  unfolding description_faults identity_faults term_faults worth_faults money_faults row_faults fault_of first_of
  description-fault r e w =
      rw (e.side, e.kind, e.issuer, e.maturity, true_within 1 100000000000 r.value w.low w.high, e.currency, e.rating)

  -- a holding within its ranges is described, and a description has holdings within the ranges
  ranges-described : (r : Row) → Equal r t → Ranges a r → Described a t
  ranges-described r e g = record {
    identity = record {
      side = omega (arith, g.identity.side, e.side);
      kind = omega (arith, g.identity.kind, e.kind);
      issuer = rw e.issuer at g.identity.issuer;
    };
    maturity = rw e.maturity at g.maturity;
    currency = omega (arith, g.currency, e.currency);
    rating = record {
      government = λ h. sym e.rating ∙ g.rating.government (rw e.issuer h);
      corporation = λ h. rw e.rating at (g.rating.corporation (rw e.issuer h));
    };
  }

  one_cent : Described a t → Ranges a (valued t 1)
  unfolding valued
  one_cent d = record {
    identity = record { side = d.identity.side; kind = d.identity.kind; issuer = d.identity.issuer };
    maturity = d.maturity;
    value = record { low = omega arith; high = omega arith };
    currency = d.currency;
    rating = record { government = d.rating.government; corporation = d.rating.corporation };
  }

  -- a trade is described, or it is not
  pub described-or-not : {P : Type 0} → (Described a t → P) → ((Described a t → ⊥) → P) → P
  described-or-not p q =
      same_or_not (fault_of a (valued t 1)) 0
      (λ z. p (ranges-described (valued t 1) (valued_equal t 1) (fault-none a (valued t 1) z)))
      (λ n. q (λ d. n (none_fault a (valued t 1) (one_cent d))))

  -- a trade that is described has no fault
  described-none : Described a t → None (description_faults a t)
  unfolding description_faults identity_faults term_faults worth_faults money_faults row_faults valued
  described-none d =
      let (side, (kind, (issuer, (unreal, (term, (_, money)))))) = none-of-row a (valued t 1) (none_fault a (valued t 1) (one_cent d)) in
      (side, (kind, (issuer, (unreal, (term, money)))))

-- of a trade with a book
module _ (b : Book) (t : Row) where
  pub no_description : Described (book_account b) t → None (description_faults (account_at b.day) t)
  unfolding account_at head_of
  no_description d = described-none (book_account b) t d

  -- its fault has a number, and comes before what follows
  pub some-fault : (Described (book_account b) t → ⊥) → (r : Row) → Equal r t → fault_of (book_account b) r ≡ 0 → ⊥
  some-fault n r e z = n (ranges-described (book_account b) t r e (fault-none (book_account b) r z))

  pub fault-first : (Described (book_account b) t → ⊥) → (r : Row) → Equal r t → Worth r → (rest : List (Bool × ℕ))
      → fault_of (book_account b) r ≡ first_of (description_faults (account_at b.day) t ++ rest) 0
  unfolding account_at head_of
  fault-first n r e w rest = found_first (fault_of (book_account b) r) _ rest (sym (description-fault (book_account b) t r e w)) (some-fault n r e)
