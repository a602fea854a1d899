-- A head has no fault exactly when its valuation date is one and its letter is one of the two. Assumes nothing.
use mathlib.Core.Path.{◌≡◌, refl, sym, ap, ◌∙◌}
use mathlib.Core.Bool.{true, false, and-false}
use Prim.Native.Nat.{ℕ, ◌≤◌, ◌<◌}
use native.Mathlib.Omega.{arith}
use lib.Dec.{leb}
use Rattle.lists.specs.Choice.{first_of, within}
use Rattle.lists.proofs.Tests.{either_way, same_or_not, true_within}
use Rattle.lists.proofs.Firsts.{None, Listed, none_first, first_of-none}
use borrow.Author.Tests.{eq-eqb, ne_eqb, lt-leb, leb-true, leb-false}
use Rattle.dates.specs.Calendar.{is_date}
use Rattle.dates.proofs.Tested.{date-high}
use Rattle.holding.specs.Holding.{head_numbers, head_faults, head_fault, letter_number, letter_of, account_of, headed_of, HeadKept}
use Rattle.holding.specs.declared.AccountKind.{AccountKind}
use Rattle.holding.specs.declared.AccountKind.TheVariants.{Participant, Client}
use Rattle.holding.specs.declared.Head.{Head}
use Rattle.holding.specs.declared.Account.{Account}
use Rattle.std.specs.Prelude.{Result, Ok, Err}
use Rattle.refusals.specs.Refusals.{number_of, refused_by, numbered}
use Rattle.refusals.specs.declared.Refusal.{Refusal}
use Rattle.refusals.proofs.Refusals.{refused}

-- a letter is the case of its number
pub letter-back : (k : AccountKind) → letter_of (letter_number k) ≡ k
unfolding letter_of
letter-back Participant = refl
letter-back Client = refl

module _ (h : Head) where
  pub sound_head : is_date h.date ≡ true → h.letter ≤ 1 → head_fault h ≡ 0
  unfolding head_fault head_faults first_of
  sound_head e l = rw (e, true_within 0 1 h.letter (omega arith) l)

  pub unvalued_head : is_date h.date ≡ false → head_fault h ≡ 24
  unfolding head_fault head_faults first_of
  unvalued_head e = rw e

  pub unlettered-head : is_date h.date ≡ true → 1 < h.letter → head_fault h ≡ 26
  unfolding head_fault head_faults first_of within
  unlettered-head e l = rw (e, lt-leb h.letter 1 l, and-false (leb 0 h.letter))

  pub head-listed : Listed (head_faults h)
  unfolding head_faults
  head-listed = (omega arith, (omega arith, tt))

  -- none of its refusals holds exactly when it has no fault
  pub none-of-head : head_fault h ≡ 0 → None (head_faults h)
  unfolding head_fault
  none-of-head e = (none_first (λ (n : ℕ). n) (head_faults h) 0 head-listed e).0

  pub head_of-none : None (head_faults h) → head_fault h ≡ 0
  unfolding head_fault
  head_of-none n = first_of-none (head_faults h) 0 n

  pub head-valued : head_fault h ≡ 0 → is_date h.date ≡ true
  head-valued e = either_way (is_date h.date) (λ t. t) (λ f. let never : 24 ≡ 0 = sym (unvalued_head f) ∙ e in absurd (omega arith))

  pub head-lettered : head_fault h ≡ 0 → h.letter ≤ 1
  head-lettered e =
      either_way (leb h.letter 1)
      (leb-true h.letter 1)
      (λ f. let never : 26 ≡ 0 = sym (unlettered-head (head-valued e) (leb-false h.letter 1 f)) ∙ e in absurd (omega arith))

  -- its date is small
  pub head-fits : head_fault h ≡ 0 → h.date < 4294967296
  head-fits e = omega (arith, date-high h.date (head-valued e))

  pub head-account : head_fault h ≡ 0 → headed_of h ≡ Ok (account_of h)
  unfolding headed_of
  head-account e = rw (eq-eqb (head_fault h) 0 e)

  pub head_kept_lem : HeadKept h
  unfolding account_of head_numbers letter_of
  head_kept_lem = record {
    numbers = refl;
    back = refl;
    no_fault = sound_head;
    unreal = unvalued_head;
    neither = unlettered-head;
    made = λ e l. head-account (sound_head e l);
    date = refl;
    participant = λ e. rw e;
    client = λ e. rw e;
  }

  pub head-none : (head_fault h ≡ 0 → ⊥) → headed_of h ≡ Err (head_fault h)
  unfolding headed_of
  head-none e = rw (ne_eqb (head_fault h) 0 e)

module _ (h : Head) {r : Result Account Refusal} where
  -- the account that a head makes is its own
  pub account-head : numbered r ≡ headed_of h → {a : Account} → r ≡ Ok a → (head_fault h ≡ 0) × (a ≡ account_of h)
  account-head made {a} e =
      same_or_not (head_fault h) 0
      (λ z. let own = head-account h z in let is : numbered r ≡ Ok a = ap numbered e in (z, cc))
      (λ n. let none = head-none h n in let is : numbered r ≡ Ok a = ap numbered e in absurd (cc))

  -- the refusal of a head is its fault
  pub refused-head : refused_by r ≡ head_fault h → {x : Refusal} → r ≡ Err x → (number_of x ≡ head_fault h) × (head_fault h ≡ 0 → ⊥)
  refused-head found {x} e = (ap refused_by (sym e) ∙ found, λ z. refused e (found ∙ z))

pub ruleset heads = (sound_head, unvalued_head, unlettered-head, head-account, head-none, date-high)
