-- A text is read as a value exactly when it is that value of its sort, and so are several. Assumes nothing.
use mathlib.Core.Path.{◌≡◌, refl, ap, subst}
use mathlib.Core.Logic.Iff
use mathlib.Core.Logic.{◌↔◌}
use mathlib.Core.List.{List, [], ◌∷◌}
use Prim.Native.Nat.{ℕ, suc}
use native.Mathlib.Omega.{arith}
use lib.ListN.{length}
use borrow.Author.Tests.{ne_eqb}
use Rattle.std.specs.Prelude.{Option, Some, None, Result, Ok, Err}
use Rattle.refusals.specs.declared.Refusal.{Refusal, TheVariants.Field}
use Rattle.lists.specs.Choice.{same}
use Rattle.codes.specs.Codes.{place_of}
use Rattle.codes.proofs.Places.{distinct-exactly}
use Rattle.numerals.specs.Numerals.{numeral_of}
use Rattle.numerals.proofs.Exactly.{numeral_exactly}
use Rattle.dates.specs.Text.{read_date}
use Rattle.dates.proofs.Texts.{read-exactly}
use Rattle.layout.specs.Layout.{IsValue, AreValues, no_values, value_and, accounts, sides, kinds, currencies, ratings}
use Rattle.layout.specs.Layout.{valued, value_of, Values, values, wrong, and_value, values_of}
use Rattle.layout.specs.declared.Sort.{Sort}
use Rattle.layout.specs.declared.Sort.TheVariants.{Account, Side, Kind, Issuer, Currency, Rating, Date, Six, Twelve, Empty}
use Rattle.layout.proofs.Issuers.{issuer-exactly}

-- the value of a place, of a numeral or of a date is its number
valued-as : (o : Option ℕ) (v : ℕ) → (valued o ≡ Ok v) ↔ (o ≡ Some v)
valued-as (Some n) v = (λ e. cc, λ e. cc)
valued-as None v = (λ e. cc, λ e. cc)

-- nothing is the text of an empty field, and 0 its value
empty-value : (t : List ℕ) (v : ℕ) → (value_of Empty t ≡ Ok v) ↔ IsValue Empty t v
unfolding value_of
empty-value [] v = (λ e. (refl, cc), λ h. rw h.1)
empty-value (c ∷ t) v = (
  λ e.
      let w : ◌≡◌ {A = Result ℕ Refusal} (Err Field) (Ok v) = rw (ne_eqb (suc (length t)) 0 (omega arith)) at e in
      (cc, cc),
  λ h. absurd (omega (arith, ap (length {A = ℕ}) h.0)),
)

-- a text and its value; the texts of each table differ, by computing
pub value-exactly : (s : Sort) (t : List ℕ) (v : ℕ) → (value_of s t ≡ Ok v) ↔ IsValue s t v
unfolding value_of same
value-exactly Account t v = Iff.trans (valued-as (place_of t accounts) v) (distinct-exactly t accounts refl v)
value-exactly Side t v = Iff.trans (valued-as (place_of t sides) v) (distinct-exactly t sides refl v)
value-exactly Kind t v = Iff.trans (valued-as (place_of t kinds) v) (distinct-exactly t kinds refl v)
value-exactly Issuer t v = issuer-exactly t v
value-exactly Currency t v = Iff.trans (valued-as (place_of t currencies) v) (distinct-exactly t currencies refl v)
value-exactly Rating t v = Iff.trans (valued-as (place_of t ratings) v) (distinct-exactly t ratings refl v)
value-exactly Date t v = Iff.trans (valued-as (read_date t) v) (read-exactly t v)
value-exactly Six t v = Iff.trans (valued-as (numeral_of 6 t) v) (numeral_exactly 6 t v)
value-exactly Twelve t v = Iff.trans (valued-as (numeral_of 12 t) v) (numeral_exactly 12 t v)
value-exactly Empty t v = empty-value t v

-- several texts, where they are read as values
abbrev Good : List Sort → List (List ℕ) → Values → Type 0
Good ss ts (values vs) = AreValues ss ts vs
Good ss ts (wrong number) = Unit {0}

good-values : (ss : List Sort) (ts : List (List ℕ)) → Good ss ts (values_of ss ts)
unfolding values_of
good-values [] [] = no_values
good-values [] (t ∷ ts) = tt
good-values (s ∷ ss) [] = tt
good-values (s ∷ ss) (t ∷ ts) = by (value_of s t) (values_of ss ts) refl (good-values ss ts)
  where
    by : (w : Result ℕ Refusal) (ws : Values) → value_of s t ≡ w → Good ss ts ws → Good (s ∷ ss) (t ∷ ts) (and_value w ws)
    by (Ok v) (values vs) e h = value_and ((value-exactly s t v).0 e) h
    by (Ok v) (wrong number) e h = tt
    by (Err first) (values vs) e h = tt
    by (Err first) (wrong number) e h = tt

are-values : {ss : List Sort} {ts : List (List ℕ)} {vs : List ℕ} → AreValues ss ts vs → values_of ss ts ≡ values vs
unfolding values_of
are-values no_values = refl
are-values (value_and {s} {t} {v} h hs) = rw ((value-exactly s t v).1 h, are-values hs)

pub values-exactly : (ss : List Sort) (ts : List (List ℕ)) (vs : List ℕ) → (values_of ss ts ≡ values vs) ↔ AreValues ss ts vs
values-exactly ss ts vs = (λ e. subst (Good ss ts) e (good-values ss ts), are-values)
