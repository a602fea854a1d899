-- A record is parsed as a good one of a letter exactly when it is one: its values padded to all fields, and behind them the LEI of its issuer. Assumes nothing.
use mathlib.Core.Path.{◌≡◌, refl, sym, ap, subst, ◌∙◌}
use mathlib.Core.Logic.{◌↔◌}
use mathlib.Core.List.{List, [], ◌∷◌, ◌++◌}
use Prim.Native.Nat.{ℕ, zero, suc, ◌-◌, ◌≤◌}
use native.Mathlib.Omega.{arith}
use lib.Dec.{eqb}
use lib.ListN.{length, get_or, take, replicate, length-append, get_or-append}
use borrow.Author.Tests.{eq-eqb}
use Rattle.lists.specs.Choice.{same}
use Rattle.lists.specs.Tables.{list_to}
use Rattle.lists.proofs.Tables.{length_to, to_eq, to_back, take-to}
use Rattle.lists.proofs.Tests.{by-test}
use Rattle.rfc4180.specs.Reading.{field_count, formed}
use Rattle.codes.specs.Codes.{place_of, Named}
use Rattle.std.specs.Prelude.{Option, Some, None}
use Rattle.codes.proofs.Places.{distinct-exactly}
use Rattle.layout.specs.Layout.{AreValues, no_values, value_and, padded, letters, sorts_by, issuer_in, rating_in, Rated, IsRecord, Values, values, wrong, values_of}
use Rattle.layout.specs.Layout.{Meaning, good, refused, misrated, lei_numbers, meant, after_letter, parsed_of, parse}
use Rattle.layout.specs.declared.Sort.{Sort}
use Rattle.layout.specs.declared.Sort.TheVariants.{Empty}
use Rattle.layout.proofs.Letters.{padded-read, listed, length_sorts}
use Rattle.layout.proofs.Ratings.{rated-exactly}
use Rattle.readable.proofs.Values.{values-exactly}

-- what the texts of a record are, by what it is parsed as: the values of its fields, and the LEI behind them
pub record Parsed (k : ℕ) (vs : List ℕ) (letter : List ℕ) (texts : List (List ℕ)) : Type 0 where
  pub fields : List ℕ
  pub named : Named letter letters k
  pub are : AreValues (sorts_by k) texts fields
  pub rated : k ≡ 1 → Rated (issuer_in fields) (rating_in fields)
  pub behind : vs ≡ fields ++ lei_numbers (get_or texts 2 [])

abbrev ParsedAs : Meaning → List (List ℕ) → Type 0
ParsedAs (refused number) texts = Unit {0}
ParsedAs (good k vs) [] = ⊥
ParsedAs (good k vs) (letter ∷ texts) = Parsed k vs letter texts

-- as many texts as sorts, and values
as_many : {ss : List Sort} {ts : List (List ℕ)} {vs : List ℕ} → AreValues ss ts vs → (length ts ≡ length ss) × (length vs ≡ length ss)
as_many no_values = (refl, refl)
as_many (value_and h hs) = (ap suc (as_many hs).0, ap suc (as_many hs).1)

-- the letters differ, by computing
letter-exactly : (letter : List ℕ) (k : ℕ) → (place_of letter letters ≡ Some k) ↔ Named letter letters k
unfolding same
letter-exactly letter k = distinct-exactly letter letters refl k

module _ (letter : List ℕ) (texts : List (List ℕ)) where
  -- after a known letter, and after any
  meant_as : (k : ℕ) (vs : Values) → Named letter letters k → values_of (sorts_by k) texts ≡ vs → ParsedAs (meant k texts vs) (letter ∷ texts)
  meant_as k (values vs) n e =
      by-test (λ m. ParsedAs m (letter ∷ texts)) (misrated k (issuer_in vs) (rating_in vs)) (λ _. tt) (λ good.
      record { fields = vs; named = n; are = (values-exactly (sorts_by k) texts vs).0 e; rated = (rated-exactly k (issuer_in vs) (rating_in vs)).0 good; behind = refl })
  meant_as k (wrong number) n e = tt

  after_as : (p : Option ℕ) → place_of letter letters ≡ p → ParsedAs (after_letter p texts) (letter ∷ texts)
  after_as (Some k) e = meant_as k (values_of (sorts_by k) texts) ((letter-exactly letter k).0 e) refl
  after_as None e = tt

  -- good values after the letter of a number
  parse_values : (k : ℕ) (vs : List ℕ) → Named letter letters k → AreValues (sorts_by k) texts vs → (k ≡ 1 → Rated (issuer_in vs) (rating_in vs))
      → parse (formed (letter ∷ texts)) ≡ good k (vs ++ lei_numbers (get_or texts 2 []))
  unfolding parse parsed_of
  parse_values k vs n are rated =
      let all : suc (length texts) ≡ field_count = omega (arith, (as_many are).0, length_sorts k) in
      rw (eq-eqb (suc (length texts)) field_count all, (letter-exactly letter k).1 n, (values-exactly (sorts_by k) texts vs).1 are, (rated-exactly k (issuer_in vs) (rating_in vs)).1 rated)

fields_as : (texts : List (List ℕ)) → ParsedAs (parsed_of texts) texts
unfolding parsed_of
fields_as [] = tt
fields_as (letter ∷ texts) = after_as letter texts (place_of letter letters) refl

parsed_as : (texts : List (List ℕ)) {k : ℕ} {vs : List ℕ} → parse (formed texts) ≡ good k vs → ParsedAs (good k vs) texts
unfolding parse
parsed_as texts e = subst (λ m. ParsedAs m texts) e (by-test (λ m. ParsedAs m texts) (eqb (length texts) field_count) (λ _. fields_as texts) (λ _. tt))

-- the values of a good record: those given, padded, and the LEI of its fourth field
abbrev pub record_values : List (List ℕ) → List ℕ → List ℕ
record_values r vs = padded 0 vs ++ lei_numbers (get_or r 3 [])

pub record_good : (r : List (List ℕ)) (k : ℕ) (vs : List ℕ) → IsRecord k r vs → parse (formed r) ≡ good k (record_values r vs)
record_good [] k vs h = absurd h
record_good (letter ∷ texts) k vs (named, are, rated) =
    parse_values letter texts k (padded 0 vs) named are (rw (← padded-read 0 vs 2, ← padded-read 0 vs 7) at rated)

-- fields that must be empty have the value 0
empty-values : (ss : List Sort) (n : ℕ) {ts : List (List ℕ)} {vs : List ℕ} → AreValues (ss ++ replicate n Empty) ts vs → take (length ss) vs ++ replicate n 0 ≡ vs
empty-values [] zero no_values = refl
empty-values [] (suc n) (value_and is rest) = λ i. sym is.1 i ∷ empty-values [] n rest i
empty-values (s ∷ ss) n (value_and {v} is rest) = ap (v ∷◌) (empty-values ss n rest)

-- so a good record is one with the values of its listed sorts
module _ {k : ℕ} {vs letter : List ℕ} {texts : List (List ℕ)} (p : Parsed k vs letter texts) where
  abbrev n : ℕ
  n = length (listed k)

  abbrev firsts : List ℕ
  firsts = list_to n (λ j. get_or vs j 0)

  long : length p.fields ≡ field_count - 1
  long = (as_many p.are).1 ∙ length_sorts k

  few : n ≤ length p.fields
  few = omega (arith, long, length_sorts k, length-append (listed k) (replicate (field_count - suc n) Empty))

  first-values : padded 0 firsts ≡ p.fields
  first-values =
      let same = to_eq n _ _ (λ j h. ap (λ (ws : List ℕ). get_or ws j 0) p.behind ∙ get_or-append p.fields _ 0 j (omega (arith, few))) in
      let all = length p.fields in
      let taken : take n p.fields ≡ list_to n (λ j. get_or p.fields j 0) = rw (to_back all p.fields 0 refl) at (take-to all n (λ j. get_or p.fields j 0) few) in
      rw (length_to n (λ j. get_or vs j 0), same, ← taken) (empty-values (listed k) (field_count - suc n) p.are)

  pub parsed_record : IsRecord k (letter ∷ texts) firsts
  parsed_record = (p.named, rw first-values p.are, rw (← padded-read 0 firsts 2, ← padded-read 0 firsts 7, first-values) p.rated)

  pub parsed_values : vs ≡ record_values (letter ∷ texts) firsts
  parsed_values = p.behind ∙ rw first-values

pub record_of : (r : List (List ℕ)) (k : ℕ) (vs : List ℕ) → parse (formed r) ≡ good k vs
    → let firsts = list_to (length (listed k)) (λ j. get_or vs j 0) in IsRecord k r firsts × (vs ≡ record_values r firsts)
record_of [] k vs e = absurd (parsed_as [] e)
record_of (letter ∷ texts) k vs e = (parsed_record (parsed_as (letter ∷ texts) e), parsed_values (parsed_as (letter ∷ texts) e))
