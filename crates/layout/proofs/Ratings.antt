-- The value of a rating by its length, and when an H is not misrated. Assumes nothing.
use mathlib.Core.Path.{◌≡◌, refl}
use mathlib.Core.Logic.{◌↔◌, ◌≢◌}
use Rattle.std.specs.Prelude.{Result, Ok}
use mathlib.Core.Bool.{false}
use mathlib.Core.List.{List, [], ◌∷◌}
use Prim.Native.Nat.{ℕ}
use native.Mathlib.Omega.{arith}
use lib.Dec.{eqb}
use lib.ListN.{length}
use borrow.Author.Tests.{eq-eqb, ne_eqb, lt-leb, leb-false, eqb-true, not-false}
use Rattle.lists.specs.Choice.{same}
use Rattle.lists.specs.Tables.{ascii}
use Rattle.lists.proofs.Tests.{same_or_not}
use Rattle.codes.specs.Codes.{place_from, place_of}
use Rattle.refusals.specs.declared.Refusal.{Refusal}
use Rattle.layout.specs.Layout.{ratings, corporation, valued, Rated, misrated}

-- none, or one of the two letters
pub rating_none : (t : List ℕ) → length t ≡ 0 → ◌≡◌ {A = Result ℕ Refusal} (Ok 2) (valued (place_of t ratings))
unfolding place_of place_from same
rating_none [] h = refl
rating_none (c ∷ t) h = absurd (omega arith)

pub rating_given : (t : List ℕ) → length t ≢ 0 → place_of t (ascii "Y" ∷ ascii "N" ∷ []) ≡ place_of t ratings
unfolding place_of place_from same
rating_given [] h = absurd (h refl)
rating_given (c ∷ t) h = refl

pub ruleset rated = (rating_none, rating_given)

-- the test and the paper's words
pub rated-exactly : (letter issuer rating : ℕ) → (misrated letter issuer rating ≡ false) ↔ (letter ≡ 1 → Rated issuer rating)
unfolding misrated
rated-exactly letter issuer rating = (
  λ e h. record {
    given = λ c. leb-false 2 rating (rw (eq-eqb letter 1 h, eq-eqb issuer corporation c) at e);
    none = λ g. eqb-true rating 2 (not-false (eqb rating 2) (rw (eq-eqb letter 1 h, ne_eqb issuer corporation g) at e));
  },
  λ f. same_or_not letter 1
      (λ h.
      same_or_not issuer corporation
      (λ c. rw (eq-eqb letter 1 h, eq-eqb issuer corporation c) (lt-leb 2 rating ((f h).given c)))
      (λ g. rw (eq-eqb letter 1 h, ne_eqb issuer corporation g, eq-eqb rating 2 ((f h).none g))))
      (λ n. rw (ne_eqb letter 1 n)),
)
