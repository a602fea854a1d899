-- No two lists are the balance of the same trades. Assumes nothing.
use mathlib.Core.Path.{◌≡◌, refl, sym, ap, ◌∙◌}
use mathlib.Core.Bool.{Bool, true, or-true, false≢true}
use mathlib.Core.List.{List, [], ◌∷◌}
use Prim.Native.Nat.{ℕ, ◌-◌, ◌<◌}
use native.Mathlib.Omega.{arith}
use Rattle.lists.specs.Tables.{Each}
use Rattle.lists.proofs.Tests.{either_way}
use Rattle.ledger.specs.Trades.{Trade, Entry, make_entry, listed, descriptions}
use Rattle.ledger.specs.Balance.{Ordered, added_of, taken_of, joined, Balance}
use Rattle.ledger.proofs.Holdings.{Equality, at_listed}

module _ {D : Type 0} {same : D → D → Bool} (E : Equality same) (key : D → ℕ) (amount : D → ℕ) where
  -- a description that is listed is the first one or is listed later
  listed_cases : {P : Type 0} (e : Entry D) (es : List (Entry D)) (d : D) → listed same (e ∷ es) d ≡ true
      → (same e.description d ≡ true → P) → (listed same es d ≡ true → P) → P
  unfolding listed
  listed_cases e es d h p q = either_way (same e.description d) p (λ s. q (rw s at h))

  listed-first : (e : Entry D) (es : List (Entry D)) → listed same (e ∷ es) e.description ≡ true
  unfolding listed
  listed-first e es = rw (E.itself e.description)

  listed-later : (e : Entry D) (es : List (Entry D)) (d : D) → listed same es d ≡ true → listed same (e ∷ es) d ≡ true
  unfolding listed
  listed-later e es d h = rw h (or-true (same e.description d))

  -- behind first entries of one description
  behind : (e f : Entry D) (es fs : List (Entry D)) → e.description ≡ f.description → Each (λ y. key e.description < key y) (descriptions es)
      → ((d : D) → listed same (e ∷ es) d ≡ true → listed same (f ∷ fs) d ≡ true) → (d : D) → listed same es d ≡ true → listed same fs d ≡ true
  behind e f es fs first o p d h =
      let above = at_listed E (λ y. key e.description < key y) es d o h in
      listed_cases f fs d (p d (listed-later e es d h))
      (λ s. absurd (omega (arith, above, ap key (first ∙ E.alike f.description d s))))
      (λ s. s)

  -- an ordered list with an amount for each description is settled by what it lists
  pub one_list : (es fs : List (Entry D))
      → Each (λ e. e.value ≡ amount e.description) es → Each (λ e. e.value ≡ amount e.description) fs
      → Ordered (λ x y. key x < key y) (descriptions es) → Ordered (λ x y. key x < key y) (descriptions fs)
      → ((d : D) → listed same es d ≡ true → listed same fs d ≡ true) → ((d : D) → listed same fs d ≡ true → listed same es d ≡ true) → es ≡ fs
  unfolding descriptions listed
  one_list [] [] a b o u p q = refl
  one_list [] (f ∷ fs) a b o u p q = absurd (false≢true (q f.description (listed-first f fs)))
  one_list (e ∷ es) [] a b o u p q = absurd (false≢true (p e.description (listed-first e es)))
  one_list (e ∷ es) (f ∷ fs) a b o u p q =
      let first : e.description ≡ f.description =
      listed_cases f fs e.description (p e.description (listed-first e es))
      (λ s. sym (E.alike f.description e.description s))
      (λ s.
      listed_cases e es f.description (q f.description (listed-first f fs))
      (λ r. E.alike e.description f.description r)
      (λ r.
      absurd (omega (
        arith,
        at_listed E (λ y. key f.description < key y) fs e.description u.0 s,
        at_listed E (λ y. key e.description < key y) es f.description o.0 r,
      )))) in
      let worth : e.value ≡ f.value = a.0 ∙ ap amount first ∙ sym b.0 in
      let rest =
      one_list es fs a.1 b.1 o.1 u.1 (behind e f es fs first o.0 p) (behind f e fs es (sym first) u.0 q) in
      λ i. make_entry (first i) (worth i) ∷ rest i

module _ {D : Type 0} {same : D → D → Bool} (E : Equality same) (trades : List (Trade D)) where
  -- one balance lists what another does
  also : (es fs : List (Entry D)) → Balance same trades es → Balance same trades fs → (d : D) → listed same es d ≡ true → listed same fs d ≡ true
  also es fs a b d h = b.all d (at_listed E (λ x. taken_of same trades x < added_of same trades x) es d a.just h)

  pub one-balance : (es fs : List (Entry D)) → Balance same trades es → Balance same trades fs → es ≡ fs
  one-balance es fs a b =
      one_list E (joined same trades) (λ d. added_of same trades d - taken_of same trades d) es fs
      a.difference b.difference a.order b.order (also es fs a b) (also fs es b a)
