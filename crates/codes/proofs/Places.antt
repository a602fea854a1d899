-- The place of a text is the first at which it stands; in a list of different texts it is the only one. Assumes nothing.
use mathlib.Core.Path.{◌≡◌, refl, sym, ◌∙◌}
use mathlib.Core.Logic.{◌↔◌, ◌≢◌}
use mathlib.Core.Bool.{Bool, true, not, ◌&&◌, and-eq-true_iff}
use mathlib.Core.List.{List, [], ◌∷◌}
use Prim.Native.Nat.{ℕ, zero, suc, ◌+◌, ◌<◌}
use native.Mathlib.Nat.{add-zero, zero-add}
use native.Mathlib.Omega.{arith}
use lib.ListN.{length, get_or}
use borrow.Author.Tests.{not-true}
use Rattle.lists.specs.Choice.{same, every}
use Rattle.lists.proofs.Entries.{each-by, each_at, same_false, eq_same, ne_same, one-or-not}
use Rattle.codes.specs.Codes.{place_from, place_of, Named}
use Rattle.std.specs.Prelude.{Some, None}

-- the text is that of place n, and of none before
pub record First (text : List ℕ) (ts : List (List ℕ)) (n : ℕ) : Type 0 where
  pub named : Named text ts n
  pub before : (k : ℕ) → k < n → text ≢ get_or ts k []

abbrev pub Absent : List ℕ → List (List ℕ) → Type 0
Absent text ts = (k : ℕ) → k < length ts → text ≢ get_or ts k []

module _ (text : List ℕ) where
  -- a place in a list, and in the list with a text in front
  later-named : (t : List ℕ) (ts : List (List ℕ)) (n : ℕ) → Named text ts n → Named text (t ∷ ts) (suc n)
  later-named t ts n p = record { inside = omega (arith, p.inside); here = p.here }

  ahead : (t : List ℕ) (ts : List (List ℕ)) (n : ℕ) → Named text (t ∷ ts) (suc n) → Named text ts n
  ahead t ts n p = record { inside = omega (arith, p.inside); here = p.here }

  from_first : (ts : List (List ℕ)) (j n : ℕ) → First text ts n → place_from j text ts ≡ Some (j + n)
  unfolding place_from
  from_first [] j n f = absurd (omega (arith, f.named.inside))
  from_first (t ∷ ts) j zero f = rw (eq_same text t f.named.here, add-zero)
  from_first (t ∷ ts) j (suc n) f =
      let next : suc j + n ≡ j + suc n = omega arith in
      let later : First text ts n = record { named = ahead t ts n f.named; before = λ k l. f.before (suc k) (omega arith) } in
      rw (ne_same text t (f.before 0 (omega arith)), ← next) (from_first ts (suc j) n later)

  from_absent : (ts : List (List ℕ)) (j : ℕ) → Absent text ts → place_from j text ts ≡ None
  unfolding place_from
  from_absent [] j h = refl
  from_absent (t ∷ ts) j h = rw (ne_same text t (h 0 (omega arith))) (from_absent ts (suc j) (λ k l. h (suc k) (omega arith)))

  pub place-first : (ts : List (List ℕ)) (n : ℕ) → First text ts n → place_of text ts ≡ Some n
  unfolding place_of
  place-first ts n f = from_first ts 0 n f ∙ rw (zero-add n)

  pub place_absent : (ts : List (List ℕ)) → Absent text ts → place_of text ts ≡ None
  unfolding place_of
  place_absent ts h = from_absent ts 0 h

  -- it stands at a first place, or at none
  either : {P : Type 0} (ts : List (List ℕ)) → ((n : ℕ) → First text ts n → P) → (Absent text ts → P) → P
  either [] p q = q (λ k l. absurd (omega arith))
  either (t ∷ ts) p q =
      one-or-not text t
      (λ e. p 0 (record { named = record { inside = omega arith; here = e }; before = λ k l. absurd (omega arith) }))
      (λ n.
      either ts
      (λ m f. p (suc m) (record { named = later-named t ts m f.named; before = later t ts n m f.before }))
      (λ a. q (later t ts n (length ts) a)))
    where
      later : (t : List ℕ) (ts : List (List ℕ)) → text ≢ t → (m : ℕ) → ((k : ℕ) → k < m → text ≢ get_or ts k []) → (k : ℕ) → k < suc m → text ≢ get_or (t ∷ ts) k []
      later t ts n m f zero l = n
      later t ts n m f (suc k) l = f k (omega arith)

  pub place-exactly : (ts : List (List ℕ)) (n : ℕ) → (place_of text ts ≡ Some n) ↔ First text ts n
  place-exactly ts n = (
    λ e. either ts
        (λ m f.
        let r = place-first ts m f in
        let s : m ≡ n = cc in
        rw (← s) f)
        (λ a.
        let r = place_absent ts a in
        let z : ◌≡◌ {A = ℕ} 0 1 = cc in
        absurd (omega arith)),
    place-first ts n,
  )

-- no text of the list stands in it again
abbrev pub distinct : List (List ℕ) → Bool
distinct [] = true
distinct (t ∷ ts) = every (λ u. not (same t u)) ts && distinct ts

-- then the first place of a text is its only one
pub distinct-first : (text : List ℕ) (ts : List (List ℕ)) → distinct ts ≡ true → (n : ℕ) → Named text ts n → First text ts n
distinct-first text ts d n p = record { named = p; before = before ts d n p }
  where
    before : (ts : List (List ℕ)) → distinct ts ≡ true → (n : ℕ) → Named text ts n → (k : ℕ) → k < n → text ≢ get_or ts k []
    before [] d n p k l = absurd (omega (arith, p.inside))
    before (t ∷ ts) d zero p k l = absurd (omega arith)
    before (t ∷ ts) d (suc n) p zero l =
        let (a, b) = (and-eq-true_iff (every (λ u. not (same t u)) ts) (distinct ts)).0 d in
        let others = each-by (λ u. t ≢ u) (λ u. not (same t u)) (λ u e. same_false t u (not-true (same t u) e)) ts a in
        λ e. each_at (λ u. t ≢ u) [] ts others n (omega (arith, p.inside)) (sym e ∙ p.here)
    before (t ∷ ts) d (suc n) p (suc k) l =
        let (a, b) = (and-eq-true_iff (every (λ u. not (same t u)) ts) (distinct ts)).0 d in
        before ts b n (ahead text t ts n p) k (omega arith)

pub distinct-exactly : (text : List ℕ) (ts : List (List ℕ)) → distinct ts ≡ true → (n : ℕ) → (place_of text ts ≡ Some n) ↔ Named text ts n
distinct-exactly text ts d n = (λ e. ((place-exactly text ts n).0 e).named, λ p. place-first text ts n (distinct-first text ts d n p))
