-- What an adding and a taking leave of a list of entries: what each description holds, and in which order they stand. Assumes nothing.
use mathlib.Core.Path.{◌≡◌, refl, sym, ap, ◌∙◌}
use mathlib.Core.Logic.{◌≢◌}
use mathlib.Core.Bool.{Bool, true, false, cond, false≢true}
use mathlib.Core.List.{List, [], ◌∷◌, ◌++◌, map-append}
use Prim.Native.Nat.{ℕ, ◌+◌, ◌-◌, ◌≤◌}
use native.Mathlib.Omega.{arith}
use lib.Dec.{eqb}
use borrow.Author.Tests.{eqb-true, eqb-false}
use Rattle.lists.specs.Tables.{Each}
use Rattle.lists.proofs.Tests.{by-test, either_way, neither}
use Rattle.ledger.specs.Trades.{Entry, make_entry, listed, descriptions}
use Rattle.ledger.specs.Balance.{Ordered}

-- descriptions that pass the test are one, and each passes it with itself
pub record Equality {D : Type 0} (same : D → D → Bool) : Type 0 where
  pub itself : (d : D) → same d d ≡ true
  pub alike : (d e : D) → same d e ≡ true → d ≡ e

module _ {D : Type 0} (same : D → D → Bool) where
  -- what the first entry of the description holds, nothing if none has it
  unfoldable pub held : List (Entry D) → D → ℕ
  held [] d = 0
  held (e ∷ es) d = cond (same e.description d) e.value (held es d)

  -- value goes to the first entry of the description, or else joins at the end
  unfoldable pub added : D → ℕ → List (Entry D) → List (Entry D)
  added d v [] = make_entry d v ∷ []
  added d v (e ∷ es) = cond (same e.description d) (make_entry e.description (e.value + v) ∷ es) (e ∷ added d v es)

  -- value is removed from that first one: brought to zero it leaves, and later ones move up
  unfoldable pub taken : D → ℕ → List (Entry D) → List (Entry D)
  taken d v [] = []
  taken d v (e ∷ es) =
      cond (same e.description d) (cond (eqb e.value v) es (make_entry e.description (e.value - v) ∷ es)) (e ∷ taken d v es)

-- the descriptions with an entry at the end
pub descriptions-last : {D : Type 0} (es : List (Entry D)) (d : D) (v : ℕ) → descriptions (es ++ (make_entry d v ∷ [])) ≡ descriptions es ++ (d ∷ [])
unfolding descriptions
descriptions-last es d v = map-append (λ e. e.description) es (make_entry d v ∷ [])

module _ {D : Type 0} {same : D → D → Bool} (E : Equality same) where
  -- equal descriptions compare alike with any third
  pub same_as : (d e x : D) → same d e ≡ true → same d x ≡ same e x
  same_as d e x s = ap (λ (y : D). same y x) (E.alike d e s)

  pub differ : (d e : D) → same d e ≡ false → same e d ≡ false
  differ d e s = either_way (same e d) (λ q. absurd (false≢true (sym s ∙ sym (same_as e d e q) ∙ E.itself e))) (λ q. q)

  -- x is d, which is not e
  apart : (d e x : D) → same e d ≡ false → same e x ≡ true → same d x ≡ false
  apart d e x s q = differ x d (sym (same_as e x d q) ∙ s)

  pub held_none : (es : List (Entry D)) (d : D) → listed same es d ≡ false → held same es d ≡ 0
  unfolding listed held
  held_none [] d h = refl
  held_none (e ∷ es) d h =
      let (a, b) = neither (same e.description d) (listed same es d) h in
      rw a (held_none es d b)

  -- nothing is held of a description that differs from all
  pub held-apart : (es : List (Entry D)) (d : D) → Each (λ y. same d y ≡ false) (descriptions es) → held same es d ≡ 0
  unfolding held descriptions
  held-apart [] d p = refl
  held-apart (e ∷ es) d p = rw (differ d e.description p.0) (held-apart es d p.1)

  module _ (d : D) (v : ℕ) where
    pub held-added : (es : List (Entry D)) (x : D) → held same (added same d v es) x ≡ held same es x + cond (same d x) v 0
    unfolding held added
    held-added [] x = omega arith
    held-added (e ∷ es) x = by (same e.description d) refl (same e.description x) refl (held-added es x)
      where
        by : (s : Bool) → same e.description d ≡ s → (q : Bool) → same e.description x ≡ q
            → held same (added same d v es) x ≡ held same es x + cond (same d x) v 0
            → held same (added same d v (e ∷ es)) x ≡ held same (e ∷ es) x + cond (same d x) v 0
        by true s true q ih = rw (s, q, sym (same_as e.description d x s) ∙ q)
        by true s false q ih = rw (s, q, sym (same_as e.description d x s) ∙ q) (omega arith)
        by false s true q ih = rw (s, q, apart d e.description x s q) (omega arith)
        by false s false q ih = rw (s, q) ih

    -- a holding that leaves was the only one of its description
    pub held-taken : (es : List (Entry D)) → Ordered (λ x y. same x y ≡ false) (descriptions es) → v ≤ held same es d
        → (x : D) → held same (taken same d v es) x + cond (same d x) v 0 ≡ held same es x
    unfolding held taken descriptions
    held-taken [] o h x = by-test (λ (n : ℕ). 0 + n ≡ 0) (same d x) (λ s. omega arith) (λ s. omega arith)
    held-taken (e ∷ es) o h x = by (same e.description d) refl (same e.description x) refl (λ k. held-taken es o.1 k x)
      where
        by : (s : Bool) → same e.description d ≡ s → (q : Bool) → same e.description x ≡ q
            → (v ≤ held same es d → held same (taken same d v es) x + cond (same d x) v 0 ≡ held same es x)
            → held same (taken same d v (e ∷ es)) x + cond (same d x) v 0 ≡ held same (e ∷ es) x
        by true s true q ih = rw (s, q, sym (same_as e.description d x s) ∙ q)
            (by-test (λ (l : List (Entry D)). held same l x + v ≡ e.value) (eqb e.value v)
            (λ z. omega (arith, eqb-true e.value v z, held-apart es x (rw (E.alike e.description x q) at o.0)))
            (λ z.
            let k : v ≤ e.value = rw s at h in
            rw q (omega arith)))
        by true s false q ih = rw (s, q, sym (same_as e.description d x s) ∙ q)
            (by-test (λ (l : List (Entry D)). held same l x + 0 ≡ held same es x) (eqb e.value v)
            (λ z. omega arith)
            (λ z. rw q (omega arith)))
        by false s true q ih = rw (s, q, apart d e.description x s q) (omega arith)
        by false s false q ih = rw (s, q) (ih (rw s at h))

    -- nothing is held at zero
    pub positive-added : (es : List (Entry D)) → 1 ≤ v → Each (λ e. 1 ≤ e.value) es → Each (λ e. 1 ≤ e.value) (added same d v es)
    unfolding added
    positive-added [] g p = (g, tt)
    positive-added (e ∷ es) g p =
        by-test (λ (l : List (Entry D)). Each (λ e. 1 ≤ e.value) l) (same e.description d)
        (λ s. (omega (arith, p.0), p.1))
        (λ s. (p.0, positive-added es g p.1))

    pub positive-taken : (es : List (Entry D)) → v ≤ held same es d → Each (λ e. 1 ≤ e.value) es → Each (λ e. 1 ≤ e.value) (taken same d v es)
    unfolding taken held
    positive-taken [] h p = tt
    positive-taken (e ∷ es) h p =
        by-test (λ (l : List (Entry D)). Each (λ e. 1 ≤ e.value) l) (same e.description d)
        (λ s.
        let k : v ≤ e.value = rw s at h in
        by-test (λ (l : List (Entry D)). Each (λ e. 1 ≤ e.value) l) (eqb e.value v)
        (λ z. p.1)
        (λ z.
        let n : e.value ≢ v = eqb-false e.value v z in
        (omega arith, p.1)))
        (λ s. (p.0, positive-taken es (rw s at h) p.1))

    -- an adding keeps the descriptions where it finds its own, and else puts its own behind them
    pub descriptions-kept : (es : List (Entry D)) → listed same es d ≡ true → descriptions (added same d v es) ≡ descriptions es
    unfolding added listed descriptions
    descriptions-kept [] h = absurd (false≢true h)
    descriptions-kept (e ∷ es) h =
        by-test (λ (l : List (Entry D)). descriptions l ≡ descriptions (e ∷ es)) (same e.description d)
        (λ s. refl)
        (λ s. ap (λ (l : List D). e.description ∷ l) (descriptions-kept es (rw s at h)))

    pub added-last : (es : List (Entry D)) → listed same es d ≡ false → added same d v es ≡ es ++ (make_entry d v ∷ [])
    unfolding added listed
    added-last [] h = refl
    added-last (e ∷ es) h =
        let (a, b) = neither (same e.description d) (listed same es d) h in
        rw a (ap (λ (l : List (Entry D)). e ∷ l) (added-last es b))

    -- what holds of all descriptions, and their order, a taking keeps
    pub each-taken : (P : D → Type 0) (es : List (Entry D)) → Each P (descriptions es) → Each P (descriptions (taken same d v es))
    unfolding taken descriptions
    each-taken P [] p = tt
    each-taken P (e ∷ es) p =
        by-test (λ (l : List (Entry D)). Each P (descriptions l)) (same e.description d)
        (λ s. by-test (λ (l : List (Entry D)). Each P (descriptions l)) (eqb e.value v) (λ z. p.1) (λ z. p))
        (λ s. (p.0, each-taken P es p.1))

    pub ordered-taken : (F : D → D → Type 0) (es : List (Entry D)) → Ordered F (descriptions es) → Ordered F (descriptions (taken same d v es))
    unfolding taken descriptions
    ordered-taken F [] p = tt
    ordered-taken F (e ∷ es) p =
        by-test (λ (l : List (Entry D)). Ordered F (descriptions l)) (same e.description d)
        (λ s. by-test (λ (l : List (Entry D)). Ordered F (descriptions l)) (eqb e.value v) (λ z. p.1) (λ z. p))
        (λ s. (each-taken (F e.description) es p.0, ordered-taken F es p.1))

  -- a description that is not listed differs from all, and one that is listed is one of them
  pub unlisted : (es : List (Entry D)) (d : D) → listed same es d ≡ false → Each (λ x. same x d ≡ false) (descriptions es)
  unfolding listed descriptions
  unlisted [] d h = tt
  unlisted (e ∷ es) d h =
      let (a, b) = neither (same e.description d) (listed same es d) h in
      (a, unlisted es d b)

  pub at_listed : (P : D → Type 0) (es : List (Entry D)) (d : D) → Each P (descriptions es) → listed same es d ≡ true → P d
  unfolding listed descriptions
  at_listed P [] d p h = absurd (false≢true h)
  at_listed P (e ∷ es) d p h =
      either_way (same e.description d)
      (λ s. rw (E.alike e.description d s) at p.0)
      (λ s. at_listed P es d p.1 (rw s at h))

  pub listed-held : (es : List (Entry D)) (d : D) → Each (λ e. 1 ≤ e.value) es → listed same es d ≡ true → 1 ≤ held same es d
  unfolding listed held
  listed-held [] d p h = absurd (false≢true h)
  listed-held (e ∷ es) d p h =
      by-test (λ (n : ℕ). 1 ≤ n) (same e.description d)
      (λ s. p.0)
      (λ s. listed-held es d p.1 (rw s at h))

  -- each holding, where no two have one description, is the first of its own
  pub each-held : (es : List (Entry D)) → Ordered (λ x y. same x y ≡ false) (descriptions es) → Each (λ e. held same es e.description ≡ e.value) es
  unfolding held descriptions
  each-held [] o = tt
  each-held (e ∷ es) o = (rw (E.itself e.description), past es o.0 (each-held es o.1))
    where
      past : (ys : List (Entry D)) → Each (λ y. same e.description y ≡ false) (descriptions ys)
          → Each (λ y. held same es y.description ≡ y.value) ys → Each (λ y. held same (e ∷ es) y.description ≡ y.value) ys
      past [] p h = tt
      past (y ∷ ys) p h = (rw p.0 h.0, past ys p.1 h.1)
