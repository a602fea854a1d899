-- Numbers that go by the LEIs that are known go by first appearance. Assumes nothing.
use mathlib.Core.Path.{◌≡◌, refl, sym, ap, ◌∙◌}
use mathlib.Core.Logic.{◌↔◌, ◌≢◌, ◌⊎◌, inl, inr, ⊎_elim}
use mathlib.Core.List.{List, [], ◌∷◌}
use Prim.Native.Nat.{ℕ, zero, suc, ◌+◌, ◌-◌, ◌≤◌, ◌<◌}
use native.Mathlib.Omega.{arith}
use lib.ListN.{length, get_or, take, length-append, get_or-append}
use lib.Seq.{length-take-le, get_or-take, get_or-append_seam}
use Rattle.lists.proofs.Tests.{by_end, same_or_not}
use Rattle.holding.specs.declared.Row.{Row}
use Rattle.proposal.specs.Submission.{no_row}
use Rattle.lei.specs.Lei.{IsLei}
use Rattle.codes.specs.Codes.{Named}
use Rattle.layout.specs.Layout.{corporation}
use Rattle.std.specs.Prelude.{Ok}
use Rattle.layout.proofs.Issuers.{issuer-exactly}
use Rattle.readable.specs.Readable.{Issued, government, known_corporation, new_corporation, AreHoldings, no_holdings, holding_and, issuer_text, text_at, number_at, ByFirst}
use Rattle.readable.proofs.Known.{Known, known-none, issued-known}

-- what is known stays at its place
pub record Grown (known then : List (List ℕ)) : Type 0 where
  pub long : length known ≤ length then
  pub kept : (k : ℕ) → k < length known → get_or then k [] ≡ get_or known k []

issued_grown : {known then : List (List ℕ)} {t : List ℕ} {v n : ℕ} → Issued known t v n then → Grown known then
issued_grown (government named) = record { long = omega arith; kept = λ k h. refl }
issued_grown (known_corporation is at) = record { long = omega arith; kept = λ k h. refl }
issued_grown {known} {t = t} (new_corporation is new) =
    record { long = omega (arith, length-append known (t ∷ [])); kept = λ k h. get_or-append known (t ∷ []) [] k h }

-- a number from 100 on is that of the place of the text
issued-at : {known then : List (List ℕ)} {t : List ℕ} {v n : ℕ} → Issued known t v n then → (k : ℕ) → n ≡ 100 + k → Named t then k
issued-at (government named) k e = absurd (omega (arith, named.inside))
issued-at {known} {t = t} (known_corporation {k = j} is at) k e =
    let same : j ≡ k = omega (arith, e) in
    rw same at at
issued-at {known} {t = t} (new_corporation is new) k e =
    let last : k ≡ length known = omega (arith, e) in
    record { inside = omega (arith, length-append known (t ∷ [])); here = rw last (sym (get_or-append_seam known t [] [])) }

-- each is within those known then
pub issued-within : {known then : List (List ℕ)} {t : List ℕ} {v n : ℕ} → Issued known t v n then → n < 100 + length then
issued-within (government named) = omega (arith, named.inside)
issued-within (known_corporation is at) = omega (arith, at.inside)
issued-within {known} {t = t} (new_corporation is new) = omega (arith, length-append known (t ∷ []))

-- and of a corporation
issued-corporate : {known then : List (List ℕ)} {t : List ℕ} {v n : ℕ} → Issued known t v n then → (100 ≤ n) ↔ IsLei t
issued-corporate {t = t} {v = v} (government named) = (
  λ h. absurd (omega (arith, named.inside)),
  λ is.
      let both : Ok v ≡ Ok corporation = sym ((issuer-exactly t v).1 (inl named)) ∙ (issuer-exactly t corporation).1 (inr (is, refl)) in
      let same : v ≡ corporation = cc in
      omega (arith, named.inside),
)
issued-corporate (known_corporation is at) = (λ h. is, λ _. omega arith)
issued-corporate (new_corporation is new) = (λ h. is, λ _. omega arith)

-- it joins at the end, or was there
issued-joins : {known then : List (List ℕ)} {t : List ℕ} {v n : ℕ} → Issued known t v n then → (k : ℕ) → length known ≤ k → (n ≡ 100 + k) ⊎ (length then ≤ k)
issued-joins (government named) k h = inr h
issued-joins (known_corporation is at) k h = inr h
issued-joins {known} {t = t} (new_corporation is new) k h =
    same_or_not k (length known) (λ e. inl (omega (arith, e))) (λ o. inr (omega (arith, length-append known (t ∷ []))))

issued-most : {known then : List (List ℕ)} {t : List ℕ} {v n : ℕ} → Issued known t v n then → n ≤ 100 + length known
issued-most (government named) = omega (arith, named.inside)
issued-most (known_corporation is at) = omega (arith, at.inside)
issued-most (new_corporation is new) = omega arith

issued_new : {known then : List (List ℕ)} {t : List ℕ} {v n : ℕ} → Issued known t v n then → 100 ≤ n
    → ((k : ℕ) → k < length known → get_or known k [] ≢ t) → n ≡ 100 + length known
issued_new (government named) c new = absurd (omega (arith, named.inside))
issued_new (known_corporation {k = k} is at) c new = absurd (new k at.inside (sym at.here))
issued_new (new_corporation is new) c _ = refl

-- the same of holdings one after another
pub holdings_grown : {known leis : List (List ℕ)} {rs : List (List (List ℕ))} {rows : List Row} {prices : List ℕ} → AreHoldings known rs rows prices leis → Grown known leis
holdings_grown no_holdings = record { long = omega arith; kept = λ k h. refl }
holdings_grown (holding_and is issued rest) =
    let first = issued_grown issued in
    let others = holdings_grown rest in
    record { long = omega (arith, first.long, others.long); kept = λ k h. others.kept k (omega (arith, first.long)) ∙ first.kept k h }

pub holdings-known : {known leis : List (List ℕ)} {rs : List (List (List ℕ))} {rows : List Row} {prices : List ℕ} → AreHoldings known rs rows prices leis → Known known → Known leis
holdings-known no_holdings m = m
holdings-known (holding_and is issued rest) m = holdings-known rest (issued-known issued m)

-- each holding adds one LEI at most
issued-few : {known then : List (List ℕ)} {t : List ℕ} {v n : ℕ} → Issued known t v n then → length then ≤ suc (length known)
issued-few (government named) = omega arith
issued-few (known_corporation is at) = omega arith
issued-few {known} {t = t} (new_corporation is new) = omega (arith, length-append known (t ∷ []))

pub holdings-few : {known leis : List (List ℕ)} {rs : List (List (List ℕ))} {rows : List Row} {prices : List ℕ} → AreHoldings known rs rows prices leis
    → length leis ≤ length known + length rows
holdings-few no_holdings = omega arith
holdings-few (holding_and is issued rest) = omega (arith, issued-few issued, holdings-few rest)

pub number_at_lem : {known leis : List (List ℕ)} {rs : List (List (List ℕ))} {rows : List Row} {prices : List ℕ} → AreHoldings known rs rows prices leis
    → (i k : ℕ) → i < length rows → number_at rows i ≡ 100 + k → Named (text_at rs i) leis k
number_at_lem no_holdings i k h e = absurd (omega arith)
number_at_lem (holding_and is issued rest) zero k h e =
    let at = issued-at issued k e in
    let g = holdings_grown rest in
    record { inside = omega (arith, at.inside, g.long); here = at.here ∙ sym (g.kept k at.inside) }
number_at_lem (holding_and is issued rest) (suc i) k h e = number_at_lem rest i k (omega arith) e

pub number-within : {known leis : List (List ℕ)} {rs : List (List (List ℕ))} {rows : List Row} {prices : List ℕ} → AreHoldings known rs rows prices leis
    → (i : ℕ) → i < length rows → number_at rows i < 100 + length leis
number-within no_holdings i h = absurd (omega arith)
number-within (holding_and is issued rest) zero h = omega (arith, issued-within issued, (holdings_grown rest).long)
number-within (holding_and is issued rest) (suc i) h = number-within rest i (omega arith)

-- every LEI that joined is that of a holding
abbrev Held : List Row → ℕ → Type 0
Held rows k = (j : ℕ) × (j < length rows) × (number_at rows j ≡ 100 + k)

number-held : {known leis : List (List ℕ)} {rs : List (List (List ℕ))} {rows : List Row} {prices : List ℕ} → AreHoldings known rs rows prices leis
    → (k : ℕ) → length known ≤ k → k < length leis → Held rows k
number-held no_holdings k h l = absurd (omega arith)
number-held {known} (holding_and {row = row} {rows = rows} is issued rest) k h l =
    ⊎_elim (λ e. (0, omega arith, e)) (λ g. later (number-held rest k g l)) (issued-joins issued k h)
  where
    later : Held rows k → Held (row ∷ rows) k
    later (j, q, e) = (suc j, omega arith, e)

-- what is promised of a holding, from those before it
record Before (known : List (List ℕ)) (rs : List (List (List ℕ))) (rows : List Row) (prices : List ℕ) (i : ℕ) : Type 0 where
  mid : List (List ℕ)
  then : List (List ℕ)
  value : ℕ
  front : AreHoldings known (take i rs) (take i rows) (take i prices) mid
  here : Issued mid (text_at rs i) value (number_at rows i) then

before : {known leis : List (List ℕ)} {rs : List (List (List ℕ))} {rows : List Row} {prices : List ℕ} → AreHoldings known rs rows prices leis
    → (i : ℕ) → i < length rows → Before known rs rows prices i
before no_holdings i h = absurd (omega arith)
before {known} (holding_and {then = then} {v = v} is issued rest) zero h = record { mid = known; then = then; value = v; front = no_holdings; here = issued }
before (holding_and is issued rest) (suc i) h =
    let b = before rest i (omega arith) in
    record { mid = b.mid; then = b.then; value = b.value; front = holding_and is issued b.front; here = b.here }

-- records each a good H, from nothing known
module _ {rs : List (List (List ℕ))} {rows : List Row} {prices : List ℕ} {leis : List (List ℕ)} (h : AreHoldings [] rs rows prices leis) where
  module _ (i : ℕ) (l : i < length rows) where
    abbrev b : Before [] rs rows prices i
    b = before h i l

    few : length (take i rows) ≡ i
    few = length-take-le i rows (omega arith)

    -- what stands among those before it stands there
    held-before : (k : ℕ) → k < length b.mid → (j : ℕ) × (j < i) × (number_at rows j ≡ 100 + k) × (text_at rs j ≡ get_or b.mid k [])
    held-before k q =
        let (j, m, e) = number-held b.front k (omega arith) q in
        let near : j < i = omega (arith, few) in
        let text = number_at_lem b.front j k m e in
        (j, near, sym (ap (λ (r : Row). r.issuer) (get_or-take i rows j no_row near)) ∙ e, sym (ap issuer_text (get_or-take i rs j [] near)) ∙ text.here)

    -- a number from 100 on that is below one, or a text that stood before
    next : (n : ℕ) → 100 ≤ n → n < number_at rows i → (j : ℕ) × (j < i) × (number_at rows j ≡ n)
    next n low high =
        let (j, q, e, _) = held-before (n - 100) (omega (arith, issued-most b.here)) in
        (j, q, omega (arith, e))

    above : 100 ≤ number_at rows i → ((j : ℕ) → j < i → text_at rs j ≢ text_at rs i) → (j : ℕ) → j < i → number_at rows j < number_at rows i
    above c new j q =
        let last : number_at rows i ≡ 100 + length b.mid =
        issued_new b.here c (λ k m e.
        let (o, p, _, s) = held-before k m in
        new o p (s ∙ e)) in
        let most = number-within b.front j (omega (arith, few)) in
        let same = ap (λ (r : Row). r.issuer) (get_or-take i rows j no_row q) in
        omega (arith, last, most, same)

  -- of two corporations
  same : (i j : ℕ) → i < length rows → j < length rows → 100 ≤ number_at rows i → 100 ≤ number_at rows j → (number_at rows i ≡ number_at rows j) ↔ (text_at rs i ≡ text_at rs j)
  same i j l m c d =
      let k = number_at rows i - 100 in
      let o = number_at rows j - 100 in
      let one = number_at_lem h i k l (omega (arith, c)) in
      let two = number_at_lem h j o m (omega (arith, d)) in
      let once = (holdings-known h known-none).once in (
        λ e.
            let k-is : k ≡ o = omega (arith, e) in
            one.here ∙ ap (λ (n : ℕ). get_or leis n []) k-is ∙ sym two.here,
        λ e.
            let equal = sym one.here ∙ e ∙ two.here in
            by_end (λ (n : ℕ). k ≡ n → number_at rows i ≡ number_at rows j) o
            (λ n less s. absurd (once k o (omega arith) two.inside equal))
            (λ n more s. same_or_not k o (λ z. omega (arith, c, d)) (λ z. absurd (once o k (omega arith) one.inside (sym equal))))
            k refl,
      )

  pub by_first : (i : ℕ) → i < length rows → ByFirst rs rows i
  by_first i l = record { corporate = issued-corporate (b i l).here; same = λ j m. same i j l m; above = above i l; next = next i l }
