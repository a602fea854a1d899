-- The holdings of a list seen in turn, as its rows are given. Assumes nothing.
use mathlib.Core.Path.{◌≡◌, sym, ap, subst, ◌∙◌}
use mathlib.Core.List.{List, [], ◌∷◌, ◌++◌}
use Prim.Native.Nat.{ℕ, ◌+◌, ◌-◌, ◌<◌}
use native.Mathlib.Omega.{arith}
use lib.ListN.{length, take, drop}
use lib.Seq.{length-take-le, take-take}
use Rattle.std.proofs.lemmas.List.{take-append-drop, drop-take, take_more}
use Rattle.std.specs.Prelude.{Result, Ok, Err}
use Rattle.holding.specs.declared.{Account.Account, Row.Row}
use Rattle.proposal.specs.Submission.{no_row}
use Rattle.daybook.specs.declared.Refused.{Refused}
use Rattle.booking.specs.Seeing.{Seen, Sees, Lists}
use Rattle.booking.specs.declared.Scan.{Scan}
use Rattle.booking.proofs.Seen.{seen_past}

take_split : {A : Type 0} (k n : ℕ) (l : List A) → take (k + n) l ≡ take k l ++ take n (drop k l)
take_split {A} k n l =
    sym (take-append-drop k (take (k + n) l))
    ∙ ap (λ (xs : List A). xs ++ drop k (take (k + n) l)) (take-take k (k + n) l (omega arith))
    ∙ ap (λ (xs : List A). take k l ++ xs) (drop-take k n l)

module _ {a : Account} {t : Row} (given : ℕ → Row → Type 0) (count : ℕ) (list : List Row) (lists : Lists given count list) {i : ℕ} {s : Scan} {r : Row}
    (at : given i r) (few : i < count) (low : i < length list) where
  -- one more
  pub seen_next : {next : Result Scan Refused} → Seen a t (take i list) (Ok s) → Sees a t s i r next → Seen a t (take (i + 1) list) next
  seen_next {next} seen sees =
      subst (λ (l : List Row). Seen a t l next)
      (ap (λ (x : Row). take i list ++ (x ∷ [])) (lists i few low r at) ∙ sym (take_more list i no_row low))
      (sees (take i list) (length-take-le i list (omega arith)) seen)

  -- the fault of one is that of all
  pub seen_to_end : {x : Refused} → Seen a t (take i list) (Ok s) → Sees a t s i r (Err x) → Seen a t (take count list) (Err x)
  seen_to_end {x} seen sees =
      let rest = count - (i + 1) in
      let whole : i + 1 + rest ≡ count = omega arith in
      subst (λ (l : List Row). Seen a t l (Err x))
      (sym (take_split (i + 1) rest list) ∙ ap (λ (n : ℕ). take n list) whole)
      (seen_past (take (i + 1) list) (take rest (drop (i + 1) list)) (seen_next seen sees))
