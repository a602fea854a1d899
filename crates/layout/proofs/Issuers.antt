-- The value of an issuer is the place of its code, or that of a corporation for an LEI, which is no code. Assumes nothing.
use mathlib.Core.Path.{◌≡◌, refl, sym, ap, ◌∙◌}
use mathlib.Core.Logic.{◌↔◌, ⊎_elim, inl, inr}
use Rattle.std.specs.Prelude.{Option, Some, None, Result, Ok, Err, ⊤}
use Rattle.lei.specs.declared.NotLei.{NotLei, TheVariants.Form, TheVariants.Remainder}
use mathlib.Core.List.{List, []}
use Prim.Native.Nat.{ℕ}
use native.Mathlib.Omega.{arith}
use lib.Dec.{eqb}
use lib.ListN.{length}
use borrow.Author.Tests.{eqb-true}
use Rattle.lists.specs.Choice.{same}
use Rattle.lists.proofs.Entries.{each-by, each_at}
use Rattle.codes.specs.Codes.{place_of}
use Rattle.codes.proofs.Places.{place_absent, distinct-exactly}
use Rattle.lei.specs.Lei.{judged_of}
use Rattle.lei.proofs.Forms.{judging}
use Rattle.layout.specs.Layout.{issuers, IsValue, by_issuer, value_of}
use Rattle.layout.specs.declared.Sort.TheVariants.{Issuer}

-- a code has two characters
no_code : (t : List ℕ) → length t ≡ 20 → place_of t issuers ≡ None
no_code t h =
    let Two : List ℕ → Type 0 = λ u. length u ≡ 2 in
    let two = each-by Two (λ u. eqb (length u) 2) (λ u. eqb-true (length u) 2) issuers refl in
    place_absent t issuers (λ k l e. omega (arith, each_at Two [] issuers two k l, ap (length {A = ℕ}) e))

pub issuer-exactly : (t : List ℕ) (v : ℕ) → (value_of Issuer t ≡ Ok v) ↔ IsValue Issuer t v
unfolding value_of same
issuer-exactly t v = (
  by (place_of t issuers) (judged_of t) refl refl,
  ⊎_elim
      (λ named. rw ((distinct-exactly t issuers refl v).1 named))
      (λ (is, e). rw (no_code t is.form.long, (judging t).lei.1 is, e)),
)
  where
    by : (p : Option ℕ) (j : Result ⊤ NotLei) → place_of t issuers ≡ p → judged_of t ≡ j → by_issuer p j ≡ Ok v → IsValue Issuer t v
    by (Some n) j e f h =
        let same : n ≡ v = cc in
        inl ((distinct-exactly t issuers refl v).0 (e ∙ ap Some same))
    by None (Ok _) e f h =
        let same : 100 ≡ v = cc in
        inr ((judging t).lei.0 f, sym same)
    by None (Err Form) e f h = absurd cc
    by None (Err Remainder) e f h = absurd cc
