-- A record has no refusal exactly when it may come: it is good, its letter may follow, and it is not one too many. Assumes nothing.
use mathlib.Core.Path.{◌≡◌, sym, ◌∙◌}
use mathlib.Core.Logic.{◌↔◌, ◌≢◌}
use mathlib.Core.Bool.{true, false, ◌&&◌, false≢true}
use Prim.Native.Nat.{ℕ}
use lib.Dec.{eqb}
use borrow.Author.Tests.{eq-eqb, ne_eqb, not-false}
use Rattle.lists.proofs.Firsts.{None}
use Rattle.lists.proofs.Tests.{same_or_not}
use Rattle.std.specs.Prelude.{Option}
use Rattle.layout.specs.Layout.{Meaning, good, refused, may_follow}
use Rattle.reader.specs.File.{faults_of}

-- what may come after a letter and after so many of each
abbrev pub Comes : Option ℕ → (ℕ → ℕ) → Meaning → Type 0
Comes before count (good k vs) = (may_follow before k ≡ true) × (k ≡ 1 → count 1 ≢ 256) × (k ≡ 2 → count 2 ≢ 512)
Comes before count (refused number) = ⊥

-- two tests on numbers do not both hold
not_both : (a b c d : ℕ) → ((eqb a b && eqb c d) ≡ false) ↔ (a ≡ b → c ≢ d)
not_both a b c d = (
  λ e p q. false≢true (sym e ∙ rw (eq-eqb a b p, eq-eqb c d q)),
  λ h. same_or_not a b (λ p. rw (eq-eqb a b p, ne_eqb c d (h p))) (λ o. rw (ne_eqb a b o)),
)

pub comes_exactly : (n : ℕ) (before : Option ℕ) (count : ℕ → ℕ) (m : Meaning) → None (faults_of n before count m) ↔ Comes before count m
comes_exactly n before count (good k vs) = (
  λ c. (not-false _ c.0, (not_both k 1 (count 1) 256).0 c.1.0, (not_both k 2 (count 2) 512).0 c.1.1.0),
  λ h. (rw h.0, ((not_both k 1 (count 1) 256).1 h.1, ((not_both k 2 (count 2) 512).1 h.2, tt))),
)
comes_exactly n before count (refused number) = (λ c. false≢true (sym c.0), λ h. absurd h)
