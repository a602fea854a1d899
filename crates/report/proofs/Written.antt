-- Texts written one after another, and one written from the start. Assumes nothing.
use mathlib.Core.Path.{◌≡◌, refl, sym, ◌∙◌}
use mathlib.Core.List.{List, [], ◌∷◌, ◌++◌, flat_map, append_assoc, append-nil}
use Prim.Native.Nat.{ℕ, ◌+◌, ◌≤◌, ◌<◌}
use native.Mathlib.Numerals.{add-one}
use native.Mathlib.Omega.{arith}
use lib.ListN.{length, get_or, take, drop, set, length-append}
use lib.Seq.{take-suc, take_at}
use Rattle.lists.specs.Tables.{front}
use Rattle.lists.proofs.Overwrite.{overwrite-front, overwrite-none, overwrite-one, overwrite-overwrite}
use Rattle.report.specs.Report.{Written}

flat_append : (f : ℕ → List ℕ) (xs : List ℕ) (x : ℕ) → flat_map f (xs ++ (x ∷ [])) ≡ flat_map f xs ++ f x
unfolding flat_map
flat_append f [] x = append-nil (f x)
flat_append f (y ∷ xs) x = rw (flat_append f xs x) (sym (append_assoc (f y) (flat_map f xs) (f x)))

pub written_none : (at : ℕ) (old : List ℕ) → Written [] at at old old
written_none at old = record { ends = omega arith; bytes = sym (overwrite-none at old) }

pub written_one : (at x : ℕ) (old : List ℕ) → at < length old → Written (x ∷ []) at (at + 1) old (set old at x)
written_one at x old h = record { ends = refl; bytes = overwrite-one at x old h }

-- one text after another
pub written_then : {xs ys : List ℕ} {at middle next : ℕ} {old mid now : List ℕ} → at ≤ length old → Written xs at middle old mid → Written ys middle next mid now
    → Written (xs ++ ys) at next old now
written_then {xs} {ys} {at} {middle} {next} {old} {mid} {now} h p q = record {
  ends = omega (arith, p.ends, q.ends, length-append xs ys);
  bytes = q.bytes ∙ rw (p.bytes, p.ends) (overwrite-overwrite at xs ys old h);
}

-- the texts of the first i + 1 entries, when those of the first i are written
pub written-more : (f : ℕ → List ℕ) (xs : List ℕ) (i : ℕ) {at middle next : ℕ} {old mid now : List ℕ} → i < length xs → at ≤ length old
    → Written (flat_map f (take i xs)) at middle old mid → Written (f (get_or xs i 0)) middle next mid now → Written (flat_map f (take (i + 1) xs)) at next old now
written-more f xs i l h p q = rw (add-one, take-suc xs i 0 l, flat_append f (take i xs) (get_or xs i 0)) (written_then h p q)

-- written from the start, a text is the first bytes there, and is within the list
module _ {text old now : List ℕ} {n : ℕ} (w : Written text 0 n old now) where
  at_front : now ≡ front text old
  at_front = w.bytes ∙ overwrite-front text old

  pub written-part : take n now ≡ text
  unfolding front
  written-part = rw at_front (take_at text (drop (length text) old) n (omega (arith, w.ends)))

  pub written-counted : n ≡ length (take n now)
  written-counted = rw written-part (omega (arith, w.ends))

  pub written-few : n ≤ length now
  unfolding front
  written-few = rw at_front (omega (arith, w.ends, length-append text (drop (length text) old)))
