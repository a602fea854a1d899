-- The characters of a number are written from the highest to the lowest, and those of two numbers one after the other. Assumes nothing.
use mathlib.Core.Path.{◌≡◌, refl, sym, ap, ◌∙◌}
use mathlib.Core.Logic.{◌≢◌}
use mathlib.Core.List.{List, [], ◌∷◌, ◌++◌}
use Prim.Native.Nat.{ℕ, zero, suc, ◌+◌, ◌-◌, ◌/◌, ◌%◌, ◌≤◌}
use native.Mathlib.Omega.{arith}
use lib.ListN.{length, set, length-append}
use Rattle.lists.specs.Tables.{overwrite}
use Rattle.lists.proofs.Overwrite.{overwrite-none, overwrite-one, overwrite-overwrite, length-overwrite}
use Rattle.lei.specs.declared.Lei.{Lei}
use Rattle.lei.specs.Lei.{character_of, characters, lei_text}

pub length-characters : (k v : ℕ) → length (characters k v) ≡ k
unfolding characters
length-characters zero v = refl
length-characters (suc k) v = length-append (characters k (v / 36)) (character_of (v % 36) ∷ []) ∙ omega (arith, length-characters k (v / 36))

pub written_none : (k v at : ℕ) (old : List ℕ) → k ≡ 0 → old ≡ overwrite at (characters k v) old
unfolding characters
written_none k v at old e = rw e (sym (overwrite-none at old))

-- a list written behind one of n entries
after : (at : ℕ) (old xs ys : List ℕ) (n : ℕ) → length xs ≡ n → at ≤ length old → overwrite (at + n) ys (overwrite at xs old) ≡ overwrite at (xs ++ ys) old
after at old xs ys n long h = ap (λ (m : ℕ). overwrite (at + m) ys (overwrite at xs old)) (sym long) ∙ overwrite-overwrite at xs ys old h

-- the lowest digit behind the others
pub written-more : (k v at : ℕ) (old mid : List ℕ) (c : ℕ) → k ≢ 0 → at + k ≤ length old → mid ≡ overwrite at (characters (k - 1) (v / 36)) old → c ≡ character_of (v % 36)
    → set mid (at + (k - 1)) c ≡ overwrite at (characters k v) old
unfolding characters
written-more zero v at old mid c n h e q = absurd (n refl)
written-more (suc k) v at old mid c n h e q =
    let j : suc k - 1 ≡ k = omega arith in
    let high = characters k (v / 36) in
    let low = character_of (v % 36) ∷ [] in
    let long = length-characters k (v / 36) in
    let kept : length mid ≡ length old = ap (length {A = ℕ}) e ∙ rw j (length-overwrite at high old (omega arith)) in
    overwrite-one (at + (suc k - 1)) c mid (omega arith) ∙ rw (e, j, q) (after at old high low k long (omega arith))

-- ten characters and ten
pub length-lei : (x : Lei) → length (lei_text x) ≡ 20
unfolding lei_text
length-lei x = length-append (characters 10 x.high) (characters 10 x.low) ∙ omega (arith, length-characters 10 x.high, length-characters 10 x.low)

pub written-lei : (x : Lei) (at : ℕ) (old mid end : List ℕ) → at + 20 ≤ length old → mid ≡ overwrite at (characters 10 x.high) old → end ≡ overwrite (at + 10) (characters 10 x.low) mid
    → end ≡ overwrite at (lei_text x) old
unfolding lei_text
written-lei x at old mid end h e q =
    q ∙ rw e (after at old (characters 10 x.high) (characters 10 x.low) 10 (length-characters 10 x.high) (omega arith))

-- what `put_characters` and `put_lei` owe
pub ruleset writes = (written_none, written-more, written-lei)
