-- The texts of LEIs are written one after another, 20 bytes each, and read back at their places. Assumes nothing.
use mathlib.Core.Path.{◌≡◌, refl, sym, ◌∙◌}
use mathlib.Core.List.{List, [], ◌∷◌, ◌++◌, append_assoc, append-nil}
use Prim.Native.Nat.{ℕ, zero, suc, ◌+◌, ◌*◌, ◌≤◌, ◌<◌}
use native.Mathlib.Numerals.{add-one}
use native.Mathlib.Omega.{arith}
use lib.ListN.{length, get_or, take, drop, length-append}
use lib.Seq.{take_at, drop-append-add, take-suc, length-take-le}
use Rattle.lists.specs.Tables.{front, overwrite}
use Rattle.lists.proofs.Overwrite.{overwrite-overwrite}
use Rattle.lei.specs.declared.Lei.{Lei}
use Rattle.lei.specs.Lei.{lei_text, no_lei}
use Rattle.lei.proofs.Written.{length-lei}
use Rattle.received.specs.Naming.{lei_texts}

-- as many bytes as 20 for each
pub length-texts : (xs : List Lei) → length (lei_texts xs) ≡ 20 * length xs
unfolding lei_texts
length-texts [] = refl
length-texts (x ∷ xs) = length-append (lei_text x) (lei_texts xs) ∙ omega (arith, length-lei x, length-texts xs)

texts-more : (xs : List Lei) (x : Lei) → lei_texts (xs ++ (x ∷ [])) ≡ lei_texts xs ++ lei_text x
unfolding lei_texts
texts-more [] x = append-nil (lei_text x)
texts-more (y ∷ xs) x = rw (texts-more xs x) (sym (append_assoc (lei_text y) (lei_texts xs) (lei_text x)))

-- the bytes at a place are the text that was written there
pub text-read : (xs : List Lei) (k : ℕ) (rest : List ℕ) → k < length xs → take 20 (drop (20 * k) (lei_texts xs ++ rest)) ≡ lei_text (get_or xs k no_lei)
unfolding lei_texts
text-read [] k rest h = absurd (omega arith)
text-read (x ∷ xs) zero rest h = rw (append_assoc (lei_text x)) (take_at (lei_text x) (lei_texts xs ++ rest) 20 (length-lei x))
text-read (x ∷ xs) (suc k) rest h =
    let far : 20 * suc k ≡ length (lei_text x) + 20 * k = omega (arith, length-lei x) in
    rw (append_assoc (lei_text x), far, drop-append-add (lei_text x) (lei_texts xs ++ rest) (20 * k)) (text-read xs k rest (omega arith))

-- one more is written after the first i
pub written-more : (xs : List Lei) (i : ℕ) (old : List ℕ) {now new : List ℕ} → i < length xs → 20 * length xs ≤ length old → now ≡ front (lei_texts (take i xs)) old
    → new ≡ overwrite (20 * i) (lei_text (get_or xs i no_lei)) now → new ≡ front (lei_texts (take (i + 1) xs)) old
unfolding overwrite
written-more xs i old h room e f =
    let so_far = take i xs in
    let x = get_or xs i no_lei in
    let at : 0 + length (lei_texts so_far) ≡ 20 * i = omega (arith, length-texts so_far, length-take-le i xs) in
    f ∙ rw (e, add-one i, take-suc xs i no_lei h, texts-more so_far x) (rw at at (overwrite-overwrite 0 (lei_texts so_far) (lei_text x) old (omega arith)))
