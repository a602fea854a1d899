-- A numeral is read digit by digit: what each test on the way says of the text, and what was read before each place. Assumes nothing.
use mathlib.Core.Path.{◌≡◌, refl, sym, ap, ◌∙◌}
use mathlib.Core.Logic.{◌≢◌, ◌⊎◌, ⊎_elim}
use mathlib.Core.List.{List, [], ◌∷◌}
use Prim.Native.Nat.{ℕ, zero, suc, ◌+◌, ◌*◌, ◌^◌, ◌≤◌, ◌<◌}
use native.Mathlib.Nat.{pow-suc, pow-le-pow_right}
use native.Mathlib.Numerals.{add-one}
use native.Mathlib.Omega.{arith}
use lib.ListN.{length, get_or, take}
use lib.Seq.{take-suc, take_all}
use Rattle.lists.proofs.Entries.{each_at}
use Rattle.numerals.specs.Numerals.{digits, numeral_of}
use Rattle.std.specs.Prelude.{Some, None}
use Rattle.numerals.proofs.Digits.{IsDigit, digits-one, digits_more, digits-some, digits-each, digits-first}
use Rattle.numerals.proofs.Exactly.{numeral_of_lem, not_numeral}

module _ (most : ℕ) (text : List ℕ) where
  pub text-none : length text ≡ 0 → None ≡ numeral_of most text
  text-none h = not_numeral most text (λ v e l. omega (arith, digits-some v, ap (length {A = ℕ}) e))

  pub text-long : most < length text → None ≡ numeral_of most text
  text-long h = not_numeral most text (λ v e l. omega arith)

  -- `0`
  pub text_zero : get_or text 0 0 ≡ 48 → length text ≡ 1 → length text ≤ most → Some 0 ≡ numeral_of most text
  text_zero h n l = numeral_of_lem most 0 text (alone text h n ∙ sym (digits-one 0 (omega arith))) l
    where
      alone : (text : List ℕ) → get_or text 0 0 ≡ 48 → length text ≡ 1 → text ≡ 48 ∷ []
      alone [] h n = absurd (omega arith)
      alone (c ∷ []) h n = rw h
      alone (c ∷ d ∷ text) h n = absurd (omega arith)

  -- `0` and more
  pub text-lead : get_or text 0 0 ≡ 48 → length text ≢ 1 → None ≡ numeral_of most text
  text-lead h n = not_numeral most text (λ v e l. none v e)
    where
      none : (v : ℕ) → text ≡ digits v → ⊥
      none zero e = n (ap (length {A = ℕ}) (e ∙ digits-one 0 (omega arith)))
      none (suc v) e = omega (arith, digits-first (suc v) (omega arith), ap (λ (t : List ℕ). get_or t 0 0) e, h)

  -- a byte that is no digit
  module _ (i : ℕ) (h : i < length text) where
    other : (IsDigit (get_or text i 0) → ⊥) → None ≡ numeral_of most text
    other n = not_numeral most text (λ v e l. n (rw e (each_at IsDigit 0 (digits v) (digits-each v) i (rw (← e) h))))

    pub text-other : (get_or text i 0 < 48) ⊎ (57 < get_or text i 0) → None ≡ numeral_of most text
    text-other = ⊎_elim (λ l. other (λ d. omega (arith, d.0))) (λ l. other (λ d. omega (arith, d.1)))

-- before place i stands nothing, or the numeral of x, which is above 0
pub record Read (text : List ℕ) (x i : ℕ) : Type 0 where
  pub few : i ≤ length text
  pub small : x < 10 ^ i
  pub none : i ≡ 0 → x ≡ 0
  pub some : 0 < i → (0 < x) × (take i text ≡ digits x)

module _ (text : List ℕ) where
  pub read_none : Read text 0 0
  read_none = record { few = omega arith; small = omega arith; none = λ e. refl; some = λ h. absurd (omega arith) }

  module _ {x i : ℕ} (r : Read text x i) where
    pub read_more : (d : ℕ) → i < length text → get_or text 0 0 ≢ 48 → d + 48 ≡ get_or text i 0 → d < 10 → Read text (10 * x + d) (i + 1)
    read_more d h n e l =
        record {
          few = omega arith;
          small = rw (add-one i, pow-suc) (omega (arith, r.small));
          none = λ z. absurd (omega arith);
          some = λ p. more i r h e;
        }
      where
        more : (i : ℕ) → Read text x i → i < length text → d + 48 ≡ get_or text i 0 → (0 < 10 * x + d) × (take (i + 1) text ≡ digits (10 * x + d))
        more zero r h e =
            let first : 10 * x + d ≡ d = omega (arith, r.none refl) in
            let byte : get_or text 0 0 ≡ 48 + d = omega arith in
            (omega arith, rw (first, digits-one d l, ← byte) (take-suc text 0 0 h))
        more (suc i) r h e =
            let (above, before) = r.some (omega arith) in
            let byte : get_or text (suc i) 0 ≡ 48 + d = omega arith in
            (omega arith, rw (add-one (suc i), take-suc text (suc i) 0 h, before, byte) (sym (digits_more x d above l)))

    -- a digit more is in 64 bits
    pub read_fits : i < 19 → 10 * x + 9 < 2 ^ 64
    read_fits h =
        let l : i ≤ 18 = omega arith in
        let p : 10 ^ i ≤ 10 ^ 18 = pow-le-pow_right (omega arith) l in
        omega (arith, r.small)

    pub read_all : (most : ℕ) → length text ≤ i → length text ≢ 0 → length text ≤ most → Some x ≡ numeral_of most text
    read_all most h n l =
        numeral_of_lem most x text (sym (take_all i text h) ∙ (r.some (omega arith)).1) l

-- what `read_numeral` owes, step by step
pub ruleset reads = (text-none, text-long, text_zero, text-lead, text-other, read_none, read_more, read_fits, read_all)
