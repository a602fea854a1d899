-- The parts of a line and of a report, written one after another, make it whole. Assumes nothing.
use mathlib.Core.Path.{◌≡◌}
use mathlib.Core.List.{List, [], ◌∷◌, flat_map}
use Prim.Native.Nat.{ℕ, ◌+◌, ◌≤◌, ◌<◌, ◌^◌}
use native.Mathlib.Omega.{arith}
use lib.ListN.{length, get_or, take}
use borrow.Author.Tests.{eq-eqb, ne_eqb}
use Rattle.lists.specs.Tables.{list_to, ascii}
use Rattle.lists.proofs.Tables.{get_or-to}
use Rattle.numerals.specs.Numerals.{Put}
use Rattle.numerals.proofs.Digits.{digits-word}
use Rattle.verdict.specs.Judges.{answer_of}
use Rattle.verdict.specs.declared.Verdict.{Verdict}
use Rattle.report.specs.Report.{Written, after_comma, line_of, answer_numbers, refusal_line, margin_line, remainder_line, printed_lines, judged_line, report_of}
use Rattle.report.proofs.Written.{written_then}

-- a comma and a numeral: at most 21 bytes
pub number-written : {x at middle next : ℕ} {old mid now : List ℕ} → x < 2 ^ 64 → at ≤ length old → Written (ascii ",") at middle old mid → Put x middle next mid now
    → Written (after_comma x) at next old now × (next ≤ at + 21)
unfolding after_comma
number-written {x} l h p q =
    (written_then h p (record { ends = q.ends; bytes = q.bytes }), omega (arith, p.ends, q.ends, digits-word x l))

-- a letter, numbers after it, and CRLF
pub line-written : (numbers : List ℕ) {letter at a b c next : ℕ} {old x y z now : List ℕ} → at ≤ length old → a ≤ length x → b ≤ length y
    → Written (letter ∷ []) at a old x → Written (flat_map after_comma numbers) a b x y → Written (ascii "\r") b c y z → Written (ascii "\n") c next z now
    → Written (line_of (letter ∷ []) numbers) at next old now
unfolding line_of
line-written numbers f g h p q r s = written_then f p (written_then g q (written_then h r s))

-- an R line of the i-th of a ranking, with what two lists have at its number
pub remainder-written : (left margins ranks : List ℕ) (i : ℕ) {k cents units at next : ℕ} {old now : List ℕ} → i < 256
    → k ≡ get_or ranks i 0 → cents ≡ get_or left k 0 → units ≡ get_or margins k 0 → Written (line_of (ascii "R") (k ∷ cents ∷ units ∷ [])) at next old now
    → Written (judged_line left margins (get_or (list_to 256 (λ k. get_or ranks k 0)) i 0)) at next old now
unfolding judged_line remainder_line
remainder-written left margins ranks i h r e f w = rw (get_or-to 256 (λ k. get_or ranks k 0) i 0 h, ← r, ← e, ← f) w

-- a verdict whose number and values are these
module _ (v : Verdict) (count : ℕ) (left margins ranks : List ℕ) {numbers : List ℕ} (e : numbers ≡ answer_numbers (answer_of v)) where
  pub refused-written : {next : ℕ} {old now : List ℕ} → (get_or numbers 0 0 ≡ 0 → ⊥)
      → Written (line_of (ascii "X") (get_or numbers 0 0 ∷ get_or numbers 1 0 ∷ get_or numbers 2 0 ∷ [])) 0 next old now
      → Written (report_of v count left margins ranks) 0 next old now
  unfolding report_of printed_lines refusal_line answer_numbers
  refused-written h w = rw (ne_eqb _ _ (rw e at h)) (rw e at w)

  pub accepted-written : {middle next : ℕ} {old mid now : List ℕ} → get_or numbers 0 0 ≡ 0
      → Written (line_of (ascii "M") (get_or numbers 1 0 ∷ get_or numbers 2 0 ∷ [])) 0 middle old mid
      → Written (flat_map (judged_line left margins) (take count (list_to 256 (λ k. get_or ranks k 0)))) middle next mid now
      → Written (report_of v count left margins ranks) 0 next old now
  unfolding report_of printed_lines margin_line answer_numbers
  accepted-written h p q = rw (eq-eqb _ _ (rw e at h)) (written_then (omega arith) (rw e at p) q)
