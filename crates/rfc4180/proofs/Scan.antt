-- What is read at a place of a text, by the bytes that stand there: one law for each way through the code. Assumes nothing.
use mathlib.Core.Path.{◌≡◌, refl, sym}
use Rattle.std.specs.Prelude.{Option, Some, None}
use mathlib.Core.Bool.{true, false, cond, ◌&&◌}
use mathlib.Core.List.{List, [], ◌∷◌}
use Prim.Native.Nat.{ℕ, ◌+◌, ◌-◌, ◌≤◌, ◌<◌, min}
use native.Mathlib.Numerals.{add-one}
use native.Mathlib.Omega.{arith}
use borrow.Author.Tests.{leb-true, leb-false}
use lib.Dec.{eqb, leb}
use Rattle.std.proofs.lemmas.List.{take_min}
use Rattle.std.specs.List.{prefix_len}
use lib.ListN.{length, get_or, take, drop, length-drop, drop_of_length-le}
use lib.Seq.{drop-cons, drop-drop}
use Rattle.lists.proofs.Tests.{by-test, either_way}
use Rattle.rfc4180.specs.Grammar.{is_text, is_quotable}
use Rattle.rfc4180.specs.Reading.{piece, part, text_from, text_end, close_from, close_at, followed_by, followed, begins}
use Rattle.rfc4180.specs.declared.Span.{Span}

-- TEXTDATA ends as many bytes further on as pass
text_from-prefix : (i : ℕ) (s : List ℕ) → i + prefix_len is_text s ≡ text_from i s
unfolding text_from
text_from-prefix i [] = omega arith
text_from-prefix i (c ∷ s) =
    by-test (λ (n : ℕ). i + n ≡ text_from i (c ∷ s)) (is_text c)
    (λ e. rw e (omega (arith, text_from-prefix (i + 1) s)))
    (λ e. rw e (omega arith))

-- a quote that closes, by the first byte of a list and whether another quote stands next
pub close_cons : (i c : ℕ) (s : List ℕ)
    → close_from i (c ∷ s) ≡ cond (eqb c 0x22) (cond (begins 0x22 s) (close_from (i + 2) (drop 1 s)) (Some i)) (cond (is_quotable c) (close_from (i + 1) s) None)
unfolding close_from begins
close_cons i c [] = by-test (λ (r : Option ℕ). cond (eqb c 0x22) (Some i) None ≡ cond (eqb c 0x22) (Some i) r) (is_quotable c) (λ e. refl) (λ e. refl)
close_cons i c (d ∷ s) = refl

module _ (text : List ℕ) (i : ℕ) where
  here : i < length text → drop i text ≡ get_or text i 0 ∷ drop (i + 1) text
  here h = rw add-one (drop-cons text i 0 h)

  -- whether a byte stands at i
  pub begins_at : (b : ℕ) → i < length text → begins b (drop i text) ≡ eqb (get_or text i 0) b
  unfolding begins
  begins_at b h = rw (here h)

  pub begins_past : (b : ℕ) → length text ≤ i → begins b (drop i text) ≡ false
  unfolding begins
  begins_past b h = rw (drop_of_length-le text h)

  -- where TEXTDATA from i on ends
  pub text_end-prefix : i + prefix_len is_text (drop i text) ≡ text_end text i
  unfolding text_end
  text_end-prefix = text_from-prefix i (drop i text)

  pub text_turn : i < length text → text_end text i ≡ cond (is_text (get_or text i 0)) (text_end text (i + 1)) i
  unfolding text_end text_from
  text_turn h = rw (here h)

  pub text_past : length text ≤ i → text_end text i ≡ i
  unfolding text_end text_from
  text_past h = rw (drop_of_length-le text h)

  -- the quote that closes from i on
  pub close_turn : i < length text
      → close_at text i ≡ cond (eqb (get_or text i 0) 0x22) (cond (begins 0x22 (drop (i + 1) text)) (close_at text (i + 2)) (Some i))
      (cond (is_quotable (get_or text i 0)) (close_at text (i + 1)) None)
  unfolding close_at
  close_turn h =
      let e : i + 1 + 1 ≡ i + 2 = omega arith in
      rw (here h, ← e, ← drop-drop 1 (i + 1) text, e) (close_cons i _ _)

  pub close_past : length text ≤ i → close_at text i ≡ None
  unfolding close_at close_from
  close_past h = rw (drop_of_length-le text h)

  -- what follows a field that ended at i
  pub followed_past : (s : Span) → length text ≤ i → followed text s i ≡ Some (piece s true i)
  unfolding followed followed_by
  followed_past s h = rw (drop_of_length-le text h)

  pub followed_turn : (s : Span) → i < length text
      → followed text s i ≡ cond (begins 0x2C (drop i text)) (Some (piece s false (i + 1))) (cond (begins 0x0D (drop i text) && begins 0x0A (drop (i + 1) text)) (Some (piece s true (i + 2))) None)
  unfolding followed followed_by begins
  followed_turn s h = rw (here h)

pub ruleset ends = (text_turn, text_past)

pub ruleset closings = (close_turn, close_past)

pub ruleset followings = (followed_turn, followed_past)

-- a part, cut off at the text's end
pub part_cut : (text : List ℕ) (s : Span) (e : ℕ) → e ≡ min s.end (length text) → take (e - min s.start e) (drop (min s.start e) text) ≡ part text s
unfolding part
part_cut text s e cut =
    let whole : part text s ≡ take (min (s.end - s.start) (length (drop s.start text))) (drop s.start text) = sym (take_min (s.end - s.start) (drop s.start text)) in
    either_way (leb s.start e)
    (λ t.
    let a : min s.start e ≡ s.start = omega (arith, leb-true s.start e t) in
    let b : min (s.end - s.start) (length (drop s.start text)) ≡ e - s.start = omega (arith, leb-true s.start e t, length-drop s.start text) in
    rw a (sym (rw b at whole)))
    (λ t.
    let a : e - min s.start e ≡ 0 = omega (arith, leb-false s.start e t) in
    let b : min (s.end - s.start) (length (drop s.start text)) ≡ 0 = omega (arith, leb-false s.start e t, length-drop s.start text) in
    rw a (sym (rw b at whole)))
