-- A field that is read from a text is a field of the grammar, with what may follow it. Assumes nothing.
use mathlib.Core.Path.{◌≡◌, refl, sym, ap, ◌∙◌}
use mathlib.Core.Logic.{◌⊎◌, inl, inr, ⊎_elim}
use Rattle.std.specs.Prelude.{Option, Some, None}
use mathlib.Core.Bool.{Bool, true, false, ◌&&◌, and-eq-true_iff, false≢true}
use mathlib.Core.List.{List, [], ◌∷◌, ◌++◌, append_assoc}
use Prim.Native.Nat.{ℕ, ◌+◌, ◌-◌, ◌≤◌, ◌<◌}
use native.Mathlib.Omega.{arith}
use borrow.Author.Tests.{eqb-true}
use lib.Dec.{eqb}
use lib.ListN.{length, drop, length-append, length-drop}
use lib.Seq.{drop-drop, take_at, drop_at}
use Rattle.lists.proofs.Tests.{by-test}
use Rattle.rfc4180.specs.Grammar.{is_text, is_quotable, TextRun, no_text, text_data, QuotedRun, no_quoted, quoted, doubled, escaped, non_escaped}
use Rattle.rfc4180.specs.Grammar as G
use Rattle.rfc4180.specs.Reading.{span, part, text_from, text_end, close_from, close_at, followed_by, followed, begins, opens, enclosed, field_at}
use Rattle.rfc4180.specs.declared.Span.{Span}
use Rattle.rfc4180.specs.declared.Piece.{Piece}

-- a list from place i to place e, where the rest of it stands
record Run (P : List ℕ → List ℕ → Type 0) (i e : ℕ) (s : List ℕ) : Type 0 where
  inner : List ℕ
  rest : List ℕ
  run : P inner rest
  there : s ≡ inner ++ rest
  to : e ≡ i + length inner

-- nothing stands before the rest
nothing_yet : {P : List ℕ → List ℕ → Type 0} (i : ℕ) (s : List ℕ) → P [] s → Run P i i s
nothing_yet i s p = record { inner = []; rest = s; run = p; there = refl; to = omega arith }

-- longer by what stands before it
longer : {P : List ℕ → List ℕ → Type 0} (p : List ℕ) → ((t r : List ℕ) → P t r → P (p ++ t) r)
    → (i e : ℕ) (s : List ℕ) → Run P (i + length p) e s → Run P i e (p ++ s)
longer p q i e s r = record {
  inner = p ++ r.inner;
  rest = r.rest;
  run = q r.inner r.rest r.run;
  there = rw r.there (sym (append_assoc p r.inner r.rest));
  to = r.to ∙ omega (arith, length-append p r.inner);
}

-- TEXTDATA up to where it ends
text-run : (i : ℕ) (s : List ℕ) → Run (λ t r. TextRun t) i (text_from i s) s
unfolding text_from
text-run i [] = nothing_yet i [] no_text
text-run i (c ∷ s) =
    by-test (λ e. Run (λ t r. TextRun t) i e (c ∷ s)) (is_text c)
    (λ p. longer (c ∷ []) (λ t r h. text_data p h) i _ s (text-run (i + 1) s))
    (λ p. nothing_yet i (c ∷ s) no_text)

-- what may be quoted, and then a quote
abbrev Quoted : List ℕ → List ℕ → Type 0
Quoted t r = QuotedRun t × (r ≡ 0x22 ∷ drop 1 r)

abbrev Closed : ℕ → List ℕ → Option ℕ → Type 0
Closed i s (Some e) = Run Quoted i e s
Closed i s None = Unit {0}

closed_here : (i c : ℕ) (s : List ℕ) → eqb c 0x22 ≡ true → Run Quoted i i (c ∷ s)
closed_here i c s p = nothing_yet i (c ∷ s) (no_quoted, rw (eqb-true c 0x22 p))

closed_on : (p : List ℕ) → ((t : List ℕ) → QuotedRun t → QuotedRun (p ++ t)) → (i : ℕ) (s : List ℕ) (f : Option ℕ) → Closed (i + length p) s f → Closed i (p ++ s) f
closed_on p q i s (Some e) r = longer p (λ t l h. (q t h.0, h.1)) i e s r
closed_on p q i s None r = tt

-- up to the quote that is found
closed : (i : ℕ) (s : List ℕ) → Closed i s (close_from i s)
unfolding close_from
closed i [] = tt
closed i (c ∷ []) = by-test (Closed i (c ∷ [])) (eqb c 0x22) (λ p. closed_here i c [] p) (λ p. tt)
closed i (c ∷ d ∷ s) =
    by-test (Closed i (c ∷ d ∷ s)) (eqb c 0x22)
    (λ p.
    by-test (Closed i (c ∷ d ∷ s)) (eqb d 0x22)
    (λ q. closed_on (c ∷ d ∷ []) (λ t h. rw (eqb-true c 0x22 p, eqb-true d 0x22 q) (doubled h)) i s (close_from (i + 2) s) (closed (i + 2) s))
    (λ q. closed_here i c (d ∷ s) p))
    (λ p.
    by-test (Closed i (c ∷ d ∷ s)) (is_quotable c)
    (λ q. closed_on (c ∷ []) (λ t h. quoted q h) i (d ∷ s) (close_from (i + 1) (d ∷ s)) (closed (i + 1) (d ∷ s)))
    (λ q. tt))

-- a quote that closes stands in the text
pub close_in_text : (text : List ℕ) (i e : ℕ) (f : Option ℕ) → f ≡ close_at text i → f ≡ Some e → e < length text
unfolding close_at
close_in_text text i e f g h =
    let r : Run Quoted i e (drop i text) = rw (sym g ∙ h) at (closed i (drop i text)) in
    omega (arith, r.to, ap length r.there, length-append r.inner r.rest, ap length r.run.1, length-drop i text)

-- a list that begins with a byte
first : (b : ℕ) (l : List ℕ) → begins b l ≡ true → (s : List ℕ) × (l ≡ b ∷ s)
unfolding begins
first b [] p = absurd (false≢true p)
first b (c ∷ s) p = (s, rw (eqb-true c b p))

-- what may follow a field: whether its record ends there, the bytes that say so, and what comes after
pub data Ending : Bool → List ℕ → List ℕ → Type 0 where
  comma : {s : List ℕ} → Ending false (0x2C ∷ []) s
  line : {s : List ℕ} → Ending true (0x0D ∷ 0x0A ∷ []) s
  end : Ending true [] []

-- a field that was read at place i: its own text, the text that is handed back, and what follows it
pub record FieldRead (text : List ℕ) (i : ℕ) (s : Span) (last : Bool) (next : ℕ) : Type 0 where
  pub whole : List ℕ
  pub inner : List ℕ
  pub mark : List ℕ
  pub derived : G.Field whole inner
  pub handed : part text s ≡ inner
  pub ending : Ending last mark (drop next text)
  pub here : drop i text ≡ whole ++ (mark ++ drop next text)
  pub on : next ≡ i + length whole + length mark

abbrev pub PieceRead : List ℕ → ℕ → Option Piece → Type 0
PieceRead text i (Some p) = FieldRead text i p.span p.last p.next
PieceRead text i None = Unit {0}

-- a text that stands at a place: what comes after it, and the part that it is
module _ (text : List ℕ) (i : ℕ) (t r : List ℕ) (here : drop i text ≡ t ++ r) where
  pub after : (e : ℕ) → e ≡ i + length t → drop e text ≡ r
  after e a = rw (a, ← drop-drop (length t) i text, here) (drop_at t r (length t) refl)

  pub part_of : (e : ℕ) → e ≡ i + length t → part text (span i e) ≡ t
  unfolding part
  part_of e a =
      let n : e - i ≡ length t = omega arith in
      rw (n, here) (take_at t r (length t) refl)

-- a field of the grammar that stands at i and ends at a, by what stands there
module _ (text : List ℕ) (i : ℕ) (s : Span) (t f : List ℕ) (d : G.Field t f) (h : part text s ≡ f) (a : ℕ) (e : a ≡ i + length t) where
  field_to : {last : Bool} {mark rest : List ℕ} → Ending last mark rest → (n : ℕ) → n ≡ a + length mark → drop i text ≡ t ++ (mark ++ rest) → FieldRead text i s last n
  field_to {last} {mark} {rest} w n k g =
      let there : drop n text ≡ rest = after text a mark rest (after text i t (mark ++ rest) g a e) n k in
      record {
        whole = t;
        inner = f;
        mark = mark;
        derived = d;
        handed = h;
        ending = rw there w;
        here = rw there g;
        on = omega arith;
      }

  piece_by : (l : List ℕ) → drop i text ≡ t ++ l → PieceRead text i (followed_by s a l)
  unfolding followed_by
  piece_by [] g = field_to end a (omega arith) g
  piece_by (c ∷ l) g =
      by-test (PieceRead text i) (eqb c 0x2C)
      (λ p. field_to comma (a + 1) refl (rw (eqb-true c 0x2C p) at g))
      (λ p.
      by-test (PieceRead text i) (eqb c 0x0D && begins 0x0A l)
      (λ q.
      let (x, y) = (and-eq-true_iff (eqb c 0x0D) (begins 0x0A l)).0 q in
      let (s, z) = first 0x0A l y in
      field_to line (a + 2) refl (rw (eqb-true c 0x0D x, z) at g))
      (λ q. tt))

  piece : (l : List ℕ) → drop i text ≡ t ++ l → PieceRead text i (followed text s a)
  unfolding followed
  piece l g = rw (after text i t l g a e) (piece_by l g)

module _ (text : List ℕ) (i : ℕ) where
  plain_read : PieceRead text i (followed text (span i (text_end text i)) (text_end text i))
  unfolding text_end
  plain_read =
      let r = text-run i (drop i text) in
      piece text i _ r.inner r.inner (non_escaped r.run) (part_of text i r.inner r.rest r.there _ r.to) _ r.to r.rest r.there

  quoted-read : (f : Option ℕ) → drop i text ≡ 0x22 ∷ drop (i + 1) text → Closed (i + 1) (drop (i + 1) text) f → PieceRead text i (enclosed text (i + 1) f)
  unfolding enclosed
  quoted-read (Some e) o r =
      let rest = drop 1 r.rest in
      let there : drop (i + 1) text ≡ r.inner ++ 0x22 ∷ rest = rw (← r.run.1) r.there in
      piece text i _ (0x22 ∷ (r.inner ++ 0x22 ∷ [])) r.inner (escaped r.run.0)
      (part_of text (i + 1) r.inner r.rest r.there e r.to)
      (e + 1) (omega (arith, r.to, length-append r.inner (0x22 ∷ []))) rest
      (rw (o, there) (ap (λ l. 0x22 ∷ l) (sym (append_assoc r.inner (0x22 ∷ []) rest))))
  quoted-read None o r = tt

  -- what is read at a place is a field of the grammar
  pub field_read : PieceRead text i (field_at text i)
  unfolding field_at opens close_at
  field_read =
      by-test (PieceRead text i) (opens text i)
      (λ p.
      let (s, e) = first 0x22 (drop i text) p in
      quoted-read (close_at text (i + 1)) (e ∙ ap (λ l. 0x22 ∷ l) (sym (after text i (0x22 ∷ []) s e (i + 1) refl))) (closed (i + 1) (drop (i + 1) text)))
      (λ p. plain_read)

-- what follows a field takes bytes, or nothing is left
sized : {last : Bool} {mark rest : List ℕ} → Ending last mark rest → (0 < length mark) ⊎ ((last ≡ true) × (length rest ≡ 0))
sized comma = inl (omega arith)
sized line = inl (omega arith)
sized end = inr (refl, refl)

module _ {text : List ℕ} {i : ℕ} {s : Span} {last : Bool} {next : ℕ} (r : FieldRead text i s last next) where
  -- its bytes, those that follow it, and the rest
  spread : length text - i ≡ length r.whole + (length r.mark + (length text - next))
  spread =
      omega (arith, ap length r.here, length-append r.whole (r.mark ++ drop next text), length-append r.mark (drop next text), length-drop i text, length-drop next text)

  -- the next field or record starts in the text, if this field does
  pub reach : (last ≡ true → i ≤ length text) → (i ≤ next) × (next ≤ length text)
  reach h =
      ⊎_elim
      (λ m. (omega (arith, r.on), omega (arith, spread, r.on)))
      (λ e. (omega (arith, r.on), let k = h e.0 in omega (arith, spread, r.on)))
      (sized r.ending)

  -- and further on, if a byte of the text is left or a comma follows
  pub ahead : (last ≡ true → i < length text) → i < next
  ahead h =
      ⊎_elim
      (λ m. omega (arith, r.on))
      (λ e. let k = h e.0 in omega (arith, e.1, length-drop next text))
      (sized r.ending)
