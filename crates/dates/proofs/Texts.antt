-- A text is read as a number exactly when it is the number's text, and these are the texts of the form. Assumes nothing.
use mathlib.Core.Path.{◌≡◌, refl, sym, ap, ◌∙◌}
use mathlib.Core.Logic.{◌↔◌, ◌≢◌}
use mathlib.Core.Bool.{true, ◌&&◌, and-eq-true_iff}
use mathlib.Core.List.{List, [], ◌∷◌, map}
use Prim.Native.Nat.{ℕ, ◌+◌, ◌-◌, ◌*◌, ◌/◌, ◌%◌, ◌≤◌, ◌<◌}
use native.Mathlib.Omega.{arith}
use lib.ListN.{length, get_or}
use Rattle.lists.specs.Choice.{same, within}
use Rattle.lists.specs.Tables.{Each, list_to}
use Rattle.lists.proofs.Entries.{each_so, each_map, same_true, same_refl}
use Rattle.lists.proofs.Tables.{to_back}
use Rattle.lists.proofs.Tests.{by-test, within_true, true_within}
use Rattle.numerals.specs.Numerals.{value_from}
use Rattle.dates.specs.Calendar.{year, month, day, dated}
use Rattle.dates.specs.Text.{digits_of, date_text, text_number, read_date, Form, two_at}
use Rattle.dates.specs.Dates.{EightDigits}
use Rattle.std.specs.Prelude.{Option, Some, None}
use Rattle.std.proofs.lemmas.Option.{cond_some, none-some}
use Rattle.dates.proofs.Tested.{on-parts}

value-four : (x : ℕ) → value_from 0 (digits_of 4 x) ≡ x % 10000
unfolding value_from digits_of
value-four x = omega arith

value-two : (x : ℕ) → value_from 0 (digits_of 2 x) ≡ x % 100
unfolding value_from digits_of
value-two x = omega arith

last-four : (n : ℕ) → 100 * (month n % 100) + day n % 100 ≡ n % 10000
last-four n = omega arith

first-four : (n : ℕ) → 10000 * (year n % 10000) + n % 10000 ≡ n % 100000000
first-four n = omega arith

join : (a b c d e : ℕ) → b + c ≡ d → a + d ≡ e → a + b + c ≡ e
join a b c d e p q = omega arith

last-eight : (n : ℕ) → dated (year n % 10000) (month n % 100) (day n % 100) ≡ n % 100000000
last-eight n = join _ _ _ _ _ (last-four n) (first-four n)

-- the text of a number holds its last eight digits
number-back : (n : ℕ) → text_number (date_text n) ≡ n % 100000000
unfolding text_number date_text digits_of
number-back n =
    let y : value_from 0 (digits_of 4 (year n)) ≡ year n % 10000 = value-four (year n) in
    let m : value_from 0 (digits_of 2 (month n)) ≡ month n % 100 = value-two (month n) in
    let d : value_from 0 (digits_of 2 (day n)) ≡ day n % 100 = value-two (day n) in
    rw (y, m, d) (last-eight n)

small : (n : ℕ) → n < 100000000 → n % 100000000 ≡ n
small n h = omega arith

-- the text of a number is read as the number
pub read_of : (text : List ℕ) (n : ℕ) → text ≡ date_text n → n < 100000000 → read_date text ≡ Some n
unfolding read_date
read_of text n e h =
    let back : text_number (date_text n) ≡ n = number-back n ∙ small n h in
    rw (e, back, same_refl (date_text n))

-- what is read as a number is its text
module _ (text : List ℕ) where
  passed : same text (date_text (text_number text)) ≡ true → (text ≡ date_text (text_number text)) × (text_number text < 100000000)
  passed e =
      let is : text ≡ date_text (text_number text) = same_true text (date_text (text_number text)) e in
      let last : text_number text ≡ text_number text % 100000000 = ap text_number is ∙ number-back (text_number text) in
      (is, omega arith)

  of-read : (n : ℕ) → read_date text ≡ Some n → (text ≡ date_text n) × (n < 100000000)
  unfolding read_date
  of-read n =
      by-test (λ (r : Option ℕ). r ≡ Some n → (text ≡ date_text n) × (n < 100000000)) (same text (date_text (text_number text)))
      (λ e r.
      let value : text_number text ≡ n = cc in
      rw value at (passed e))
      (λ e r.
      let none : ◌≡◌ {A = ℕ} 0 1 = cc in
      absurd (omega arith))

  pub read-exactly : (n : ℕ) → (read_date text ≡ Some n) ↔ ((text ≡ date_text n) × (n < 100000000))
  read-exactly n = (of-read n, λ h. read_of text n h.0 h.1)

-- the text of a number has the form
pub form_of : (n : ℕ) → Form (date_text n)
unfolding date_text digits_of
form_of n =
    let d : (x : ℕ) → (48 ≤ 48 + x % 10) × (48 + x % 10 ≤ 57) = λ x. (omega arith, omega arith) in
    record {
      ten = refl;
      digits = (d _, (d _, (d _, (d _, (d _, (d _, (d _, (d _, tt))))))));
      hyphens = (refl, (refl, tt));
    }

-- a text without the form is not read
pub not-read : (text : List ℕ) → (Form text → ⊥) → None ≡ read_date text
unfolding read_date
not-read text h =
    by-test (λ (r : Option ℕ). None ≡ r) (same text (date_text (text_number text)))
    (λ e. absurd (h (rw (passed text e).0 (form_of (text_number text)))))
    (λ e. refl)

-- the digits of a number that is given by them
module _ (a b : ℕ) (p : a ≤ 9) (q : b ≤ 9) where
  two_digits : digits_of 2 (10 * a + b) ≡ (48 + a) ∷ (48 + b) ∷ []
  unfolding digits_of
  two_digits =
      let first : (10 * a + b) / 10 % 10 ≡ a = omega arith in
      let second : (10 * a + b) % 10 ≡ b = omega arith in
      rw (first, second)

  four-digits : (c d : ℕ) → c ≤ 9 → d ≤ 9 → digits_of 4 (1000 * a + 100 * b + 10 * c + d) ≡ (48 + a) ∷ (48 + b) ∷ (48 + c) ∷ (48 + d) ∷ []
  unfolding digits_of
  four-digits c d r s =
      let x = 1000 * a + 100 * b + 10 * c + d in
      let third : x / 10 ≡ 100 * a + 10 * b + c = omega arith in
      let second : (100 * a + 10 * b + c) / 10 ≡ 10 * a + b = omega arith in
      let first : (10 * a + b) / 10 ≡ a = omega arith in
      rw (third, second, first) (bytes (omega arith) (omega arith) (omega arith) (omega arith))
    where
      bytes : {w x y z : ℕ} → w ≡ a → x ≡ b → y ≡ c → z ≡ d → (48 + w) ∷ (48 + x) ∷ (48 + y) ∷ (48 + z) ∷ [] ≡ (48 + a) ∷ (48 + b) ∷ (48 + c) ∷ (48 + d) ∷ []
      bytes e f g h = λ i. (48 + e i) ∷ (48 + f i) ∷ (48 + g i) ∷ (48 + h i) ∷ []

digits-text : (a b c d e f g h : ℕ) → Each (◌≤ 9) (a ∷ b ∷ c ∷ d ∷ e ∷ f ∷ g ∷ h ∷ [])
    → date_text (dated (1000 * a + 100 * b + 10 * c + d) (10 * e + f) (10 * g + h))
    ≡ (48 + a) ∷ (48 + b) ∷ (48 + c) ∷ (48 + d) ∷ 45 ∷ (48 + e) ∷ (48 + f) ∷ 45 ∷ (48 + g) ∷ (48 + h) ∷ []
unfolding date_text
digits-text a b c d e f g h (p, (q, (r, (s, (t, (u, (v, (w, _)))))))) =
    let on = on-parts (1000 * a + 100 * b + 10 * c + d) (10 * e + f) (10 * g + h) (omega arith) (omega arith) in
    rw (on.of_year, on.of_month, on.of_day, four-digits a b p q c d r s, two_digits e f t u, two_digits g h v w)

-- as one sum
pub eight-text : (a b c d e f g h : ℕ) → Each (◌≤ 9) (a ∷ b ∷ c ∷ d ∷ e ∷ f ∷ g ∷ h ∷ []) → EightDigits a b c d e f g h
eight-text a b c d e f g h low =
    let sum : 10000000 * a + 1000000 * b + 100000 * c + 10000 * d + 1000 * e + 100 * f + 10 * g + h
    ≡ dated (1000 * a + 100 * b + 10 * c + d) (10 * e + f) (10 * g + h) = omega arith in
    record { text = rw sum (digits-text a b c d e f g h low) }

digits_below : (a b c d e f g h : ℕ) → Each (◌≤ 9) (a ∷ b ∷ c ∷ d ∷ e ∷ f ∷ g ∷ h ∷ [])
    → dated (1000 * a + 100 * b + 10 * c + d) (10 * e + f) (10 * g + h) < 100000000
digits_below a b c d e f g h (p, (q, (r, (s, (t, (u, (v, (w, _)))))))) = omega arith

module _ (text : List ℕ) where
  -- the digit at a place
  abbrev at : ℕ → ℕ
  at i = get_or text i 0 - 48

  abbrev IsDigit : ℕ → Type 0
  IsDigit i = (48 ≤ get_or text i 0) × (get_or text i 0 ≤ 57)

  low : (i : ℕ) → IsDigit i → at i ≤ 9
  low i p = omega arith

  byte : (i : ℕ) → IsDigit i → get_or text i 0 ≡ 48 + at i
  byte i p = omega arith

  -- the number of the eight digits
  abbrev eight : ℕ
  eight = dated (1000 * at 0 + 100 * at 1 + 10 * at 2 + at 3) (10 * at 5 + at 6) (10 * at 8 + at 9)

  abbrev places : List ℕ
  places = 0 ∷ 1 ∷ 2 ∷ 3 ∷ 5 ∷ 6 ∷ 8 ∷ 9 ∷ []

  lows : Form text → Each (◌≤ 9) (map at places)
  lows f = each_map (◌≤ 9) at places (each_so IsDigit (λ i. at i ≤ 9) low places f.digits)

  -- a text of the form is the text of the number of its digits
  form-text : Form text → text ≡ date_text eight
  unfolding list_to
  form-text f =
      let (a, (b, (c, (d, (e, (g, (h, (k, _)))))))) = f.digits in
      let (m, (n, _)) = f.hyphens in
      sym (to_back 10 text 0 f.ten)
      ∙ (λ i. byte 0 a i ∷ byte 1 b i ∷ byte 2 c i ∷ byte 3 d i ∷ m i ∷ byte 5 e i ∷ byte 6 g i ∷ n i ∷ byte 8 h i ∷ byte 9 k i ∷ [])
      ∙ sym (digits-text (at 0) (at 1) (at 2) (at 3) (at 5) (at 6) (at 8) (at 9) (lows f))

  pub form-read : Form text → read_date text ≡ Some (text_number text)
  form-read f =
      let below = digits_below (at 0) (at 1) (at 2) (at 3) (at 5) (at 6) (at 8) (at 9) (lows f) in
      let value : text_number text ≡ eight = ap text_number (form-text f) ∙ number-back eight ∙ small eight below in
      rw value (read_of text eight (form-text f) below)

  -- two digits at a place
  pub two-value : (i : ℕ) → IsDigit i → IsDigit (i + 1) → two_at text i ≡ Some (10 * at i + at (i + 1))
  unfolding two_at
  two-value i p q = rw (true_within 48 57 (get_or text i 0) p.0 p.1, true_within 48 57 (get_or text (i + 1) 0) q.0 q.1)

  -- what was read there is their number
  record Two (i x : ℕ) : Type 0 where
    first : IsDigit i
    second : IsDigit (i + 1)
    value : x ≡ 10 * at i + at (i + 1)

  two-found : (i x : ℕ) → Some x ≡ two_at text i → Two i x
  unfolding two_at
  two-found i x e =
      let (t, v) = cond_some _ _ _ (sym e) in
      let (a, b) = (and-eq-true_iff (within 48 57 (get_or text i 0)) (within 48 57 (get_or text (i + 1) 0))).0 t in
      record { first = within_true 48 57 (get_or text i 0) a; second = within_true 48 57 (get_or text (i + 1) 0) b; value = sym v }

  -- what the code finds on its way: no two digits, or two digits
  pub two-none : (i : ℕ) → (IsDigit i → IsDigit (i + 1) → ⊥) → None ≡ two_at text i
  unfolding two_at
  two-none i h =
      by-test (λ (r : Option ℕ). None ≡ r) (within 48 57 (get_or text i 0) && within 48 57 (get_or text (i + 1) 0))
      (λ t.
      let (a, b) = (and-eq-true_iff (within 48 57 (get_or text i 0)) (within 48 57 (get_or text (i + 1) 0))).0 t in
      absurd (h (within_true 48 57 (get_or text i 0) a) (within_true 48 57 (get_or text (i + 1) 0) b)))
      (λ t. refl)

  pub two-some : (i x y : ℕ) → x + 48 ≡ get_or text i 0 → get_or text i 0 ≤ 57 → y + 48 ≡ get_or text (i + 1) 0 → get_or text (i + 1) 0 ≤ 57
      → Some (10 * x + y) ≡ two_at text i
  two-some i x y p a q b =
      let value : 10 * at i + at (i + 1) ≡ 10 * x + y = omega arith in
      sym (rw value at (two-value i (omega arith, a) (omega arith, b)))

  -- what the code finds on its way: no form, or the form
  pub not-ten : length text ≢ 10 → None ≡ read_date text
  not-ten h = not-read text (λ f. h f.ten)

  pub no_hyphen_4 : get_or text 4 0 ≢ 45 → None ≡ read_date text
  no_hyphen_4 h = not-read text (λ f. h f.hyphens.0)

  pub no_hyphen_7 : get_or text 7 0 ≢ 45 → None ≡ read_date text
  no_hyphen_7 h = not-read text (λ f. h f.hyphens.1.0)

  no_digits : (i : ℕ) → None ≡ two_at text i → IsDigit i → IsDigit (i + 1) → ⊥
  no_digits i h p q = none-some _ (h ∙ two-value i p q)

  pub no_digits_0 : None ≡ two_at text 0 → None ≡ read_date text
  no_digits_0 h = not-read text (λ f. let (a, (b, _)) = f.digits in no_digits 0 h a b)

  pub no_digits_2 : None ≡ two_at text 2 → None ≡ read_date text
  no_digits_2 h = not-read text (λ f. let (_, (_, (a, (b, _)))) = f.digits in no_digits 2 h a b)

  pub no_digits_5 : None ≡ two_at text 5 → None ≡ read_date text
  no_digits_5 h = not-read text (λ f. let (_, (_, (_, (_, (a, (b, _)))))) = f.digits in no_digits 5 h a b)

  pub no_digits_8 : None ≡ two_at text 8 → None ≡ read_date text
  no_digits_8 h = not-read text (λ f. let (_, (_, (_, (_, (_, (_, (a, (b, _)))))))) = f.digits in no_digits 8 h a b)

  pub all_found : (a b c d : ℕ) → length text ≡ 10 → get_or text 4 0 ≡ 45 → get_or text 7 0 ≡ 45
      → Some a ≡ two_at text 0 → Some b ≡ two_at text 2 → Some c ≡ two_at text 5 → Some d ≡ two_at text 8
      → Some (1000000 * a + 10000 * b + 100 * c + d) ≡ read_date text
  all_found a b c d n s t p q r u =
      let e = two-found 0 a p in
      let f = two-found 2 b q in
      let g = two-found 5 c r in
      let h = two-found 8 d u in
      let form : Form text =
      record { ten = n; digits = (e.first, (e.second, (f.first, (f.second, (g.first, (g.second, (h.first, (h.second, tt)))))))); hyphens = (s, (t, tt)) } in
      let value : eight ≡ 1000000 * a + 10000 * b + 100 * c + d = omega arith in
      sym (read_of text (1000000 * a + 10000 * b + 100 * c + d) (form-text form ∙ ap date_text value) (omega arith))

-- what `two_at` and `read_date` owe
pub ruleset finds = (two-none, two-some, not-ten, no_hyphen_4, no_hyphen_7, no_digits_0, no_digits_2, no_digits_5, no_digits_8, all_found)
