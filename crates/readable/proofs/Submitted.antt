-- Records that are read come in order exactly when they are a good D, then good H, then good P, with the head, rows, prices and lines that are parsed, and the
-- LEIs that are known after them. Assumes nothing.
use mathlib.Core.Path.{◌≡◌, refl, ap}
use mathlib.Core.Bool.{true, false≢true}
use mathlib.Core.List.{List, [], ◌∷◌, ◌++◌, map}
use Prim.Native.Nat.{ℕ, zero, suc, ◌+◌, ◌≤◌}
use native.Mathlib.Omega.{arith}
use lib.ListN.{length, get_or, set}
use lib.Seq.{get_or-set_same}
use borrow.Author.Tests.{eqb-true}
use Rattle.lists.specs.Tables.{list_to}
use Rattle.holding.specs.Holding.{head_numbers, head_by}
use Rattle.holding.specs.declared.{Head.Head, Row.Row}
use Rattle.pairing.specs.declared.Line.{Line}
use Rattle.proposal.specs.Submission.{Submission, priced_numbers, priced_row, row_price, line_numbers, line_by}
use Rattle.lei.specs.Lei.{lei_of}
use Rattle.std.specs.Prelude.{Option, Some}
use Rattle.rfc4180.specs.Reading.{field_count, Read, formed, broken}
use Rattle.layout.specs.Layout.{issuer_in, value_and, IsValue, IsRecord, Meaning, good, refused, may_follow, parse}
use Rattle.layout.specs.declared.Sort.TheVariants.{Issuer}
use Rattle.layout.proofs.Letters.{parse-good, good_length}
use Rattle.reader.specs.File.{values_by, lei_in, issuer_number, known_after, numbered_from, leis_from, holdings_of, leis_of, submission_of, letter_of}
use Rattle.reader.proofs.Comes.{Comes}
use Rattle.readable.specs.Readable.{Issued, AreHoldings, no_holdings, holding_and, issuer_text, AreLines, no_lines, line_and}
use Rattle.readable.proofs.Layouts.{record_values, record_good, record_of}
use Rattle.readable.proofs.Known.{Known, known-none, issued-known, issue, issued-number}
use Rattle.readable.proofs.Orders.{plus, InOrder}

-- what is submitted, from LEIs that are known
abbrev submission_from : List (List ℕ) → List Meaning → Submission
submission_from known parsed = record {
  head = head_by (get_or (values_by 0 parsed) 0 []);
  rows = map priced_row (numbered_from (map lei_of known) (values_by 1 parsed));
  prices = map row_price (numbered_from (map lei_of known) (values_by 1 parsed));
  lines = map line_by (values_by 2 parsed);
}

-- records that are read: good H, then good P, that submit this
abbrev Parted : List (List ℕ) → List Read → Submission → Type 0
Parted known reads s =
    (holdings : List (List (List ℕ)))
    × (lines : List (List (List ℕ)))
    × (leis : List (List ℕ))
    × (reads ≡ map formed (holdings ++ lines))
    × AreHoldings known holdings s.rows s.prices leis
    × AreLines lines s.lines

-- and with a good D before them
abbrev pub Headed : List Read → Submission → Type 0
Headed reads s =
    (head : List (List ℕ))
    × (holdings : List (List (List ℕ)))
    × (lines : List (List (List ℕ)))
    × (leis : List (List ℕ))
    × (reads ≡ map formed (head ∷ (holdings ++ lines)))
    × IsRecord 0 head (head_numbers s.head)
    × AreHoldings [] holdings s.rows s.prices leis
    × AreLines lines s.lines

-- after a P there is no H
late : {known leis : List (List ℕ)} {r : List (List ℕ)} {rs : List (List (List ℕ))} {rows : List Row} {prices : List ℕ}
    → AreHoldings known (r ∷ rs) rows prices leis → (count : ℕ → ℕ)
    → Comes (Some 2) count (parse (formed r)) → ⊥
late (holding_and {r = r} is issued rest) count c = false≢true (rw (record_good r 1 _ is) at c).0

-- after a record that came there is no D
abbrev NoHead : Meaning → Type 0
NoHead last = may_follow (letter_of last) 0 ≡ true → ⊥

no_head : (before : Option ℕ) (count : ℕ → ℕ) (m : Meaning) → Comes before count m → NoHead m
no_head before count (good k vs) c e = false≢true e
no_head before count (refused number) c e = absurd c

-- the issuer of a good H is of its sort
record_issuer : (r : List (List ℕ)) (vs : List ℕ) → IsRecord 1 r (list_to 8 (λ j. get_or vs j 0)) → IsValue Issuer (issuer_text r) (issuer_in vs)
unfolding list_to
record_issuer [] vs is = absurd is
record_issuer (letter ∷ texts) vs (named, value_and side (value_and kind (value_and issuer others)), rated) = issuer

-- a good H with the number of its issuer
module _ (known : List (List ℕ)) (m : Known known) (r : List (List ℕ)) (vs : List ℕ) (e : parse (formed r) ≡ good 1 vs) where
  abbrev number : ℕ
  number = issuer_number (map lei_of known) vs

  numbered-row : set (priced_numbers (priced_row (set vs 2 number)) (row_price (set vs 2 number))) 2 (issuer_in vs) ≡ list_to 8 (λ j. get_or vs j 0)
  unfolding priced_numbers list_to
  numbered-row = by vs (good_length (formed r) e)
    where
      by : (vs : List ℕ) → length vs ≡ field_count + 1
          → set (priced_numbers (priced_row (set vs 2 number)) (row_price (set vs 2 number))) 2 (issuer_in vs) ≡ list_to 8 (λ j. get_or vs j 0)
      by [] h = absurd (omega arith)
      by (a ∷ []) h = absurd (omega arith)
      by (a ∷ b ∷ []) h = absurd (omega arith)
      by (a ∷ b ∷ c ∷ vs) h = refl

  -- what it is as a record, its LEI, and its number
  as_record : IsRecord 1 r (set (priced_numbers (priced_row (set vs 2 number)) (row_price (set vs 2 number))) 2 (issuer_in vs))
  as_record = rw numbered-row (record_of r 1 vs e).0

  lei_of_lem : lei_in vs ≡ lei_of (issuer_text r)
  unfolding list_to
  lei_of_lem = ap lei_in (record_of r 1 vs e).1

  as_issued : (then : List (List ℕ)) × (known_after (map lei_of known) vs ≡ map lei_of then) × Issued known (issuer_text r) (issuer_in vs) (priced_row (set vs 2 number)).issuer then
  as_issued =
      let (n, then, issued) = issue known m (issuer_text r) (issuer_in vs) (record_issuer r vs (record_of r 1 vs e).0) in
      let (same, known-then) = issued-number issued m vs refl lei_of_lem in
      (then, known-then, rw (get_or-set_same vs 2 number 0 (omega (arith, good_length (formed r) e)), same) issued)

-- one record before them
module _ (known : List (List ℕ)) (m : Known known) (r : List (List ℕ)) (reads : List Read) (last : Meaning) (count : ℕ → ℕ) where
  one_more : (p : Meaning) → parse (formed r) ≡ p → NoHead last → InOrder last count (p ∷ map parse reads)
      → ((then : List (List ℕ)) → Known then → Parted then reads (submission_from then (map parse reads)))
      → Parted known (formed r ∷ reads) (submission_from known (p ∷ map parse reads))
  unfolding values_by numbered_from line_numbers list_to
  one_more (good zero vs) e none o p = absurd (none o.0.0)
  one_more (good (suc zero) vs) e none o p =
      let (then, same, issued) = as_issued known m r vs e in
      let (hs, ls, leis, all, h, l) = p then (issued-known issued m) in
      rw same (r ∷ hs, ls, leis, ap (formed r ∷◌) all, holding_and (as_record known m r vs e) issued h, l)
  one_more (good (suc (suc zero)) vs) e none o p = by (p known m)
    where
      by : Parted known reads (submission_from known (map parse reads)) → Parted known (formed r ∷ reads) (submission_from known (good 2 vs ∷ map parse reads))
      by ([], ls, leis, all, h, l) = ([], r ∷ ls, leis, ap (formed r ∷◌) all, h, line_and (record_of r 2 vs e).0 l)
      by (q ∷ hs, ls, leis, all, h, l) = absurd (late h (plus count (good 2 vs)) (rw all at o.1).0)
  one_more (good (suc (suc (suc k))) vs) e none o p = absurd (omega (arith, parse-good (formed r) e))
  one_more (refused _) e none o p = absurd o.0

-- records that come in order after one are good H, then good P
parted : (reads : List Read) (known : List (List ℕ)) → Known known → (last : Meaning) (count : ℕ → ℕ) → NoHead last → InOrder last count (map parse reads)
    → Parted known reads (submission_from known (map parse reads))
unfolding parse numbered_from values_by
parted [] known m last count none o = ([], [], known, refl, no_holdings, no_lines)
parted (broken ∷ reads) known m last count none o = absurd o.0
parted (formed r ∷ reads) known m last count none o =
    one_more known m r reads last count (parse (formed r)) refl none o
    (λ then k. parted reads then k _ _ (no_head (letter_of last) count (parse (formed r)) o.0) o.1)

-- a D before them, the first of all
first : (texts : List (List ℕ)) (reads : List Read) (count : ℕ → ℕ) (m : Meaning) → parse (formed texts) ≡ m → InOrder (refused 0) count (m ∷ map parse reads)
    → Parted [] reads (submission_from [] (map parse reads)) → Headed (formed texts ∷ reads) (submission_of (m ∷ map parse reads))
unfolding values_by holdings_of submission_of head_numbers list_to
first texts reads count (good zero vs) e o (hs, ls, leis, all, h, l) = (texts, hs, ls, leis, ap (formed texts ∷◌) all, (record_of texts 0 vs e).0, h, l)
first texts reads count (good (suc k) vs) e o p = absurd (omega (arith, eqb-true (suc k) 0 o.0.0))
first texts reads count (refused _) e o p = absurd o.0

-- and all the records, if there is one, are a good D and these
pub headed : (reads : List Read) (count : ℕ → ℕ) → (reads ≡ [] → ⊥) → InOrder (refused 0) count (map parse reads) → Headed reads (submission_of (map parse reads))
unfolding parse
headed [] count some o = absurd (some refl)
headed (broken ∷ reads) count some o = absurd o.0
headed (formed texts ∷ reads) count some o =
    first texts reads count (parse (formed texts)) refl o (parted reads [] known-none _ _ (no_head (letter_of (refused 0)) count (parse (formed texts)) o.0) o.1)

-- good records, after one and so many of each, come in order as what they are, with the LEIs that are known after them
abbrev Gives : List (List ℕ) → Meaning → (ℕ → ℕ) → List Meaning → Submission → List (List ℕ) → Type 0
Gives known last count parsed s leis =
    InOrder last count parsed × (submission_from known parsed ≡ s) × (leis_from (map lei_of known) (values_by 1 parsed) ≡ map lei_of leis)

lines_give : {rs : List (List (List ℕ))} {lines : List Line} → AreLines rs lines → (known : List (List ℕ)) (last : Meaning) (count : ℕ → ℕ) → may_follow (letter_of last) 2 ≡ true
    → count 2 + length lines ≤ 512 → Gives known last count (map parse (map formed rs)) (record { head = head_by []; rows = []; prices = []; lines = lines }) known
unfolding values_by numbered_from leis_from line_numbers
lines_give no_lines known last count may l = (tt, refl, refl)
lines_give (line_and {r} {line} is rest) known last count may l =
    let m : Meaning = good 2 (record_values r (line_numbers line)) in
    let (order, same, leis) = lines_give rest known m (plus count m) refl (omega arith) in
    rw (record_good r 2 (line_numbers line) is) (
      ((may, λ z. absurd (omega arith), λ z full. omega arith), order),
      ap (λ (s : Submission). record { head = s.head; rows = s.rows; prices = s.prices; lines = line ∷ s.lines }) same,
      leis,
    )

records_give : {known leis : List (List ℕ)} {hs ls : List (List (List ℕ))} {rows : List Row} {prices : List ℕ} {lines : List Line} → AreHoldings known hs rows prices leis
    → AreLines ls lines → Known known → (last : Meaning) (count : ℕ → ℕ) → may_follow (letter_of last) 1 ≡ true → may_follow (letter_of last) 2 ≡ true
    → count 1 + length rows ≤ 256 → count 2 + length lines ≤ 512
    → Gives known last count (map parse (map formed (hs ++ ls))) (record { head = head_by []; rows = rows; prices = prices; lines = lines }) leis
unfolding values_by numbered_from leis_from priced_numbers
records_give {known} no_holdings ls m last count first then k l = lines_give ls known last count then l
records_give {known} (holding_and {r = r} {row = row} {price = price} {v = v} is issued rest) ls m last count first then k l =
    let vs : List ℕ = record_values r (set (priced_numbers row price) 2 v) in
    let p : Meaning = good 1 vs in
    let (number, after) = issued-number issued m vs refl refl in
    let (order, same, leis) = records_give rest ls (issued-known issued m) p (plus count p) refl refl (omega arith) (omega arith) in
    rw (record_good r 1 _ is, number, after) (
      ((first, λ z full. omega arith, λ z. absurd (omega arith)), order),
      ap (λ (s : Submission). record { head = s.head; rows = row ∷ s.rows; prices = price ∷ s.prices; lines = s.lines }) same,
      leis,
    )

-- a D before them, first of all
pub file-gives : (d : List (List ℕ)) (h : Head) {leis : List (List ℕ)} {hs ls : List (List (List ℕ))} {rows : List Row} {prices : List ℕ} {lines : List Line}
    → IsRecord 0 d (head_numbers h) → AreHoldings [] hs rows prices leis → AreLines ls lines → length rows ≤ 256 → length lines ≤ 512
    → let parsed = map parse (map formed (d ∷ (hs ++ ls))) in InOrder (refused 0) (λ k. 0) parsed
    × (submission_of parsed ≡ record { head = h; rows = rows; prices = prices; lines = lines }) × (leis_of parsed ≡ map lei_of leis)
unfolding values_by holdings_of leis_of submission_of head_numbers
file-gives d h is hs ls k l =
    let m : Meaning = good 0 (record_values d (head_numbers h)) in
    let (order, same, leis) = records_give hs ls known-none m (plus (λ k. 0) m) refl refl (omega arith) (omega arith) in
    rw (record_good d 0 (head_numbers h) is) (
      ((refl, λ z. absurd (omega arith), λ z. absurd (omega arith)), order),
      ap (λ (s : Submission). record { head = h; rows = s.rows; prices = s.prices; lines = s.lines }) same,
      leis,
    )
