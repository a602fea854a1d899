-- A list of records that is written: a row put at a place, and records that move up. Assumes nothing.
use mathlib.Core.Path.{◌≡◌, refl, sym, ap, subst, ◌∙◌}
use mathlib.Core.List.{List, ◌++◌, append-nil}
use Prim.Native.Nat.{ℕ, ◌+◌, ◌-◌, ◌*◌, ◌≤◌, ◌<◌, ◌^◌}
use native.Mathlib.Omega.{arith}
use lib.ListN.{length, get_or, take, drop, set, length-set, length-drop}
use lib.Seq.{drop-drop, ext_get_or, get_or-take, get_or-drop, get_or-set_same, get_or-set_other, take_at, drop_at, length-take-le}
use Rattle.lists.specs.Tables.{Each, front, overwrite}
use Rattle.lists.proofs.Overwrite.{length-overwrite}
use Rattle.lists.proofs.Tables.{get_or-to}
use Rattle.lists.proofs.Tests.{same_or_not, by_end}
use Rattle.holding.specs.Holding.{numbers_of, row_by}
use Rattle.holding.specs.declared.Row.{Row}
use Rattle.holding.proofs.Rows.{row_back}
use Rattle.proposal.specs.Submission.{no_row}
use Rattle.words.specs.Words.{decode, encode}
use Rattle.words.proofs.ReadBack.{decode-encode}
use Rattle.std.specs.List.{copy_within}
use Rattle.std.proofs.lemmas.List.{drop_all}
use Rattle.std.proofs.lemmas.List.Edits.{paste_all}
use Rattle.std.proofs.lemmas.Slice.{put_mid-paste}
use borrow.Rule.Slice.PartMut.{put_mid}
use Rattle.booking.specs.Seeing.{moved_up}
use Rattle.booking.proofs.Changed.{copied}
use Rattle.records.specs.Records.{records_in, record_at, row_at, rows_in}
use Rattle.records.specs.Writing.{Rewritten}
use Rattle.records.proofs.Rows.{length_record, length-row, length-rows, whole}
use Rattle.records.proofs.Places.{over-before, over_in, over_past, length_moved, moved_in, moved_before, moved_past}

pub row_of_lem : (bytes : List ℕ) (k : ℕ) → k < records_in bytes → get_or (rows_in bytes) k no_row ≡ row_at bytes k
unfolding rows_in
row_of_lem bytes k h = get_or-to (records_in bytes) (row_at bytes) k no_row h

byte_of : (bytes : List ℕ) (k j : ℕ) → j < 56 → get_or (record_at bytes k) j 0 ≡ get_or bytes (56 * k + j) 0
unfolding record_at
byte_of bytes k j h = get_or-take 56 (drop (56 * k) bytes) j 0 h ∙ get_or-drop (56 * k) bytes j 0

module _ (before after : List ℕ) (long : length after ≡ length before) where
  abbrev room : ℕ
  room = records_in before

  -- a record with the bytes of another has its row
  row_same : (k m : ℕ) → k < room → m < room → ((j : ℕ) → j < 56 → get_or after (56 * k + j) 0 ≡ get_or before (56 * m + j) 0) → row_at after k ≡ row_at before m
  unfolding row_at
  row_same k m p q e =
      let here = length_record after k (omega (arith, whole before k p)) in
      let there = length_record before m (whole before m q) in
      ap (λ (r : List ℕ). row_by (decode r))
      (ext_get_or 0 (record_at after k) (record_at before m) (here ∙ sym there)
      (λ j l.
      let low : j < 56 = omega (arith, here) in
      byte_of after k j low ∙ e j low ∙ sym (byte_of before m j low)))

  -- each record has the row that is wanted, and bytes past the last are kept
  rewritten : (wanted : List Row) → length wanted ≡ room → ((k : ℕ) → k < room → row_at after k ≡ get_or wanted k no_row)
      → ((p : ℕ) → 56 * room ≤ p → get_or after p 0 ≡ get_or before p 0) → Rewritten wanted before after
  unfolding records_in
  rewritten wanted many each past =
      let n = 56 * records_in before in
      let all : length (rows_in after) ≡ length wanted = length-rows after ∙ omega (arith, long, many) in
      record {
        long = long;
        rows = ext_get_or no_row (rows_in after) wanted all (λ k l. row_of_lem after k (omega (arith, length-rows after)) ∙ each k (omega (arith, many, all)));
        rest =
            ext_get_or 0 (drop n after) (drop n before) (omega (arith, length-drop n after, length-drop n before))
            (λ j _. get_or-drop n after j 0 ∙ past (n + j) (omega arith) ∙ sym (get_or-drop n before j 0));
      }

-- the numbers of a row are written over 56 bytes
pub row-over : (row : Row) (old part new : List ℕ) (i k : ℕ) → 56 ≡ k → length part ≤ 56 → new ≡ front (encode (numbers_of row)) part
    → put_mid (56 * i) k old new ≡ overwrite (56 * i) (encode (numbers_of row)) old
unfolding overwrite front
row-over row old part new i k e short w =
    let bytes = encode (numbers_of row) in
    let whole : new ≡ bytes = w ∙ ap (λ (l : List ℕ). bytes ++ l) (drop_all (length bytes) part (omega (arith, length-row row))) ∙ append-nil bytes in
    put_mid-paste (56 * i) k old new bytes 56 whole e (sym (length-row row))
    ∙ paste_all old (56 * i) bytes 56 (sym (length-row row))
    ∙ ap (λ (l : List ℕ). take (56 * i) old ++ (bytes ++ l)) (ap (λ (m : ℕ). drop (56 * i + m) old) (sym (length-row row)) ∙ sym (drop-drop (length bytes) (56 * i) old))

module _ (row : Row) (before after : List ℕ) (i : ℕ) (h : 56 * i + 56 ≤ length before) (e : after ≡ overwrite (56 * i) (encode (numbers_of row)) before) where
  abbrev bytes : List ℕ
  bytes = encode (numbers_of row)

  same-long : length after ≡ length before
  same-long = ap (length {A = ℕ}) e ∙ length-overwrite (56 * i) bytes before (omega (arith, length-row row))

  here : record_at after i ≡ bytes
  unfolding record_at overwrite front
  here =
      let long : length (take (56 * i) before) ≡ 56 * i = length-take-le (56 * i) before (omega arith) in
      let rest = drop (length bytes) (drop (56 * i) before) in
      rw (e, drop_at (take (56 * i) before) (bytes ++ rest) (56 * i) long, take_at bytes rest 56 (length-row row))

  -- the bytes of any other record are kept
  elsewhere : (p : ℕ) → (56 * i ≤ p → p < 56 * i + 56 → ⊥) → get_or after p 0 ≡ get_or before p 0
  elsewhere p apart =
      rw e (by_end (λ (q : ℕ). q ≡ p → get_or (overwrite (56 * i) bytes before) p 0 ≡ get_or before p 0) (56 * i)
      (λ q l s. over-before (56 * i) bytes before (omega arith) 0 p (omega arith))
      (λ q l s. by_end (λ (x : ℕ). x ≡ p → get_or (overwrite (56 * i) bytes before) p 0 ≡ get_or before p 0) (56 * i + 56)
      (λ x m t. absurd (apart (omega arith) (omega arith)))
      (λ x m t. over_past (56 * i) bytes before (omega arith) 0 p (omega (arith, length-row row)))
      p refl)
      p refl)

  -- a row that was put at a place
  pub row_put : Each (λ x. x < 2 ^ 64) (numbers_of row) → Rewritten (set (rows_in before) i row) before after
  unfolding records_in
  row_put fit =
      let rows = rows_in before in
      let many = length-rows before in
      rewritten before after same-long (set rows i row) (length-set rows i row ∙ many)
      (λ k l. same_or_not k i
      (λ s.
      let back : row_at after i ≡ row = unfold row_at in rw (here, decode-encode (numbers_of row) fit) (row_back row) in
      rw s (back ∙ sym (get_or-set_same rows i row no_row (omega (arith, many)))))
      (λ o.
      row_same before after same-long k k l l (λ j m. elsewhere (56 * k + j) (λ p q. o (omega arith)))
      ∙ sym (row_of_lem before k l)
      ∙ sym (get_or-set_other rows i k row no_row o)))
      (λ p l. elsewhere p (λ a b. omega arith))

-- a list that is as it was
pub still : {wanted : List Row} {bytes : List ℕ} → wanted ≡ rows_in bytes → Rewritten wanted bytes bytes
still e = record { long = refl; rows = sym e; rest = refl }

-- bytes of records that moved up: those of the records from `first` to before `end` were copied to one place before
module _ (first end : ℕ) (old : List ℕ) (one : 1 ≤ first) (some : first ≤ end) (room : 56 * end ≤ length old) where
  abbrev up_to : ℕ
  up_to = 56 * (first - 1)

  abbrev part : List ℕ
  part = take (56 * end - 56 * first) (drop (56 * first) old)

  abbrev now : List ℕ
  now = overwrite up_to part old

  abbrev rows : List Row
  rows = rows_in old

  part_long : length part ≡ 56 * end - 56 * first
  part_long = length-take-le (56 * end - 56 * first) (drop (56 * first) old) (omega (arith, length-drop (56 * first) old))

  long : length now ≡ length old
  long = length-overwrite up_to part old (omega (arith, part_long))

  -- the bytes that moved, those past them, and those before
  moved : (p : ℕ) → 56 * first ≤ p + 56 → p + 56 < 56 * end → get_or now p 0 ≡ get_or old (p + 56) 0
  moved p a b =
      let j = p - up_to in
      let here : p ≡ up_to + j = omega arith in
      let there : 56 * first + j ≡ p + 56 = omega arith in
      ap (λ (n : ℕ). get_or now n 0) here
      ∙ over_in up_to part old (omega arith) 0 j (omega (arith, part_long))
      ∙ get_or-take (56 * end - 56 * first) (drop (56 * first) old) j 0 (omega arith)
      ∙ get_or-drop (56 * first) old j 0
      ∙ ap (λ (n : ℕ). get_or old n 0) there

  ahead : (p : ℕ) → 56 * end ≤ p + 56 → get_or now p 0 ≡ get_or old p 0
  ahead p a = over_past up_to part old (omega arith) 0 p (omega (arith, part_long))

  behind : (p : ℕ) → p + 56 < 56 * first → get_or now p 0 ≡ get_or old p 0
  behind p a = over-before up_to part old (omega arith) 0 p (omega arith)

  few : end ≤ length rows
  unfolding records_in
  few = omega (arith, length-rows old)

  -- record k then has the bytes that record n had
  row_from_lem : (k n : ℕ) → k < records_in old → n < records_in old → ((i : ℕ) → i < 56 → get_or now (56 * k + i) 0 ≡ get_or old (56 * n + i) 0)
      → row_at now k ≡ get_or rows n no_row
  row_from_lem k n p q e = row_same old now long k n p q e ∙ sym (row_of_lem old n q)

  abbrev Wanted : ℕ → Type 0
  Wanted k = row_at now k ≡ get_or (moved_up first end rows) k no_row

  before_first : (k : ℕ) → k < records_in old → k + 1 < first → Wanted k
  before_first k l a = row_from_lem k k l l (λ i b. behind (56 * k + i) (omega arith)) ∙ sym (moved_before first end rows one some few no_row k a)

  up : (k : ℕ) → k < records_in old → first ≤ k + 1 → k + 1 < end → Wanted k
  up k l a b =
      let far : (i : ℕ) → 56 * k + i + 56 ≡ 56 * (k + 1) + i = λ i. omega arith in
      row_from_lem k (k + 1) l (omega (arith, few, length-rows old)) (λ i c. moved (56 * k + i) (omega arith) (omega arith) ∙ ap (λ (y : ℕ). get_or old y 0) (far i))
      ∙ sym (moved_in first end rows one some few no_row k a b)

  past_end : (k : ℕ) → k < records_in old → end ≤ k + 1 → Wanted k
  past_end k l a = row_from_lem k k l l (λ i b. ahead (56 * k + i) (omega arith)) ∙ sym (moved_past first end rows one some few no_row k a)

  each : (k : ℕ) → k < records_in old → Wanted k
  each k l =
      by_end (λ (n : ℕ). n ≡ k + 1 → Wanted k) first
      (λ n a e. before_first k l (omega arith))
      (λ n a e. by_end (λ (x : ℕ). x ≡ k + 1 → Wanted k) end (λ x b f. up k l (omega arith) (omega arith)) (λ x b f. past_end k l (omega arith)) (k + 1) refl)
      (k + 1) refl

  moved_rows : Rewritten (moved_up first end rows) old now
  unfolding records_in
  moved_rows = rewritten old now long (moved_up first end rows) (length_moved first end rows one some few no_row ∙ length-rows old) each (λ p l. ahead p (omega arith))

  pub moved_records : {after : List ℕ} → after ≡ copy_within old (56 * first) (56 * end) (56 * (first - 1)) → Rewritten (moved_up first end rows) old after
  moved_records {after} e =
      subst (λ (l : List ℕ). Rewritten (moved_up first end rows) old l) (sym (e ∙ copied (56 * first) (56 * end) up_to old (omega arith) room)) moved_rows

-- the end of records is within the bytes
pub until_end : (bytes : List ℕ) (n : ℕ) → n ≤ records_in bytes → 56 * n ≤ length bytes
unfolding records_in
until_end bytes n h = omega arith
