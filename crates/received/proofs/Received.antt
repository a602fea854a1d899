-- From what was read of a text to what is promised of what is lent. Assumes nothing.
use mathlib.Core.Path.{◌≡◌, refl, sym, ap, subst, ◌∙◌}
use mathlib.Core.Logic.{◌↔◌, ◌≢◌}
use mathlib.Core.Bool.{Bool, true, false, cond}
use mathlib.Core.List.{List, [], ◌∷◌, ◌++◌, map}
use Prim.Native.Nat.{ℕ, suc, ◌*◌, ◌/◌, ◌≤◌, ◌<◌}
use Rattle.std.proofs.Common.{Result, Ok, Err}
use native.Mathlib.Omega.{arith}
use lib.Dec.{eqb}
use lib.ListN.{length, get_or, take, drop, length-map, length-append, length-take, length-drop}
use borrow.Author.Tests.{ne_eqb}
use Rattle.lists.specs.Tables.{Each, list_to, front}
use Rattle.lists.proofs.Tables.{to_back}
use Rattle.lists.proofs.Entries.{each_so, each-parts, each_back}
use Rattle.holding.specs.Holding.{head_numbers}
use Rattle.article.specs.Answer.{Answer, make_answer}
use Rattle.proposal.specs.Submission.{Submission, no_row, no_line}
use Rattle.proposal.proofs.Clear.{number}
use Rattle.words.specs.Words.{word_at, with_word, encode}
use Rattle.words.proofs.Encoded.{encoded_two}
use Rattle.columns.specs.Columns.{Columns, make_columns, holding_sizes, line_sizes, lists_of, column, filled_from, filled, copied, CopyRoom, RowAt, LineAt}
use Rattle.columns.proofs.Tables.{entered-copied, by_tables, filled-values}
use Rattle.columns.proofs.ReadBack.{column-read, rows-read, lines-read}
use Rattle.sizes.specs.Sizes.{Room, too_short}
use Rattle.sizes.proofs.Sizes.{room-exactly}
use Rattle.lent.specs.Boundary.{Answers}
use Rattle.reader.specs.File.{parsed_in, values_by, holdings_of, submission_of, submission_in, TableRoom, ReadsFile}
use Rattle.reader.specs.declared.Contents.{Contents}
use Rattle.refusals.specs.Refusals.{number_of}
use Rattle.refusals.specs.declared.Refusal.{Refusal}
use Rattle.proposal.specs.declared.Fault.{Fault}
use Rattle.lei.specs.declared.Lei.{Lei}
use Rattle.readable.specs.Readable.{Submits}
use Rattle.readable.proofs.Answered.{answer-refused, answer-none, answer-exactly, refusal-known, was_read, no_fault}
use Rattle.readable.proofs.Answered.{head_read, holdings-counted, lines-counted, holdings-held, lines-held, few-holdings, few-lines}
use Rattle.readable.proofs.Exactly.{read-exactly}
use Rattle.readable.proofs.Fitting.{file-fits}
use Rattle.received.specs.Reading.{held_lists, reading_answer, nothing, filling, heading, Reads}

-- nothing goes into a list, or into the columns
none-column : (old : List ℕ) → old ≡ column [] old
unfolding column front encode
none-column old = refl

none_from : (j : ℕ) (columns : List (List ℕ)) → columns ≡ filled_from j [] columns
unfolding filled_from
none_from j [] = refl
none_from j (old ∷ olds) = λ i. none-column old i ∷ none_from (suc j) olds i

none_filled : (c : Columns) → c ≡ filled nothing c
unfolding filled
none_filled c = λ i. make_columns (none_from 0 c.holdings i) (none-column c.price i) (none_from 0 c.lines i)

-- a list that is to hold n numbers, with its length, and one that does
abbrev Holds : ℕ × ℕ → Type 0
Holds list = list.0 ≤ list.1 / 8

with_room : (n : ℕ) (lists : List (List ℕ)) → Each Holds (map (λ (size : ℕ). (n, size)) (map length lists)) → Each (λ c. 8 * n ≤ length c) lists
with_room n lists h =
    each_so (λ (c : List ℕ). Holds (n, length c)) (λ c. 8 * n ≤ length c) (λ c l. omega arith) lists
    (each_back (λ (size : ℕ). Holds (n, size)) length lists (each_back Holds (λ (size : ℕ). (n, size)) (map length lists) h))

-- a table of holdings has eight columns, all but the price's those of its holdings
module _ (P : List ℕ → Type 0) (table lined : List (List ℕ)) (eight : length table ≡ 8) where
  in_order : Each P ((by_tables table lined).holdings ++ ((by_tables table lined).price ∷ [])) → Each P table
  unfolding list_to
  in_order =
      rw (← to_back 8 table [] eight) (λ (side, (kind, (issuer, (maturity, (value, (currency, (rating, (price, _)))))))).
      (side, (kind, (issuer, (maturity, (value, (price, (currency, (rating, tt)))))))))

seven : (table lined : List (List ℕ)) → length table ≡ 8 → length (by_tables table lined).holdings ≡ 7
seven table lined h = length-append (take 5 table) (drop 6 table) ∙ omega (arith, length-take 5 table, length-drop 6 table, h)

-- a text, and what is lent: a list for the head, columns of holdings in the order of a table's, of lines, and an answer slice
module _ (text head : List ℕ) (table lined : List (List ℕ)) (out : List ℕ) where
  abbrev s : Submission
  s = submission_in text

  abbrev before : Columns
  before = by_tables table lined

  abbrev pub short : Bool
  short = too_short (held_lists s head before) (length out)

  read_when : ((reading_answer text head before out).number ≡ 0) ↔ (Submits text s × Room (held_lists s head before) (length out))
  unfolding reading_answer
  read_when =
      let both = answer-exactly text short in
      let file = (read-exactly text).read in
      let room = room-exactly (held_lists s head before) (length out) in
      (λ e. (file.0 (both.0 e).0, room.0 (both.0 e).1), λ h. both.1 (file.1 h.0, room.1 h.1))

  -- on a refusal nothing goes into the columns and the head's list, and they are left untouched
  module _ {t : Bool} (e : eqb (reading_answer text head before out).number 0 ≡ t) where
    filling-by : filling text head before out ≡ cond t s nothing
    unfolding filling
    filling-by = ap (λ (read : Bool). cond read s nothing) e

    heading-by : heading text head before out ≡ cond t (head_numbers s.head) []
    unfolding heading
    heading-by = ap (λ (read : Bool). cond read (head_numbers s.head) []) e

  refused : (a : Answer) (out' : List ℕ) (r : ℕ) → reading_answer text head before out ≡ a → a.number ≢ 0 → Answers a out out' r
      → Reads text head head before before out out' r
  refused a out' r e h t =
      let not-zero : eqb (reading_answer text head before out).number 0 ≡ false = rw e (ne_eqb a.number 0 h) in
      let not-read : r ≢ 0 = λ z. h (sym t.number ∙ z) in
      record {
        returned = rw e t;
        columns = rw (filling-by not-zero) (none_filled before);
        valued = rw (heading-by not-zero) (none-column head);
        untouched = λ _. (refl, refl);
        date = λ z. absurd (not-read z);
        letter = λ z. absurd (not-read z);
        holding = λ z. absurd (not-read z);
        price = λ z. absurd (not-read z);
        line = λ z. absurd (not-read z);
        exactly = rw (t.number ∙ sym (ap number e)) read_when;
        only = (read-exactly text).only;
      }

  module _ {rows : ℕ} {book lines book' lines' : List ℕ} {known' : List Lei} {d : Result Contents (Fault Refusal)} (from-file : ReadsFile text rows book lines book' lines' known' d) where
    pub record_refused : {f : Fault Refusal} (out' : List ℕ) (r : ℕ) → d ≡ Err f → Answers (make_answer (number_of f.refusal) f.place f.second) out out' r
        → Reads text head head before before out out' r
    unfolding reading_answer
    record_refused {f} out' r e t =
        let (other, fault) = refusal-known from-file e in
        refused (make_answer (number_of f.refusal) f.place f.second) out' r (answer-refused text short (λ z. other (sym (ap number fault) ∙ z)) ∙ fault) other t

    -- nothing is refused
    module _ {c : Contents} (e : d ≡ Ok c) where
      -- the lists are measured for what the text submits
      pub measured : {two : Bool}
          → two ≡ too_short ((length (head_numbers c.head), length head) ∷ (map (λ size. (c.holdings, size)) (holding_sizes before) ++ map (λ size. (c.lines, size)) (line_sizes before))) (length out)
          → two ≡ short
      unfolding held_lists head_numbers lists_of
      measured t = t ∙ rw (← holdings-counted from-file e, ← lines-counted from-file e)

      module _ {two : Bool} (same : two ≡ short) where
        pub list_refused : (out' : List ℕ) (r : ℕ) → two ≡ true → Answers (make_answer 2 0 0) out out' r → Reads text head head before before out out' r
        unfolding reading_answer
        list_refused out' r t answered =
            refused (make_answer 2 0 0) out' r (answer-none text short (no_fault from-file e) ∙ rw (sym same ∙ t)) (λ w. omega arith) answered

        -- each list then has room for its numbers
        module _ (fits : two ≡ false) where
          each-held : Each Holds (held_lists s head before)
          each-held = ((room-exactly (held_lists s head before) (length out)).0 (sym same ∙ fits)).each

          pub head_room : 8 * length (head_numbers c.head) ≤ length head
          unfolding held_lists head_numbers
          head_room = let all = each-held.0 in omega arith

          each_list : Each (λ (b : List ℕ). 8 * c.holdings ≤ length b) (before.holdings ++ (before.price ∷ [])) × Each (λ (b : List ℕ). 8 * c.lines ≤ length b) before.lines
          unfolding held_lists lists_of holding_sizes line_sizes
          each_list =
              let (book, lines) = each-parts Holds (map (λ size. (length s.rows, size)) (holding_sizes before)) (map (λ size. (length s.lines, size)) (line_sizes before))
              each-held.1 in (
                rw (← holdings-counted from-file e) (with_room _ (before.holdings ++ (before.price ∷ [])) book),
                rw (← lines-counted from-file e) (with_room _ before.lines lines),
              )

          module _ {known : List Lei} (room : TableRoom rows text book lines known) where
            pub book_room : length table ≡ 8 → CopyRoom rows c.holdings book' table
            book_room eight = record {
              few = few-holdings from-file e;
              whole = (from-file.each_holding (was_read from-file e)).long ∙ room.whole_book ∙ rw eight;
              each = in_order _ table lined eight each_list.0;
            }

            pub lines_room : length lined ≡ 3 → CopyRoom rows c.lines lines' lined
            lines_room three = record {
              few = few-lines from-file e;
              whole = (from-file.each_line (was_read from-file e)).long ∙ room.whole_lines ∙ rw three;
              each = each_list.1;
            }

      -- put one after the other, the numbers of the head are those that are submitted; copied, so are the tables
      head_put : {dated head' : List ℕ} → dated ≡ with_word head 0 c.head.date → head' ≡ with_word dated 1 c.head.letter → head' ≡ column (head_numbers s.head) head
      unfolding column head_numbers
      head_put p q = rw (head_read from-file e) (encoded_two c.head.date c.head.letter head _ _ p q)

      all_filled : {table' lined' : List (List ℕ)} → length table ≡ 8 → length lined ≡ 3 → table' ≡ copied rows c.holdings book' 0 table → lined' ≡ copied rows c.lines lines' 0 lined
          → by_tables table' lined' ≡ filled s before
      unfolding submission_of
      all_filled eight three f g =
          let held = entered-copied (from-file.each_holding (was_read from-file e)) (holdings-held from-file e) 0 table (omega (arith, eight)) in
          let taken = entered-copied (from-file.each_line (was_read from-file e)) (lines-held from-file e) 0 lined (omega (arith, three)) in
          (λ i. by_tables ((f ∙ held) i) ((g ∙ taken) i))
          ∙ sym (filled-values s.head (holdings_of (parsed_in text)) (values_by 2 (parsed_in text)) table lined eight three)

      pub all_read : {two : Bool} {dated head' : List ℕ} {table' lined' : List (List ℕ)} (out' : List ℕ) (r : ℕ) → two ≡ short → two ≡ false
          → length table ≡ 8 → length lined ≡ 3 → dated ≡ with_word head 0 c.head.date → head' ≡ with_word dated 1 c.head.letter
          → table' ≡ copied rows c.holdings book' 0 table → lined' ≡ copied rows c.lines lines' 0 lined
          → Answers (make_answer 0 c.holdings c.lines) out out' r → Reads text head head' before (by_tables table' lined') out out' r
      unfolding reading_answer filled head_numbers
      all_read out' r same fits eight three p q f g answered =
          let put = head_put p q in
          let after = all_filled eight three f g in
          let whole : reading_answer text head before out ≡ make_answer 0 c.holdings c.lines =
          answer-none text short (no_fault from-file e) ∙ rw (sym same ∙ fits, holdings-counted from-file e, lines-counted from-file e) in
          let zero : eqb (reading_answer text head before out).number 0 ≡ true = rw whole in
          let fit = file-fits text (no_fault from-file e) in
          let entry : (k : ℕ) → k < length (head_numbers s.head) → word_at _ k ≡ get_or (head_numbers s.head) k 0 =
          λ k l. ap (λ (c : List ℕ). word_at c k) put ∙ column-read (head_numbers s.head) head fit.head k l in
          let as_many : length s.prices ≡ length s.rows = unfold submission_of in simp length-map in
          record {
            returned = rw whole answered;
            columns = rw (filling-by zero) after;
            valued = rw (heading-by zero) put;
            untouched = λ h. absurd (h answered.number);
            date = λ _. entry 0 (omega arith);
            letter = λ _. entry 1 (omega arith);
            holding = λ _ k h.
                subst (λ (c : Columns). RowAt c.holdings k (get_or s.rows k no_row)) (sym after)
                (rows-read s.rows fit.rows k h before.holdings (seven table lined eight));
            price = λ _ k h. ap (λ (c : Columns). word_at c.price k) after ∙ column-read s.prices before.price fit.prices k (omega (arith, as_many));
            line = λ _ k h. subst (λ (c : Columns). LineAt c.lines k (get_or s.lines k no_line)) (sym after) (lines-read s.lines fit.lines k h lined three);
            exactly = rw (answered.number ∙ sym (ap number whole)) read_when;
            only = (read-exactly text).only;
          }
