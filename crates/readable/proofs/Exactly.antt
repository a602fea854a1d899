-- The file: a text is read exactly when it is short and a rendering, in RFC 4180's grammar, of a good D, then good H and then good P, not too many of either;
-- and what is read is what these are. Assumes nothing.
use mathlib.Core.Path.{◌≡◌, refl, sym, ap, ◌∙◌}
use mathlib.Core.Logic.{◌≢◌}
use mathlib.Core.List.{List, [], ◌∷◌, map}
use Prim.Native.Nat.{ℕ, ◌≤◌}
use native.Mathlib.Omega.{arith}
use lib.ListN.{length, length-map}
use Rattle.proposal.specs.Submission.{Submission, priced_row, line_by}
use Rattle.rfc4180.specs.Grammar.{File, none}
use Rattle.rfc4180.specs.Reading.{records_of}
use Rattle.rfc4180.proofs.Places.{records_end}
use Rattle.grammar.proofs.Sound.{file_sound}
use Rattle.grammar.proofs.Complete.{file_complete}
use Rattle.holding.specs.Holding.{head_numbers}
use Rattle.holding.specs.declared.Head.{Head}
use Rattle.layout.specs.Layout.{value_and, IsRecord, refused}
use Rattle.lists.specs.Choice.{first_of}
use Rattle.lists.specs.Tables.{Each}
use Rattle.lei.specs.Lei.{IsLei, lei_of, lei_text}
use Rattle.lei.proofs.Identifiers.{identifiers}
use Rattle.reader.specs.File.{parsed_in, values_by, holdings_of, leis_of, submission_of, file_faults, file_fault}
use Rattle.reader.proofs.Numbering.{length-numbered}
use Rattle.readable.specs.Readable.{Submits, HeadTexts, ReadExactly}
use Rattle.readable.proofs.Orders.{InOrder, few, order-exactly}
use Rattle.readable.proofs.Numbers.{none-exactly}
use Rattle.readable.proofs.Known.{known-none}
use Rattle.readable.proofs.ByFirst.{holdings-known, number_at_lem, by_first}
use Rattle.readable.proofs.Submitted.{headed, file-gives}

-- a file of no records has no bytes
no_bytes : {text : List ℕ} → File text [] → length text ≡ 0
no_bytes none = refl

-- the numbers of LEIs write their texts
texts-back : (ts : List (List ℕ)) → Each IsLei ts → map lei_text (map lei_of ts) ≡ ts
texts-back [] each = refl
texts-back (t ∷ ts) each = λ i. identifiers.two-numbers.back t each.0.form i ∷ texts-back ts each.1 i

-- the texts of a good D
head-texts : (r : List (List ℕ)) (h : Head) → IsRecord 0 r (head_numbers h) → HeadTexts r h
unfolding head_numbers
head-texts [] h is = absurd is
head-texts (letter ∷ texts) h (_, value_and date (value_and account _), _) = record {
  date = date.0;
  letter = omega (arith, account.inside);
  participant = λ e. rw e at account.here;
  client = λ e. rw e at account.here;
}

module _ (text : List ℕ) where
  -- what comes in order is submitted
  order_submits : length text ≤ 65536 → length text ≢ 0 → InOrder (refused 0) (λ k. 0) (parsed_in text) → Submits text (submission_of (parsed_in text))
  unfolding parsed_in holdings_of submission_of
  order_submits short some order =
      let (head, holdings, lines, leis, all, valued, each_holding, each_line) = headed (records_of text) (λ k. 0) (λ e. some (no_bytes (file_sound text [] e))) order in
      record {
        head = head;
        holdings = holdings;
        lines = lines;
        leis = leis;
        short = short;
        rendering = file_sound text _ all;
        valued = valued;
        each_holding = each_holding;
        each_line = each_line;
        few-holdings =
            let most = few 1 256 (λ before count vs c. c.1 refl) (parsed_in text) (refused 0) (λ k. 0) order (omega arith) in
            omega (arith, length-map (holdings_of (parsed_in text)) priced_row, length-numbered [] (values_by 1 (parsed_in text)));
        few-lines =
            omega (arith, length-map (values_by 2 (parsed_in text)) line_by, few 2 512 (λ before count vs c. c.2 refl) (parsed_in text) (refused 0) (λ k. 0) order (omega arith));
      }

  -- what is submitted comes in order, with the LEIs that are read, and is some bytes
  module _ (s : Submission) (h : Submits text s) where
    gives : InOrder (refused 0) (λ k. 0) (parsed_in text) × (submission_of (parsed_in text) ≡ s) × (leis_of (parsed_in text) ≡ map lei_of h.leis)
    unfolding parsed_in
    gives = rw (file_complete text _ h.rendering) (file-gives h.head s.head h.valued h.each_holding h.each_line h.few-holdings h.few-lines)

    leis_read : h.leis ≡ map lei_text (leis_of (parsed_in text))
    leis_read = sym (ap (map lei_text) gives.2 ∙ texts-back h.leis (holdings-known h.each_holding known-none).each)

  submits_some : (s : Submission) → Submits text s → length text ≢ 0
  unfolding records_of
  submits_some s h e =
      let nothing : records_of text ≡ [] = records_end text 0 (omega (arith, e)) in
      let all = file_complete text _ h.rendering in
      absurd cc

  pub read-exactly : ReadExactly text
  read-exactly = record {
    read = (
      λ e.
          let (short, some, order) = (order-exactly text).0 ((none-exactly text).0 e) in
          order_submits short some order,
      λ h. (none-exactly text).1 ((order-exactly text).1 (h.short, submits_some _ h, (gives _ h).0)),
    );
    only = λ s h. sym (gives s h).1;
    head = λ s h. head-texts h.head s.head h.valued;
    empty = λ e. rw e (unfold file_fault file_faults first_of in refl);
    numbered = λ s h. by_first h.each_holding;
    leis = leis_read;
    lei = λ s h. number_at_lem h.each_holding;
  }
