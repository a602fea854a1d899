-- Columns that are checked are printed as their outcome, and those of tables that a file was read into hold what it submits. Assumes nothing.
use mathlib.Core.Path.{◌≡◌, refl, sym, subst, ◌∙◌}
use mathlib.Core.Bool.{true, false}
use mathlib.Core.List.{List, [], ◌∷◌, map}
use Prim.Native.Nat.{ℕ, ◌*◌, ◌/◌, ◌≤◌}
use Rattle.std.proofs.Common.{Result}
use native.Mathlib.Omega.{arith}
use lib.Dec.{ltb}
use lib.ListN.{length, replicate}
use borrow.Author.Tests.{ltb-true}
use Rattle.lists.specs.Choice.{every}
use Rattle.lists.specs.Tables.{Each, list_to}
use Rattle.lists.proofs.Entries.{each-by, each_map}
use Rattle.lists.proofs.Tables.{to_eq}
use Rattle.holding.specs.declared.Head.{Head}
use Rattle.proposal.specs.Submission.{Submission, line_by, priced_row, row_price}
use Rattle.columns.specs.Columns.{Columns, count_in, submission, holding_sizes, line_sizes, column, filled_from, filled, column_in, Entered}
use Rattle.columns.proofs.Submitted.{column-entries}
use Rattle.columns.proofs.Tables.{column-long, entered-column, by_tables, filled-values}
use Rattle.columns.proofs.ReadBack.{SubmissionFits, nth, bare, bare-column, submission-filled}
use Rattle.words.specs.Words.{entries}
use Rattle.sizes.specs.Sizes.{entries_of, Equal}
use Rattle.sizes.proofs.Sizes.{differ-exactly}
use Rattle.verdict.specs.Judges.{columns_differ, Scratch, Judges}
use Rattle.verdict.specs.declared.Verdict.{Verdict}
use Rattle.report.specs.Report.{report_of, report_room, Prints}
use Rattle.refusals.specs.declared.Refusal.{Refusal}
use Rattle.report.proofs.Judged.{report_judged}
use Rattle.printing.specs.Printed.{PrintsColumns, columns_of, TablesHold}

pub columns-printed : (h : Head) (c : Columns) (before after : Scratch) {v : Verdict} {count : ℕ} {left margins ranks old now : List ℕ} {r : Result ℕ Refusal}
    → Judges false h c before after v → count ≡ count_in c.holdings
    → (let lines = report_of v count left margins ranks in Prints lines old now r × (length lines ≤ report_room))
    → left ≡ after.left → margins ≡ after.margins → ranks ≡ after.ranks → PrintsColumns h c old now r
unfolding count_in entries
columns-printed h c before after judges many (p, few) e f g =
    let same = report_judged h c before after _ _ judges (many ∙ sym (column-entries h c).holdings) in
    record { prints = rw (← same, ← e, ← f, ← g) p; room = rw (← same, ← e, ← f, ← g) few }

-- the columns of one table are equally long
equal : (n count : ℕ) (table : List ℕ) → n ≤ 512 → length table ≡ 8 * (512 * count) → (j : ℕ) (js : List ℕ) → every (λ k. ltb k count) (j ∷ js) ≡ true
    → Equal (map (λ k. length (column_in 512 n table k)) (j ∷ js))
unfolding entries_of
equal n count table few whole j js within =
    let long : ℕ → ℕ = λ k. length (column_in 512 n table k) in
    let full = each-by (λ k. long k ≡ 8 * n) (λ k. ltb k count) (λ k e. column-long 512 n k table (omega (arith, ltb-true k count e))) (j ∷ js) within in
    let entries : long j / 8 ≡ n = omega (arith, full.0) in
    subst (λ (q : ℕ). Each (λ size. size ≡ 8 * q) (map long (j ∷ js))) (sym entries) (each_map (λ size. size ≡ 8 * n) long (j ∷ js) full)

-- where numbers were entered, the columns of a table are what columns that held nothing are filled to
bare-columns : {count n : ℕ} {numbers : List (List ℕ)} {old now : List ℕ} → Entered count 512 numbers old now → length numbers ≡ n
    → list_to count (column_in 512 n now) ≡ list_to count (λ j. column (map (nth j) numbers) [])
bare-columns {numbers = numbers} e many = to_eq _ _ _ (λ j l. entered-column e many j l ∙ sym (bare-column (map (nth j) numbers)))

-- the columns of two tables
module _ (n m : ℕ) (book lines : List ℕ) where
  pub tables_even : TablesHold n m book lines → columns_differ (columns_of n m book lines) ≡ false
  unfolding holding_sizes line_sizes
  tables_even h =
      (differ-exactly _ _).1
      (equal n 8 book h.few-holdings h.whole_book 0 (1 ∷ 2 ∷ 3 ∷ 4 ∷ 6 ∷ 7 ∷ 5 ∷ []) refl, equal m 3 lines h.few-lines h.whole_lines 0 (1 ∷ 2 ∷ []) refl)

  -- where values were entered they hold what these submit
  module _ (h : Head) (hs ls : List (List ℕ)) where
    abbrev submitted : Submission
    submitted = record { head = h; rows = map priced_row hs; prices = map row_price hs; lines = map line_by ls }

    pub tables_submitted : {old oldLines : List ℕ} → Entered 8 512 hs old book → Entered 3 512 ls oldLines lines → length hs ≡ n → length ls ≡ m
        → SubmissionFits submitted → submission h (columns_of n m book lines) ≡ submitted
    unfolding list_to filled_from
    tables_submitted e f p q fit =
        let filling : columns_of n m book lines ≡ filled submitted bare =
        (λ i. by_tables (bare-columns e p i) (bare-columns f q i)) ∙ sym (filled-values h hs ls (replicate 8 []) (replicate 3 []) refl refl) in
        rw filling (submission-filled submitted fit)
