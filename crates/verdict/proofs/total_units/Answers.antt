-- `total_units` goes through the phases in turn: each phase's promise, handed to the laws of the phases. Assumes nothing.
use Rattle.std.proofs.Common.{◌≡◌, ℕ, ◌*◌, ◌≤◌, Bool, List, length, Result, Ok, Err, refl, sym, ap, subst, ◌∙◌, arith}
use Rattle.std.specs.Result.{IsErrAnd}
use Rattle.std.proofs.lemmas.Result.{err_from_is_err_and}
use Rattle.proposal.specs.declared.Fault.{Fault}
use Rattle.lists.specs.Tables.{Each}
use Rattle.refusals.specs.Refusals.{refused_by, numbered}
use Rattle.refusals.specs.declared.Refusal.{Refusal}
use Rattle.holding.specs.Holding.{head_fault, headed_of}
use Rattle.holding.specs.declared.{Head.Head, Account.Account}
use Rattle.columns.specs.Columns.{Columns, column_at, count_in, holding_sizes, line_sizes}
use Rattle.sizes.specs.Sizes.{Counted, length_fault}
use Rattle.positions.specs.Opens.{Opens}
use Rattle.verdict.proofs.Checked.{lengths_refused, lengths_fit, head_refused, head_dated, book_refused, Held, book_held}
use Rattle.verdict.proofs.Checked.{lines_lent, prices_lent, values_lent, line_refused, margins_lent, pair_refused, totals_refused, margins_held, all_found}
use Rattle.verdict.proofs.total_units.Goals as goal

-- the fault that a `?` meets is the one that it returns
handed_on : {A : Type 0} (r : Result A (Fault Refusal)) (f : Fault Refusal) → IsErrAnd r (λ (g : Fault Refusal). g ≡ f) → r ≡ Err f
handed_on r f h =
    let p = err_from_is_err_and r h in
    p.1 ∙ ap (λ (g : Fault Refusal). Err g) p.2

pub returns-in_err-column_lengths : goal.returns-in_err-column_lengths
returns-in_err-column_lengths c =
    rw (handed_on c.from_residual.result _ c.from_residual.ensures.1)
    (lengths_refused _ _ _ c.column_lengths.ensures.counted c.column_lengths.ensures.number _ _ c.in_err-column_lengths.was refl)

pub returns-in_err-account : goal.returns-in_err-account
returns-in_err-account c =
    let z = lengths_fit _ _ _ c.column_lengths.ensures.counted c.column_lengths.ensures.number c.in_ok-column_lengths.was in
    rw (handed_on c.from_residual-in_err-account.result _ c.from_residual-in_err-account.ensures.1)
    (head_refused _ _ _ z c.account_of.ensures.number c.account_of.ensures.account _ _ c.in_err-account.was refl)

pub open-requires : goal.open-requires
open-requires c =
    let z = lengths_fit _ _ _ c.column_lengths.ensures.counted c.column_lengths.ensures.number c.in_ok-column_lengths.was in
    let a = head_dated _ _ _ z c.account_of.ensures.number c.account_of.ensures.account c.in_ok-account.was in
    record { valued = a.valued; few = z.few; each = z.each; prices = z.prices; legs_held = c.requires.legs_held z.few; left_held = c.requires.left_held z.few }

pub returns-in_err-open : goal.returns-in_err-open
returns-in_err-open c =
    let z = lengths_fit _ _ _ c.column_lengths.ensures.counted c.column_lengths.ensures.number c.in_ok-column_lengths.was in
    let a = head_dated _ _ _ z c.account_of.ensures.number c.account_of.ensures.account c.in_ok-account.was in
    rw (handed_on c.from_residual-in_err-open.result _ c.from_residual-in_err-open.ensures.1)
    (book_refused _ _ _ a (c.requires.left_held z.few) c.open.ensures _ _ c.in_err-open.was)

-- the book that was opened
module _ (two : Bool) (head : Head) (c : Columns) {l : Result (Unit {0}) Refusal} {d : Result Account Refusal} {o : Result (Unit {0}) (Fault Refusal)} {left₀ legs left : List ℕ}
    {x y : Unit {0}} {a : Account} where
  held : Counted c → refused_by l ≡ length_fault (holding_sizes c) (line_sizes c) two → l ≡ Ok x → refused_by d ≡ head_fault head → numbered d ≡ headed_of head → d ≡ Ok a
      → (count_in c.holdings ≤ 256 → count_in c.holdings ≤ length left₀) → Opens a c.holdings c.price left₀ legs left o → o ≡ Ok y → Held two head c left₀ legs left
  held counted number fit fault account made room opens opened =
      let z = lengths_fit _ _ _ counted number fit in
      book_held _ _ _ (head_dated _ _ _ z fault account made) (room z.few) opens opened

pub take_lines-requires : goal.take_lines-requires
take_lines-requires c =
    let h = held _ _ _ c.column_lengths.ensures.counted c.column_lengths.ensures.number c.in_ok-column_lengths.was c.account_of.ensures.number c.account_of.ensures.account c.in_ok-account.was
    c.requires.left_held c.open.ensures c.in_ok-open.was in
    rw c.holdings-n.ensures (lines_lent _ _ _ h)

pub returns-in_err-take_lines : goal.returns-in_err-take_lines
returns-in_err-take_lines c =
    let h = held _ _ _ c.column_lengths.ensures.counted c.column_lengths.ensures.number c.in_ok-column_lengths.was c.account_of.ensures.number c.account_of.ensures.account c.in_ok-account.was
    c.requires.left_held c.open.ensures c.in_ok-open.was in
    rw (handed_on c.from_residual-in_err-take_lines.result _ c.from_residual-in_err-take_lines.ensures.1)
    (line_refused _ _ _ h (rw c.holdings-n.ensures at c.take_lines.ensures) _ _ c.in_err-take_lines.was)

pub first_uncovered-requires : goal.first_uncovered-requires
first_uncovered-requires c =
    let h = held _ _ _ c.column_lengths.ensures.counted c.column_lengths.ensures.number c.in_ok-column_lengths.was c.account_of.ensures.number c.account_of.ensures.account c.in_ok-account.was
    c.requires.left_held c.open.ensures c.in_ok-open.was in
    let price = ap (λ (k : Columns). k.price) c.columns.view_is in
    rw (c.holdings-n.ensures, price) (prices_lent _ _ _ h)

pub returns-in_err-first_uncovered : goal.returns-in_err-first_uncovered
returns-in_err-first_uncovered c =
    let h = held _ _ _ c.column_lengths.ensures.counted c.column_lengths.ensures.number c.in_ok-column_lengths.was c.account_of.ensures.number c.account_of.ensures.account c.in_ok-account.was
    c.requires.left_held c.open.ensures c.in_ok-open.was in
    let price = ap (λ (k : Columns). k.price) c.columns.view_is in
    rw (handed_on c.from_residual-in_err-first_uncovered.result _ c.from_residual-in_err-first_uncovered.ensures.1)
    (pair_refused _ _ _ h (rw c.holdings-n.ensures at c.take_lines.ensures) c.in_ok-take_lines.was (rw (c.holdings-n.ensures, price) at c.first_uncovered.ensures)
    _ _ c.in_err-first_uncovered.was)

pub priced_total-requires : goal.priced_total-requires
priced_total-requires c =
    let h = held _ _ _ c.column_lengths.ensures.counted c.column_lengths.ensures.number c.in_ok-column_lengths.was c.account_of.ensures.number c.account_of.ensures.account c.in_ok-account.was
    c.requires.left_held c.open.ensures c.in_ok-open.was in
    let price = ap (λ (k : Columns). k.price) c.columns.view_is in
    let value = ap (λ (k : Columns). column_at k.holdings 4) c.columns.view_is in
    let n = count_in c.args.columns.now.holdings in
    let each = subst (λ (k : Columns). Each (λ (column : List ℕ). 8 * n ≤ length column) k.holdings) (sym c.columns.view_is) h.sized.each in
    rw (price, value) (values_lent _ _ _ h (rw value at each.1.1.1.1.0))

pub returns-then-priced_total-sums : goal.returns-then-priced_total-sums
returns-then-priced_total-sums c =
    let h = held _ _ _ c.column_lengths.ensures.counted c.column_lengths.ensures.number c.in_ok-column_lengths.was c.account_of.ensures.number c.account_of.ensures.account c.in_ok-account.was
    c.requires.left_held c.open.ensures c.in_ok-open.was in
    let price = ap (λ (k : Columns). k.price) c.columns.view_is in
    let value = ap (λ (k : Columns). column_at k.holdings 4) c.columns.view_is in
    totals_refused _ _ _ h (rw c.holdings-n.ensures at c.take_lines.ensures) c.in_ok-take_lines.was (rw (c.holdings-n.ensures, price) at c.first_uncovered.ensures)
    c.in_ok-first_uncovered.was (rw (price, value) at c.priced_total.ensures) _ _ c.if-priced_total-sums.true c.fault_at.ensures

pub margins_of-requires : goal.margins_of-requires
margins_of-requires c =
    let h = held _ _ _ c.column_lengths.ensures.counted c.column_lengths.ensures.number c.in_ok-column_lengths.was c.account_of.ensures.number c.account_of.ensures.account c.in_ok-account.was
    c.requires.left_held c.open.ensures c.in_ok-open.was in
    rw c.holdings-n.ensures
    (margins_lent _ _ _ h (rw c.holdings-n.ensures at c.take_lines.ensures) c.in_ok-take_lines.was (c.requires.margins_held h.sized.few))

pub overflow_add-units : goal.overflow_add-units
overflow_add-units c =
    let z = lengths_fit _ c.args.head _ c.column_lengths.ensures.counted c.column_lengths.ensures.number c.in_ok-column_lengths.was in
    record { fits = omega (arith, c.take_lines.ensures.units-high, c.margins_of.ensures.sum_high, c.holdings-n.ensures, z.few) }

pub rank-requires : goal.rank-requires
rank-requires c =
    let h = held _ _ _ c.column_lengths.ensures.counted c.column_lengths.ensures.number c.in_ok-column_lengths.was c.account_of.ensures.number c.account_of.ensures.account c.in_ok-account.was
    c.requires.left_held c.open.ensures c.in_ok-open.was in
    let price = ap (λ (k : Columns). k.price) c.columns.view_is in
    let value = ap (λ (k : Columns). column_at k.holdings 4) c.columns.view_is in
    rw c.holdings-n.ensures (
      margins_held _ _ _ h (rw c.holdings-n.ensures at c.take_lines.ensures) c.in_ok-take_lines.was (rw (c.holdings-n.ensures, price) at c.first_uncovered.ensures)
          c.in_ok-first_uncovered.was (rw (price, value) at c.priced_total.ensures) (rw c.holdings-n.ensures at c.margins_of.ensures) (c.requires.margins_held h.sized.few),
      c.requires.ranks_held h.sized.few,
    )

pub returns : goal.returns
returns c =
    let h = held _ _ _ c.column_lengths.ensures.counted c.column_lengths.ensures.number c.in_ok-column_lengths.was c.account_of.ensures.number c.account_of.ensures.account c.in_ok-account.was
    c.requires.left_held c.open.ensures c.in_ok-open.was in
    let price = ap (λ (k : Columns). k.price) c.columns.view_is in
    let value = ap (λ (k : Columns). column_at k.holdings 4) c.columns.view_is in
    all_found _ _ _ h (rw c.holdings-n.ensures at c.take_lines.ensures) c.in_ok-take_lines.was (rw (c.holdings-n.ensures, price) at c.first_uncovered.ensures)
    c.in_ok-first_uncovered.was (rw (price, value) at c.priced_total.ensures) (rw c.holdings-n.ensures at c.margins_of.ensures) _
    (rw c.holdings-n.ensures at c.rank.ensures) c.if-priced_total-sums.false refl
