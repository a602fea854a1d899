-- `take_lines` finds the first fault of the lines in turn, and takes the lines before it off what is left. The invariant is `Walk`.
-- Assumes nothing.
use Rattle.std.proofs.Common.{List, ℕ, ◌+◌, ◌*◌, ◌≡◌, ◌≤◌, ◌<◌, length, sym, ap, arith}
use Rattle.lists.proofs.Entries.{each_so}
use Rattle.columns.specs.Columns.{count_in, lines_in}
use Rattle.article.specs.declared.pair.Leg.{Leg}
use Rattle.pairing.specs.declared.Line.{Line}
use Rattle.tally.specs.Lines.{LinesLent}
use Rattle.packed.specs.Packed.{leg_at}
use Rattle.tally.proofs.Walk.{Walk, starts, ends, Turn, no_long, no_short, Read, ready, refuses, goes}
use Rattle.tally.proofs.take_lines.Invariants.{line_in}
use Rattle.tally.proofs.take_lines.Goals as goal

-- a turn of the loop at line i, of what is lent to it
turn : {n : ℕ} {legs before left : List ℕ} {columns : List (List ℕ)} {units saving m i : ℕ} → m ≡ count_in columns → LinesLent n legs before columns
    → Walk n legs before (line_in columns) m left units saving i → i < m → Turn n legs before (line_in columns) m left units saving i
turn e lent w h = record { room = lent.held; bounded = lent.bounded; walk = w; more = h; few = omega (arith, e, lent.few) }

-- the line that is read, its numbers in the book, with its legs
read : {n : ℕ} {legs : List ℕ} (columns : List (List ℕ)) (i : ℕ) {line : Line} {l s : Leg} → line ≡ line_in columns i → line.long < n → line.short < n
    → l ≡ leg_at legs line.long → s ≡ leg_at legs line.short → Read n legs (line_in columns i) line l s
read columns i e a b p q = record { is = sym e; first = a; second = b; long_leg = p; short_leg = q }

pub loop-i-init : goal.loop-i-init
loop-i-init c = starts c.requires.high

-- the line stands in each column
pub line-line-requires : goal.line-line-requires
line-line-requires c =
    let m = c.lines-m.ensures in
    each_so (λ (xs : List ℕ). 8 * count_in c.args.columns.now.lines ≤ length xs) (λ xs. 8 * c.loop-i.i + 8 ≤ length xs) (λ xs q. omega arith)
    c.args.columns.now.lines c.requires.each

pub returns-then-first-n : goal.returns-then-first-n
unfolding lines_in
returns-then-first-n c =
    let m = c.lines-m.ensures in
    rw (← m) (no_long (turn m c.requires c.loop-i.invariant c.loop-i-test.true) (omega (arith, ap (λ (l : Line). l.long) c.line-line.ensures, c.if-first-n.true)) c.fault_at.ensures)

pub returns-then-second-n : goal.returns-then-second-n
unfolding lines_in
returns-then-second-n c =
    let m = c.lines-m.ensures in
    rw (← m)
    (no_short (turn m c.requires c.loop-i.invariant c.loop-i-test.true) (omega (arith, ap (λ (l : Line). l.long) c.line-line.ensures, c.if-first-n.false))
    (omega (arith, ap (λ (l : Line). l.short) c.line-line.ensures, c.if-second-n.true))
    c.fault_at-then-second-n.ensures)

pub apply-requires : goal.apply-requires
apply-requires c =
    ready (turn c.lines-m.ensures c.requires c.loop-i.invariant c.loop-i-test.true)
    (read _ _ c.line-line.ensures c.if-first-n.false c.if-second-n.false c.leg_in-long.ensures c.leg_in-short.ensures)

pub returns-in-Err : goal.returns-in-Err
unfolding lines_in
returns-in-Err c =
    let m = c.lines-m.ensures in
    rw (← m)
    (refuses (turn m c.requires c.loop-i.invariant c.loop-i-test.true)
    (read _ _ c.line-line.ensures c.if-first-n.false c.if-second-n.false c.leg_in-long.ensures c.leg_in-short.ensures)
    c.apply.ensures c.in-Err.is c.fault_at-in-Err.ensures)

pub loop-i-preserved : goal.loop-i-preserved
loop-i-preserved c =
    goes (turn c.lines-m.ensures c.requires c.loop-i.invariant c.loop-i-test.true)
    (read _ _ c.line-line.ensures c.if-first-n.false c.if-second-n.false c.leg_in-long.ensures c.leg_in-short.ensures)
    c.apply.ensures c.in-Ok.is

pub returns : goal.returns
unfolding lines_in
returns c =
    let m = c.lines-m.ensures in
    rw (← m) (ends c.requires.held c.loop-i.invariant c.loop-i-test.false (omega (arith, c.requires.few)))
