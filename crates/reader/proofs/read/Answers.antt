-- `read` reads the records in turn. Assumes nothing.
use Rattle.std.proofs.Common.{sym, ap, ◌∙◌}
use borrow.Author.Tests.{eqb-true, eqb-false}
use Rattle.layout.specs.Layout.{place_by}
use Rattle.reader.proofs.Reading.{reading-none}
use Rattle.reader.proofs.Kept.{refused_here, late, further, kept-head, full_holdings, room_lei, room_holding, kept-holding, full_lines, room_line, kept-line}
use Rattle.reader.proofs.FileRead.{contents-refused, contents-read, too_long_lem, no_record}
use Rattle.reader.proofs.read.Goals.{in-Valuation, in-Holding+else-read-eq256, in-Line+else-read-eq512}
use Rattle.reader.proofs.read.Goals as goal

pub returns-then-text-gt-LIMIT : goal.returns-then-text-gt-LIMIT
returns-then-text-gt-LIMIT c = contents-refused _ _ _ (too_long_lem _ c.if-text-gt-LIMIT.true) c.fault_at.ensures

pub returns-then-is_empty : goal.returns-then-is_empty
returns-then-is_empty c =
    contents-refused _ _ _ (no_record _ c.if-text-gt-LIMIT.false (eqb-true _ _ (sym c.is_empty.ensures ∙ c.if-is_empty.true))) c.fault_at-then-is_empty.ensures

pub loop-at-init : goal.loop-at-init
loop-at-init c = reading-none _ _ _ _ _

pub returns-in-Err : goal.returns-in-Err
returns-in-Err c =
    contents-refused _ _ _ (refused_here c.loop-at.invariant c.if-text-gt-LIMIT.false c.loop-at-test.true c.entry_at-entry.new.record c.entry_at-entry.ensures c.in-Err.is) c.fault_at-in-Err.ensures

pub returns-then-not-may_follow : goal.returns-then-not-may_follow
returns-then-not-may_follow c =
    contents-refused _ _ _
    (late c.loop-at.invariant c.if-text-gt-LIMIT.false c.loop-at-test.true c.entry_at-entry.new.record c.entry_at-entry.ensures c.in-Ok.is (sym c.may_follow.ensures ∙ c.if-not-may_follow.true))
    c.fault_at-then-not-may_follow.ensures

pub returns-then-read-eq256 : goal.returns-then-read-eq256
returns-then-read-eq256 c =
    contents-refused _ _ _
    (full_holdings c.loop-at.invariant c.if-text-gt-LIMIT.false c.loop-at-test.true c.entry_at-entry.new.record c.entry_at-entry.ensures c.in-Ok.is
    (sym c.may_follow.ensures ∙ c.if-not-may_follow.false)
    (ap place_by c.in-Holding.is) c.if-read-eq256.true)
    c.fault_at-then-read-eq256.ensures

pub number_issuer-requires : goal.number_issuer-requires
number_issuer-requires c =
    room_lei c.loop-at.invariant c.if-text-gt-LIMIT.false c.loop-at-test.true c.entry_at-entry.new.record c.entry_at-entry.ensures c.in-Ok.is (sym c.may_follow.ensures ∙ c.if-not-may_follow.false)
    (ap place_by c.in-Holding.is) c.if-read-eq256.false c.requires

pub put_entry-requires : goal.put_entry-requires
put_entry-requires c =
    room_holding c.loop-at.invariant c.if-text-gt-LIMIT.false c.loop-at-test.true c.entry_at-entry.new.record c.entry_at-entry.ensures c.in-Ok.is (sym c.may_follow.ensures ∙ c.if-not-may_follow.false)
    (ap place_by c.in-Holding.is) c.if-read-eq256.false c.requires _ _ c.number_issuer.new.record c.number_issuer.ensures.numbers

pub returns-then-read-eq512 : goal.returns-then-read-eq512
returns-then-read-eq512 c =
    contents-refused _ _ _
    (full_lines c.loop-at.invariant c.if-text-gt-LIMIT.false c.loop-at-test.true c.entry_at-entry.new.record c.entry_at-entry.ensures c.in-Ok.is (sym c.may_follow.ensures ∙ c.if-not-may_follow.false)
    (ap place_by c.in-Line.is) c.if-read-eq512.true)
    c.fault_at-then-read-eq512.ensures

pub put_entry-requires-in-Line : goal.put_entry-requires-in-Line
put_entry-requires-in-Line c =
    room_line c.loop-at.invariant c.if-text-gt-LIMIT.false c.loop-at-test.true c.entry_at-entry.new.record c.entry_at-entry.ensures c.in-Ok.is (sym c.may_follow.ensures ∙ c.if-not-may_follow.false)
    (ap place_by c.in-Line.is) c.if-read-eq512.false c.requires

pub loop-at-smaller : goal.loop-at-smaller
loop-at-smaller c = further c.loop-at.invariant c.if-text-gt-LIMIT.false c.loop-at-test.true c.entry_at-entry.new.record c.entry_at-entry.ensures c.in-Ok.is

pub loop-at-preserved : goal.loop-at-preserved
loop-at-preserved c =
    let r = c.loop-at.invariant in
    let short = c.if-text-gt-LIMIT.false in
    let follows = sym c.may_follow.ensures ∙ c.if-not-may_follow.false in
    elim c.match-letter.branch [
      | in-Valuation w ↦
          rw (w.book-is, w.lines-is, w.known-is, w.read-is)
          (kept-head r short c.loop-at-test.true c.entry_at-entry.new.record c.entry_at-entry.ensures c.in-Ok.is follows (ap place_by w.in-Valuation.is))
      | in-Holding+else-read-eq256 w ↦
          let done = w.number_issuer.ensures in
          rw (w.book-is, w.lines-is, w.known-is, w.read-is)
          (kept-holding r short c.loop-at-test.true c.entry_at-entry.new.record c.entry_at-entry.ensures c.in-Ok.is follows (ap place_by w.in-Holding.is) w.if-read-eq256.false c.requires
          _ _ w.number_issuer.new.record done.numbers done.inside w.number_issuer.auto.known w.put_entry.ensures)
      | in-Line+else-read-eq512 w ↦
          rw (w.book-is, w.lines-is, w.known-is, w.read-is)
          (kept-line r short c.loop-at-test.true c.entry_at-entry.new.record c.entry_at-entry.ensures c.in-Ok.is follows (ap place_by w.in-Line.is) w.if-read-eq512.false c.requires
          w.put_entry-in-Line.ensures)
    ]

pub returns : goal.returns
returns c = contents-read c.loop-at.invariant c.loop-at-test.false c.if-text-gt-LIMIT.false (eqb-false _ _ (sym c.is_empty.ensures ∙ c.if-is_empty.false))
