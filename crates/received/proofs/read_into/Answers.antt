-- `read_into` reads a text into what is lent, or refuses a record or the lengths. Assumes nothing.
use Rattle.std.proofs.Common.{ℕ, List, arith, refl, sym, ap, subst, ◌∙◌}
use Rattle.holding.specs.Holding.{head_numbers}
use Rattle.columns.specs.Columns.{holding_sizes, line_sizes, CopyRoom, copied}
use Rattle.columns.specs.Filling.{book_in, lines_of}
use Rattle.received.proofs.Received.{record_refused, measured, list_refused, head_room, book_room, lines_room, all_read}
use Rattle.received.proofs.read_into.Goals as goal

pub returns-in-Err-clause-read : goal.returns-in-Err-clause-read
returns-in-Err-clause-read c =
    let held = book_in c.args.columns.now in
    let taken = lines_of c.args.columns.now in
    record_refused c.args.text.now c.args.head.now held taken c.args.answer.now c.read.ensures _ _ c.in-Err.is c.put_fault-in-Err.ensures

pub returns-then-filled_too_short-clause-read : goal.returns-then-filled_too_short-clause-read
unfolding head_numbers holding_sizes line_sizes
returns-then-filled_too_short-clause-read c =
    let held = book_in c.args.columns.now in
    let taken = lines_of c.args.columns.now in
    let same = measured c.args.text.now c.args.head.now held taken c.args.answer.now c.read.ensures c.in-Ok.is c.filled_too_short.ensures in
    list_refused c.args.text.now c.args.head.now held taken c.args.answer.now c.read.ensures c.in-Ok.is same _ _ c.if-filled_too_short.true
    (rw c.fault_at.ensures at c.put_fault.ensures)

pub put_word-requires : goal.put_word-requires
unfolding head_numbers holding_sizes line_sizes
put_word-requires c =
    let held = book_in c.args.columns.now in
    let taken = lines_of c.args.columns.now in
    let same = measured c.args.text.now c.args.head.now held taken c.args.answer.now c.read.ensures c.in-Ok.is c.filled_too_short.ensures in
    let two_held = head_room c.args.text.now c.args.head.now held taken c.args.answer.now c.read.ensures c.in-Ok.is same c.if-filled_too_short.false in
    omega (arith, two_held)

pub put_word-requires-in-Ok : goal.put_word-requires-in-Ok
unfolding head_numbers holding_sizes line_sizes
put_word-requires-in-Ok c =
    let held = book_in c.args.columns.now in
    let taken = lines_of c.args.columns.now in
    let same = measured c.args.text.now c.args.head.now held taken c.args.answer.now c.read.ensures c.in-Ok.is c.filled_too_short.ensures in
    let two_held = head_room c.args.text.now c.args.head.now held taken c.args.answer.now c.read.ensures c.in-Ok.is same c.if-filled_too_short.false in
    omega (arith, two_held, c.put_word.auto.bytes)

pub copy_book-requires : goal.copy_book-requires
unfolding head_numbers holding_sizes line_sizes
copy_book-requires c =
    let held = book_in c.args.columns.now in
    let taken = lines_of c.args.columns.now in
    let same = measured c.args.text.now c.args.head.now held taken c.args.answer.now c.read.ensures c.in-Ok.is c.filled_too_short.ensures in
    book_room c.args.text.now c.args.head.now held taken c.args.answer.now c.read.ensures c.in-Ok.is same c.if-filled_too_short.false c.requires refl

pub copy_lines-requires : goal.copy_lines-requires
unfolding head_numbers holding_sizes line_sizes
copy_lines-requires c =
    let held = book_in c.args.columns.now in
    let taken = lines_of c.args.columns.now in
    let same = measured c.args.text.now c.args.head.now held taken c.args.answer.now c.read.ensures c.in-Ok.is c.filled_too_short.ensures in
    subst (λ (lists : List (List ℕ)). CopyRoom c.args.rows c.in-Ok.contents.lines c.read.new.lines lists) (sym c.copy_book.ensures.lines)
    (lines_room c.args.text.now c.args.head.now held taken c.args.answer.now c.read.ensures c.in-Ok.is same c.if-filled_too_short.false c.requires refl)

pub returns-else-filled_too_short-clause-read : goal.returns-else-filled_too_short-clause-read
unfolding head_numbers holding_sizes line_sizes
returns-else-filled_too_short-clause-read c =
    let held = book_in c.args.columns.now in
    let taken = lines_of c.args.columns.now in
    let same = measured c.args.text.now c.args.head.now held taken c.args.answer.now c.read.ensures c.in-Ok.is c.filled_too_short.ensures in
    all_read c.args.text.now c.args.head.now held taken c.args.answer.now c.read.ensures c.in-Ok.is
    {table' = book_in c.copy_lines.new.self}
    {lined' = lines_of c.copy_lines.new.self}
    _ _ same c.if-filled_too_short.false refl refl c.put_word.ensures c.put_word-in-Ok.ensures
    (c.copy_lines.ensures.book ∙ c.copy_book.ensures.copied)
    (c.copy_lines.ensures.copied ∙ ap (copied c.args.rows c.in-Ok.contents.lines c.read.new.lines 0) c.copy_book.ensures.lines)
    c.put_answer.ensures
