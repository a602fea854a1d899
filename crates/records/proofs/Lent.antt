-- What a host lends, in numbers: its records, its totals, and what is said of the book. Assumes nothing.
use mathlib.Core.Path.{refl, sym, ◌∙◌}
use Prim.Native.Nat.{ℕ, ◌*◌}
use lib.Dec.{ltb}
use lib.ListN.{length}
use borrow.Author.Tests.{ltb-false, le-ltb}
use Rattle.lists.proofs.Tests.{neither}
use Rattle.holding.specs.declared.Head.{Head}
use Rattle.records.specs.Records.{Slices, records_in, too_short, short_in, day_in, lent_book, LentNumbers}
use Rattle.records.proofs.Rows.{length-rows, row_read, whole}
use Rattle.records.proofs.Rewriting.{row_of_lem}
use Rattle.records.proofs.Totals.{five-read}

pub lent-numbers : (count : ℕ) (h : Head) (s : Slices) → LentNumbers count h s
unfolding lent_book day_in records_in short_in too_short
lent-numbers count h s = record {
  records = length-rows s.list;
  each = λ k q. row_of_lem s.list k q ∙ sym (row_read s.list k (7 * k) (whole s.list k q) refl refl refl refl refl refl refl refl);
  totals = λ l. sym (five-read s.totals l refl refl refl refl refl);
  counted = refl;
  date = refl;
  letter = refl;
  long = (
    λ e. let (a, b) = neither (ltb (length s.totals) 40) (ltb (length s.answer) 16) e in (ltb-false _ _ a, ltb-false _ _ b),
    λ g. rw (le-ltb (length s.totals) 40 g.0, le-ltb (length s.answer) 16 g.1),
  );
}
