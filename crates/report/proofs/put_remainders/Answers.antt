-- `put_remainders` writes R lines. Assumes nothing.
use Rattle.std.proofs.Common.{ℕ, ◌≡◌, min, arith, rules, get_or, length}
use mathlib.Core.List.{flat_map}
use Rattle.lists.specs.Tables.{list_to}
use Rattle.lists.proofs.Tables.{length_to}
use Rattle.std.proofs.lemmas.List.{take_min}
use Rattle.report.proofs.Written.{written_none, written-more}
use Rattle.report.proofs.Lines.{remainder-written}
use Rattle.report.proofs.put_remainders.Goals as goal

pub loop-i-init : goal.loop-i-init
unfolding flat_map
loop-i-init c = record { few = omega arith; written = written_none _ _ }

pub loop-i-preserved : goal.loop-i-preserved
loop-i-preserved c =
    let ranking : ℕ → ℕ = λ k. get_or c.args.lists.now.ranks.now k 0 in
    let size = length_to 256 ranking in
    record {
      few = omega (arith, c.put_line-next.ensures.1);
      written = written-more _ (list_to 256 ranking) c.loop-i.i (search rules) (search rules) c.loop-i.invariant.written
          (remainder-written c.args.lists.now.left.now c.args.lists.now.margins.now c.args.lists.now.ranks.now _ (search rules)
          c.entry-k.ensures c.entry-cents.ensures c.entry-units.ensures c.put_line-next.ensures.0);
    }

-- past the whole of a list of 256 more of it is the same
pub returns : goal.returns
returns c =
    let ranking : ℕ → ℕ = λ k. get_or c.args.lists.now.ranks.now k 0 in
    let all = list_to 256 ranking in
    let end : c.loop-i.i ≡ min c.args.count (length all) = omega (arith, length_to 256 ranking) in
    rw (← take_min c.args.count all, ← end) c.loop-i.invariant.written
