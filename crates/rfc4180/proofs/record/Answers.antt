-- `record` keeps the fields that it has, and comes further with each. Assumes nothing.
use Rattle.std.proofs.Common.{◌≡◌, length, set, sym, ap, ◌∙◌, arith}
use Rattle.std.proofs.Math.Seq.{set_out}
use Rattle.rfc4180.proofs.Filling.{filling-none, filling-broken, filling-last, filling_less, filling-more}
use Rattle.rfc4180.proofs.record.Goals.{then-count-lt-FIELDS, else-count-lt-FIELDS}
use Rattle.rfc4180.proofs.record.Goals as goal

pub loop-piece-init : goal.loop-piece-init
loop-piece-init c = filling-none _ _ _

pub returns-in_err-piece : goal.returns-in_err-piece
returns-in_err-piece c = rw c.from_residual.ensures (filling-broken c.loop-piece.invariant c.field_at.ensures c.in_err-piece.was)

pub returns-then-piece : goal.returns-then-piece
returns-then-piece c =
    let put : c.if-count-lt-FIELDS.spans ≡ set c.loop-piece.spans c.loop-piece.count c.in_ok-piece.piece.span =
    elim c.if-count-lt-FIELDS.branch [
      | then-count-lt-FIELDS w ↦ w.spans-is
      | else-count-lt-FIELDS w ↦ w.spans-is ∙ sym (set_out _ _ _ (omega (arith, ap length w.spans-is, c.if-count-lt-FIELDS.array_long)))
    ] in
    filling-last c.loop-piece.invariant c.field_at.ensures c.in_ok-piece.was put c.told-spans c.if-piece.true

pub loop-piece-smaller : goal.loop-piece-smaller
loop-piece-smaller c = filling_less c.loop-piece.invariant c.field_at.ensures c.in_ok-piece.was c.if-piece.false

pub loop-piece-preserved : goal.loop-piece-preserved
loop-piece-preserved c =
    let put : c.if-count-lt-FIELDS.spans ≡ set c.loop-piece.spans c.loop-piece.count c.in_ok-piece.piece.span =
    elim c.if-count-lt-FIELDS.branch [
      | then-count-lt-FIELDS w ↦ w.spans-is
      | else-count-lt-FIELDS w ↦ w.spans-is ∙ sym (set_out _ _ _ (omega (arith, ap length w.spans-is, c.if-count-lt-FIELDS.array_long)))
    ] in
    filling-more c.loop-piece.invariant c.field_at.ensures c.in_ok-piece.was put c.if-piece.false
