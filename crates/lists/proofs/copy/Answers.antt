-- `copy` has written one byte more after each turn, and all of them at the end. Assumes nothing.
use Rattle.std.proofs.Common.{List, ℕ, ◌≡◌, length, refl, ap, ◌∙◌, arith, rules}
use Rattle.lists.specs.Tables.{list_to, front}
use Rattle.lists.proofs.Tables.{to_back}
use Rattle.lists.proofs.Overwrite.{front-more}
use Rattle.lists.proofs.copy.Goals as goal

pub loop-i-init : goal.loop-i-init
unfolding front list_to
loop-i-init c = (refl, refl)

pub loop-i-preserved : goal.loop-i-preserved
loop-i-preserved c = (search rules, front-more _ _ _ _ _ (omega (arith, c.requires, c.loop-i.auto.i-end)) refl c.loop-i.invariant.1)

pub returns : goal.returns
returns c =
    let from = c.args.from.now in
    let all : c.loop-i.i ≡ length from = omega arith in
    c.loop-i.invariant.1 ∙ ap (λ (xs : List ℕ). front xs c.args.to.now) (rw all (to_back (length from) from 0 refl))
