-- `open` opens a book: each turn passes a holding without fault and writes its leg and its value. Assumes nothing.
use Rattle.std.proofs.Common.{ap, ◌∙◌, arith}
use Rattle.words.specs.Words.{word_at}
use Rattle.columns.specs.Columns.{Columns}
use Rattle.positions.proofs.Opening.{small-leg, opening-none, opening-more, opens_row, opens-price, opens-all}
use Rattle.positions.proofs.open.Goals as goal

pub loop-i-init : goal.loop-i-init
loop-i-init c = opening-none c.requires

pub returns-in-Err : goal.returns-in-Err
returns-in-Err c = opens_row c.loop-i.invariant (omega (arith, c.holdings-n.ensures)) c.row-row.ensures c.holding_of.ensures c.in-Err.is c.fault_at.ensures

pub returns-then-word-gt-HIGHEST : goal.returns-then-word-gt-HIGHEST
returns-then-word-gt-HIGHEST c =
    let price = c.word.ensures ∙ ap (λ (h : Columns). word_at h.price c.loop-i.i) c.columns.view_is in
    opens-price c.loop-i.invariant (omega (arith, c.holdings-n.ensures)) c.row-row.ensures c.holding_of.ensures c.in-Ok.is price (omega arith)
    c.fault_at-then-word-gt-HIGHEST.ensures

pub code_of-requires : goal.code_of-requires
code_of-requires c = small-leg c.requires.valued c.holding_of.ensures c.in-Ok.is c.leg_of.ensures.0

pub loop-i-preserved : goal.loop-i-preserved
loop-i-preserved c =
    let price = c.word.ensures ∙ ap (λ (h : Columns). word_at h.price c.loop-i.i) c.columns.view_is in
    opening-more c.loop-i.invariant (omega (arith, c.holdings-n.ensures)) c.row-row.ensures c.holding_of.ensures _ c.in-Ok.is price (omega arith)
    c.leg_of.ensures.0 c.code_of.ensures

pub returns : goal.returns
returns c = opens-all c.loop-i.invariant (omega (arith, c.holdings-n.ensures))
