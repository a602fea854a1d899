-- `in_form` tests the length, the first 18 bytes and the last 2. Assumes nothing.
use Rattle.std.proofs.Common.{sym, ◌∙◌, take, drop, rules, tests}
use Rattle.std.proofs.lemmas.Iterator.{YieldsList-from_slice}
use Rattle.std.proofs.lemmas.Iterator.Search.{all_from_yields_List}
use Rattle.lists.proofs.Entries.{all_every}
use Rattle.lei.specs.Lei.{is_digit, is_character}
use Rattle.lei.proofs.Characters.{ascii_digit}
use Rattle.lei.proofs.Judging.{form-length, form-first, form-last}
use Rattle.lei.proofs.in_form.Goals as goal

pub returns-then-text-ne20 : goal.returns-then-text-ne20
returns-then-text-ne20 c = form-length _ c.if-text-ne20.true

pub returns-then-all : goal.returns-then-all
returns-then-all c =
    let t = c.args.text.now in
    let first = all_from_yields_List is_character _ _ _ c.all.ensures.ran (YieldsList-from_slice (take 18 t) cc) (λ x b q k. search (rules, tests)) ∙ all_every is_character (take 18 t) in
    let last = all_from_yields_List is_digit _ _ _ c.all-then-all.ensures.ran (YieldsList-from_slice (drop 18 t) cc) (λ x b q k. search (rules, tests, ascii_digit)) ∙ all_every is_digit (drop 18 t) in
    form-last t c.if-text-ne20.false (sym first ∙ c.if-all.true) _ last

pub returns-else-all : goal.returns-else-all
returns-else-all c =
    let t = c.args.text.now in
    let first = all_from_yields_List is_character _ _ _ c.all.ensures.ran (YieldsList-from_slice (take 18 t) cc) (λ x b q k. search (rules, tests)) ∙ all_every is_character (take 18 t) in
    c.if-all.false ∙ form-first t c.if-text-ne20.false (sym first ∙ c.if-all.false)
