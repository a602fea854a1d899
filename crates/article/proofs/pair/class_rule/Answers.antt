-- `class_rule` is `class_rule`: an arm's two issuer numbers decide the classes. Assumes nothing.
use mathlib.Core.Path.{sym, ◌∙◌}
use Rattle.lists.proofs.Tests.{arms}
use Rattle.article.proofs.Legs.{one-issuer}
use Rattle.lists.specs.Choice.{first_of}
use Rattle.article.specs.Pair.{class_rule, same_class, mixed_class, is_canada, is_province}
use Rattle.article.proofs.pair.class_rule.Goals as goal

pub returns-in-0-second : goal.returns-in-0-second
unfolding class_rule same_class mixed_class is_canada is_province first_of
returns-in-0-second c = rw (one-issuer c.args.long c.args.short (c.in-0.is ∙ sym c.in-0-second.is)) (search arms)

pub returns-in-1-to-10-second : goal.returns-in-1-to-10-second
unfolding class_rule same_class mixed_class is_canada is_province first_of
returns-in-1-to-10-second c = search arms

pub returns-in_default-second : goal.returns-in_default-second
unfolding class_rule same_class mixed_class is_canada is_province first_of
returns-in_default-second c = search arms

pub returns-in-0-second-2 : goal.returns-in-0-second-2
unfolding class_rule same_class mixed_class is_canada is_province first_of
returns-in-0-second-2 c = search arms

pub returns-in-1-to-10-second-2 : goal.returns-in-1-to-10-second-2
unfolding class_rule same_class mixed_class is_canada is_province first_of
returns-in-1-to-10-second-2 c = rw c.province_rule.ensures (search arms)

pub returns-in_default-second-2 : goal.returns-in_default-second-2
unfolding class_rule same_class mixed_class is_canada is_province first_of
returns-in_default-second-2 c = search arms

pub returns-in_default : goal.returns-in_default
unfolding class_rule same_class mixed_class is_canada is_province first_of
returns-in_default c = search arms
