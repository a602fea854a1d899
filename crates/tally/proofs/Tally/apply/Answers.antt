-- `apply` refuses at the first of 12 to 15 that holds, and else takes the line off the tally. Assumes nothing.
use Prim.Native.Nat.{ℕ, ◌≤◌}
use native.Mathlib.Nat.{le_trans}
use native.Mathlib.Omega.{arith}
use Rattle.lists.specs.Choice.{first_of}
use Rattle.lists.proofs.Tests.{tests}
use Rattle.holding.specs.Holding.{value_limit}
use Rattle.article.specs.Pair.{is_long, is_short}
use Rattle.article.specs.declared.pair.Leg.{Leg}
use Rattle.article.proofs.Answered.{Answered, answered-refused, answered-allowed}
use Rattle.proposal.specs.Outcome.{pair_faults}
use Rattle.tally.specs.Lines.{refusals, taken, applied_of}
use Rattle.tally.proofs.OneLine.{High, high}
use Rattle.tally.proofs.Tally.apply.Goals as goal

pub returns-in_default : goal.returns-in_default
unfolding applied_of refusals pair_faults first_of is_long is_short
returns-in_default c = search (tests, answered-refused c.pair_legs.ensures c.in_default.is)

pub returns-then-amount-eq0 : goal.returns-then-amount-eq0
unfolding applied_of refusals pair_faults first_of is_long is_short
returns-then-amount-eq0 c = search (tests, (answered-allowed c.pair_legs.ensures c.in-Some.is).may)

pub returns-then-self-amount : goal.returns-then-self-amount
unfolding applied_of refusals pair_faults first_of is_long is_short
returns-then-self-amount c = search (tests, (answered-allowed c.pair_legs.ensures c.in-Some.is).may)

pub returns-then-self-amount-2 : goal.returns-then-self-amount-2
unfolding applied_of refusals pair_faults first_of is_long is_short
returns-then-self-amount-2 c = search (tests, (answered-allowed c.pair_legs.ensures c.in-Some.is).may)

-- an amount that a leg has, at the rates of its pair, is within the limits
adds : {long short : Leg} {rate saving amount value : ℕ} → Answered long short rate saving → amount ≤ value → value ≤ value_limit → High amount rate saving
adds found some most = high (le_trans some most) found.rate-high found.saving-high

pub overflow_mul-result : goal.overflow_mul-result
overflow_mul-result c = record { fits = omega (arith, adds (answered-allowed c.pair_legs.ensures c.in-Some.is) c.if-self-amount.false c.requires.left) }

pub overflow_add-result : goal.overflow_add-result
overflow_add-result c = record { fits = omega (arith, adds (answered-allowed c.pair_legs.ensures c.in-Some.is) c.if-self-amount.false c.requires.left) }

pub overflow_mul-result-2 : goal.overflow_mul-result-2
overflow_mul-result-2 c = record { fits = omega (arith, adds (answered-allowed c.pair_legs.ensures c.in-Some.is) c.if-self-amount.false c.requires.left) }

pub overflow_add-result-2 : goal.overflow_add-result-2
overflow_add-result-2 c = record { fits = omega (arith, adds (answered-allowed c.pair_legs.ensures c.in-Some.is) c.if-self-amount.false c.requires.left) }

pub returns : goal.returns
unfolding applied_of refusals pair_faults first_of is_long is_short taken
returns c =
    let found = answered-allowed c.pair_legs.ensures c.in-Some.is in
    rw (← found.pair_rate_lem, ← found.saving_rate_lem) (search (tests, found.may))
