use Rattle.rebuild_plan.proofs.Rounding.{div_ceil-pos}
use Rattle.rebuild_plan.proofs.RootLaws.{slot_count-le_slots, step_of-le, slots_reach}
use Rattle.rebuild_plan.proofs.sizes.root_step.Goals as goal

pub returns-clause-fits : goal.returns-clause-fits
returns-clause-fits c =
    rw c.div_ceil.ensures
    (slot_count-le_slots c.args.groups c.args.slots c.requires.some_group c.requires.some_slot)

pub returns-clause-shortest : goal.returns-clause-shortest
returns-clause-shortest c = λ step some fits.
    rw c.div_ceil.ensures (step_of-le c.args.groups c.args.slots step c.requires.some_slot some fits)

pub returns-clause-reach : goal.returns-clause-reach
returns-clause-reach c =
    rw c.div_ceil.ensures (slots_reach c.args.groups _
    (div_ceil-pos c.args.groups c.args.slots c.requires.some_group c.requires.some_slot))
