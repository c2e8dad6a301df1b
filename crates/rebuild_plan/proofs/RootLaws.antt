-- What follows from the definitions of a root's step and slots alone.
use Rattle.std.proofs.Common.{ℕ, ◌/◌, ◌*◌, ◌<◌, ◌≤◌, arith}
use Rattle.std.proofs.Math.Nat.{mul-le-mul_right}
use Rattle.std.proofs.lemmas.Nat.{div_below}
use Rattle.rebuild_plan.specs.Plan.{step_of, slot_count, ReachesGroups}
use Rattle.rebuild_plan.proofs.Rounding.{div_ceil-enough, div_ceil-least, below_div_ceil, div_ceil-pos}
use Rattle.rebuild_plan.proofs.Parts.{quotient_part}

-- the slots suffice
pub slot_count-le_slots : (groups slots : ℕ) → 1 ≤ groups → 1 ≤ slots →
    slot_count groups (step_of groups slots) ≤ slots
slot_count-le_slots groups slots some_group some_slot =
    let enough = div_ceil-enough groups slots some_slot in
    div_ceil-least groups (step_of groups slots) slots (div_ceil-pos groups slots some_group some_slot)
    (omega (arith, enough))

-- a step at which the slots suffice is no shorter
pub step_of-le : (groups slots step : ℕ) → 1 ≤ slots → 1 ≤ step → slot_count groups step ≤ slots →
    step_of groups slots ≤ step
step_of-le groups slots step some_slot some fits =
    let enough = div_ceil-enough groups step some in
    let larger : slot_count groups step * step ≤ slots * step = mul-le-mul_right step fits in
    div_ceil-least groups slots step some_slot (omega (arith, enough))

-- the slots of a root reach all groups
pub slots_reach : (groups step : ℕ) → 0 < step → ReachesGroups groups step
slots_reach groups step some = record {
  names = λ slot among. below_div_ceil groups step slot some among;
  reaches = λ group among.
      let enough : groups ≤ slot_count groups step * step = div_ceil-enough groups step some in
      let part = quotient_part group step some in
      (group / step, div_below group step (slot_count groups step) some (omega arith), part.0, part.1);
}
