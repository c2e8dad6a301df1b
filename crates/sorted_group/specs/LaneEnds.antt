-- Where the keys of a lane end.
use Rattle.std.specs.Prelude.{◌≡◌, ◌⊎◌, ◌↔◌, ℕ, ◌+◌, ◌<◌, ◌≤◌}
use Rattle.index_machine.specs.declared.opening.Opening.{Opening}
use Rattle.index_machine.specs.Execution.{Execution}
use Rattle.index_machine.specs.Lanes.{HasLane, cut, lanes}
use Rattle.sorted_group.specs.declared.answers.Lane.{Lane}

-- of the keys up to the end of its group, the lane has those from its cut to the last one, which is the key before
-- the next lane's cut, or where there is no next lane the end of the group
pub record EndsLane (o : Opening) (lane : Lane) (end last : ℕ) (t : Execution) : Type 0 where
  pub at : ((lane.number + 1 ≡ lanes o lane.group t) × (last ≡ end))
      ⊎ ((lane.number + 1 < lanes o lane.group t)
      × (last + 1 ≡ cut o lane.group (lane.number + 1) t))
  pub has : (k : ℕ) → k ≤ end → HasLane o lane.group lane.number k t
      ↔ ((cut o lane.group lane.number t ≤ k) × (k ≤ last))
