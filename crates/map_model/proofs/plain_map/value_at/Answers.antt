use Rattle.std.proofs.Common.{sym}
use Rattle.map_model.proofs.Places.{look-at, look-in_gap}
use Rattle.map_model.proofs.plain_map.value_at.Goals as goal

pub returns-in-Ok : goal.returns-in-Ok
returns-in-Ok c = sym (look-at _ _ _ c.requires c.in-Ok.ensures.found)

pub returns-in-Err : goal.returns-in-Err
returns-in-Err c = sym (look-in_gap _ _ _ c.in-Err.ensures.absent)
