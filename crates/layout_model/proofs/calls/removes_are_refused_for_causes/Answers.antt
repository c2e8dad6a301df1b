use Rattle.layout_model.proofs.RefusalCauses.{refused_removes_change_only_probes, removes_are_done_or_worn, removes_are_worn}
use Rattle.layout_model.proofs.calls.removes_are_refused_for_causes.Goals as goal

pub returns-clause-worn : goal.returns-clause-worn
returns-clause-worn c = removes_are_worn

pub returns-clause-only : goal.returns-clause-only
returns-clause-only c = removes_are_done_or_worn

pub returns-clause-unchanged : goal.returns-clause-unchanged
returns-clause-unchanged c = refused_removes_change_only_probes
