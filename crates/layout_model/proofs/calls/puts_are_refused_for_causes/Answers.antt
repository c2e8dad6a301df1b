use Rattle.layout_model.proofs.RefusalCauses.{puts_are_frozen, puts_are_full, puts_are_worn, refused_puts_change_only_probes}
use Rattle.layout_model.proofs.calls.puts_are_refused_for_causes.Goals as goal

pub returns-clause-full : goal.returns-clause-full
returns-clause-full c = puts_are_full

pub returns-clause-worn : goal.returns-clause-worn
returns-clause-worn c = puts_are_worn

pub returns-clause-frozen : goal.returns-clause-frozen
returns-clause-frozen c = puts_are_frozen

pub returns-clause-unchanged : goal.returns-clause-unchanged
returns-clause-unchanged c = refused_puts_change_only_probes
