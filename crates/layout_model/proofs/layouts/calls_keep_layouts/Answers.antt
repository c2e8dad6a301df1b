use Rattle.layout_model.proofs.SoundCalls.{frees_keep, gets_keep, holds_keep, puts_keep, removes_keep, scans_keep}
use Rattle.layout_model.proofs.layouts.calls_keep_layouts.Goals as goal

pub returns-clause-gets : goal.returns-clause-gets
returns-clause-gets c = gets_keep

pub returns-clause-puts : goal.returns-clause-puts
returns-clause-puts c = puts_keep

pub returns-clause-removes : goal.returns-clause-removes
returns-clause-removes c = removes_keep

pub returns-clause-scans : goal.returns-clause-scans
returns-clause-scans c = scans_keep

pub returns-clause-holds : goal.returns-clause-holds
returns-clause-holds c = holds_keep

pub returns-clause-frees : goal.returns-clause-frees
returns-clause-frees c = frees_keep
