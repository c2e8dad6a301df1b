use Rattle.machine_keeper.proofs.Headers.{may_fill_header}
use Rattle.machine_keeper.proofs.staying.may_fill_header_stays.Goals as goal

pub returns : goal.returns
returns c = may_fill_header
