use Rattle.machine_buffers.proofs.InsertPermissions.{permission_while}
use Rattle.machine_buffers.proofs.laws.insert_permissions_last.Goals as goal

pub returns : goal.returns
returns c = permission_while
