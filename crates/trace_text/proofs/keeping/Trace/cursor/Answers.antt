use Rattle.std.proofs.Common.{arith, ap, length}
use Rattle.trace_text.proofs.KeptLaws.{no_more}
use Rattle.trace_text.proofs.keeping.Trace.cursor.Goals as goal

pub returns-clause-few : goal.returns-clause-few
returns-clause-few c =
    let few = no_more c.self.inside.kinds.items c.self.inside.words.items in
    let long = c.deref.type_inv.1 in
    let same = ap length c.deref.ensures.value in
    rw (← c.self.view_is) (omega arith)
