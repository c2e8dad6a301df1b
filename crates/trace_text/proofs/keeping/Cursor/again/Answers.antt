use Rattle.std.proofs.Common.{arith}
use Rattle.trace_text.proofs.KeptLaws.{no_more}
use Rattle.trace_text.proofs.keeping.Cursor.again.Goals as goal

pub returns-clause-few : goal.returns-clause-few
returns-clause-few c =
    let few = no_more c.self.inside.kinds.now c.self.inside.words.now in
    let long = c.self.ranges.0.0.1.1 in
    rw (← c.self.view_is) (omega arith)
