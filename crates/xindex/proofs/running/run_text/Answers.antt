-- What is to be written for the text was told.
use Rattle.std.proofs.Common.{ℕ, List, refl, subst}
use Rattle.xindex.specs.Ran.{bad_line}
use Rattle.xindex.specs.Telling.{Tells}
use Rattle.xindex.specs.declared.status.Status.TheVariants.{Done, BadTrace}
use Rattle.xindex.proofs.Endings.{output_told}
use Rattle.xindex.proofs.running.run_text.Goals as goal

pub returns-in-Ok-clause-tells : goal.returns-in-Ok-clause-tells
returns-in-Ok-clause-tells g c =
    output_told c.args.limits c.args.text.items Done c.in-Ok.transcript.items (g.K.Ends.state c.args.sink.now)
    (g.K.Ends.state c.tell.new.sink) c.tell.result c.in-Ok.ensures
    (subst
    (λ (t : List ℕ). Tells t Done (g.K.Ends.state c.args.sink.now) (g.K.Ends.state c.tell.new.sink) c.tell.result)
    c.deref.ensures.value c.tell.ensures.tells)
    c.tell.ensures.no_memory

pub returns-in-Err-BadLine-clause-tells : goal.returns-in-Err-BadLine-clause-tells
returns-in-Err-BadLine-clause-tells g c =
    let bad = rw c.in-Err-BadLine.field-0-is at c.in-Err-BadLine.ensures in
    output_told c.args.limits c.args.text.items BadTrace (bad_line c.in-Err-BadLine.number)
    (g.K.Ends.state c.args.sink.now) (g.K.Ends.state c.tell_number.new.sink) c.tell_number.result
    (c.in-Err-BadLine.number, bad, refl)
    (subst
    (λ (n : ℕ). Tells (bad_line n) BadTrace (g.K.Ends.state c.args.sink.now)
    (g.K.Ends.state c.tell_number.new.sink) c.tell_number.result)
    c.in-Err-BadLine.number-is c.tell_number.ensures.tells)
    c.tell_number.ensures.no_memory
