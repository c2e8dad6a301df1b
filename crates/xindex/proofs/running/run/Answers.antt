use Rattle.std.proofs.Common.{refl}
use Rattle.line_session.specs.declared.texts.TextError.TheVariants as cause
use Rattle.xindex.proofs.Endings.{output_no_read_fault, runs_whole, takes_part}
use Rattle.xindex.proofs.running.run.Goals as goal

-- a whole text was read
pub returns-in-Ok-clause-runs : goal.returns-in-Ok-clause-runs
returns-in-Ok-clause-runs g c =
    runs_whole c.args.limits c.args.most (g.S.Ends.state c.args.source.now) (g.K.Ends.state c.args.sink.now)
    (g.S.Ends.state c.read_text.new.source) (g.K.Ends.state c.run_text.new.sink) c.in-Ok.text.items c.run_text.result
    c.in-Ok.ensures.reads c.run_text.ensures.tells

pub returns-in-Ok-clause-read_faults : goal.returns-in-Ok-clause-read_faults
returns-in-Ok-clause-read_faults g c =
    record {
      rose = λ is. absurd (output_no_read_fault c.args.limits c.in-Ok.text.items
          (g.K.Ends.state c.args.sink.now) (g.K.Ends.state c.run_text.new.sink) c.run_text.result
          c.run_text.ensures.tells is);
      same = λ other. c.in-Ok.ensures.faults.same (λ failed. cc failed);
    }

-- none was read
pub returns-in-Err-ReadFault-clause-runs : goal.returns-in-Err-ReadFault-clause-runs
returns-in-Err-ReadFault-clause-runs g c = (
  takes_part c.args.limits c.args.most (g.S.Ends.state c.args.source.now) (g.K.Ends.state c.args.sink.now)
      (g.S.Ends.state c.read_text.new.source) (g.K.Ends.state c.args.sink.now) cause.ReadFault
      (rw c.in-Err-ReadFault.field-0-is at c.in-Err-ReadFault.ensures.reads),
  refl,
)

pub returns-in-Err-Limit-clause-runs : goal.returns-in-Err-Limit-clause-runs
returns-in-Err-Limit-clause-runs g c = (
  takes_part c.args.limits c.args.most (g.S.Ends.state c.args.source.now) (g.K.Ends.state c.args.sink.now)
      (g.S.Ends.state c.read_text.new.source) (g.K.Ends.state c.args.sink.now) cause.Limit
      (rw c.in-Err-Limit.field-0-is at c.in-Err-Limit.ensures.reads),
  refl,
)
