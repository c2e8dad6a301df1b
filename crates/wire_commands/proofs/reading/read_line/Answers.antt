use Rattle.wire_commands.proofs.GrammarLaws.{same_request}
use Rattle.wire_commands.proofs.reading.read_line.Goals as goal

pub returns-in-Ok-clause-only : goal.returns-in-Ok-clause-only
returns-in-Ok-clause-only c =
    λ request reads. same_request c.args.line.now request c.in-Ok.request reads
    (record {
      line = c.without_return.result.now;
      dropped = c.without_return.ensures;
      is_request =
          c.in-Ok.ensures;
    })

pub returns-in-Err-clause-only : goal.returns-in-Err-clause-only
returns-in-Err-clause-only c =
    λ request reads. same_request c.args.line.now request _ reads
    (record {
      line = c.without_return.result.now;
      dropped = c.without_return.ensures;
      is_request =
          c.in-Err.ensures;
    })
