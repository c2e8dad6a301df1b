-- What is served is refused nothing where there is enough.
use Rattle.xindex_core.specs.Passes.{limits_of_index}
use Rattle.xindex.specs.Served.{first_log}
use Rattle.xindex.proofs.EnoughSessions.{session_refuses_nothing}
use Rattle.xindex.proofs.piping.serve.Goals as goal

pub returns-clause-session : goal.returns-clause-session
returns-clause-session g c =
    record {
      ended = c.serve_alone-ended.result.0;
      status_is = c.status_of.ensures;
      index = c.serve_alone-ended.ensures.opened;
      served = c.serve_alone-ended.ensures.session;
      complete = session_refuses_nothing (limits_of_index c.args.opened.index)
          (first_log c.serve_alone-ended.result.1);
    }
