use Rattle.std.proofs.Common.{[], sym}
use Rattle.line_session.proofs.Known.{append_known-nil}
use Rattle.line_session.proofs.Sessions.{ends-with_nothing, ends-with_line}
use Rattle.line_session.proofs.serving.answer_rest.Goals as goal

pub returns-in-Some-clause-whole : goal.returns-in-Some-clause-whole
returns-in-Some-clause-whole g c =
    let one = c.answer.ensures.one in
    record {
      added = one.added;
      told = one.told;
      whole = λ first taken written so_far. rw c.unwrap_or.ensures
          (ends-with_line g.A.Answerer.answers first _ _ taken written _ so_far c.in-Some.request _ _ _
          c.answer.result c.in-Some.ensures one);
    }

pub returns-in-None-clause-whole : goal.returns-in-None-clause-whole
returns-in-None-clause-whole g c = record {
  added = [];
  told = sym (append_known-nil _);
  whole = λ first taken written so_far.
      ends-with_nothing g.A.Answerer.answers first _ c.args.answerer.now taken written _ so_far _ c.in-None.ensures;
}
