-- What is known inside of the read section is told from outside of it.
use Rattle.map_model.specs.declared.calls.Call.TheVariants as call
use Rattle.index_rule.specs.Hands.{opening_of}
use Rattle.xindex_core.proofs.Sections.{later_is, truthful}
use Rattle.xindex_core.proofs.Inside.{put_since, put_tells}
use Rattle.xindex_core.proofs.Trying.{ends_outside, spare_behind, spare_inside}
use Rattle.xindex_core.proofs.pass.Pass.try_put.Goals as goal

pub put-answer-requires-clause-spare : goal.put-answer-requires-clause-spare
put-answer-requires-clause-spare c =
    spare_inside c.args.index.now.board c.args.self.now.hand c.enter.new.hand _ c.requires.of
    c.enter.ensures.step _ c.requires.spare

pub returns-clause-pass : goal.returns-clause-pass
returns-clause-pass c =
    let b = c.args.index.now.board in
    record {
      of = c.leave.ensures.step.of;
      rests = c.leave.ensures.outside;
      spare = spare_behind b c.put-answer.new.hand c.leave.new.hand _
          c.put-answer.ensures.call.of c.leave.ensures.step _
          c.put-answer.ensures.spare;
      truthful = truthful b c.leave.new.hand
          (c.leave.ensures.step.acts.3 (opening_of b) c.put-answer.ensures.call.of.opened);
    }

pub returns-clause-tries : goal.returns-clause-tries
returns-clause-tries c =
    let b = c.args.index.now.board in
    let tells = c.put-answer.ensures.tells in
    record {
      later = later_is b c.args.self.now.hand c.enter.new.hand c.put-answer.new.hand c.leave.new.hand _ _
          c.requires.of c.enter.ensures.step c.put-answer.ensures.call.of c.put-answer.ensures.number
          c.leave.ensures.step
          (put_since b c.args.key c.args.value c.enter.new.hand c.put-answer.result c.put-answer.new.hand
          tells);
      ends = ends_outside b c.args.self.now.hand c.enter.new.hand c.put-answer.new.hand c.leave.new.hand _ _
          c.requires.of c.enter.ensures.step c.put-answer.ensures.call.of c.put-answer.ensures.number
          c.leave.ensures.step (call.Put c.args.key c.args.value) c.put-answer.result
          (put_tells b c.enter.new.hand c.put-answer.new.hand c.put-answer.ensures.number c.args.key c.args.value
          c.put-answer.result tells);
      steps = record {
        inside = c.enter.new.hand;
        done = c.put-answer.new.hand;
        enters = c.enter.ensures.step;
        section = c.put-answer.ensures.section;
        does = tells;
        exchanges = c.put-answer.ensures.exchanges;
        leaves = c.leave.ensures.step;
      };
      full = c.put-answer.ensures.full;
      spare = (c.put-answer.ensures.kept, c.put-answer.ensures.none);
      probes = c.put-answer.ensures.probes;
    }
