-- What is known inside of the read section is told from outside of it.
use Rattle.map_model.specs.declared.calls.Call.TheVariants as call
use Rattle.std.proofs.Common.{Option, ℕ, refl, subst}
use Rattle.tried_calls.specs.declared.tried.Tried.{Tried}
use Rattle.point_calls.specs.Getting.{GetTells}
use Rattle.index_rule.specs.Hands.{opening_of}
use Rattle.xindex_core.proofs.Sections.{later_is, truthful}
use Rattle.xindex_core.proofs.Inside.{get_since, get_tells}
use Rattle.xindex_core.proofs.Trying.{ends_outside, spare_behind, spare_inside}
use Rattle.xindex_core.proofs.pass.Pass.try_get.Goals as goal

pub returns-clause-pass : goal.returns-clause-pass
returns-clause-pass c =
    let b = c.args.index.now.board in
    record {
      of = c.leave.ensures.step.of;
      rests = c.leave.ensures.outside;
      spare = spare_behind b c.get-answer.new.hand c.leave.new.hand _
          c.get-answer.ensures.call.of c.leave.ensures.step _
          (c.get-answer.ensures.rows _
          (spare_inside b c.args.self.now.hand c.enter.new.hand _ c.requires.of
          c.enter.ensures.step _ c.requires.spare));
      truthful = truthful b c.leave.new.hand
          (c.leave.ensures.step.acts.3 (opening_of b) c.get-answer.ensures.call.of.opened);
    }

pub returns-clause-tries : goal.returns-clause-tries
returns-clause-tries c =
    let b = c.args.index.now.board in
    let tells = c.get-answer.ensures.tells in
    record {
      later = later_is b c.args.self.now.hand c.enter.new.hand c.get-answer.new.hand c.leave.new.hand _ _
          c.requires.of c.enter.ensures.step c.get-answer.ensures.call.of c.get-answer.ensures.number
          c.leave.ensures.step
          (get_since b c.args.key c.enter.new.hand c.get-answer.result c.get-answer.new.hand
          tells);
      ends = ends_outside b c.args.self.now.hand c.enter.new.hand c.get-answer.new.hand c.leave.new.hand _ _
          c.requires.of c.enter.ensures.step c.get-answer.ensures.call.of c.get-answer.ensures.number
          c.leave.ensures.step (call.Get c.args.key) c.get-answer.result
          (get_tells b c.enter.new.hand c.get-answer.new.hand c.get-answer.ensures.number c.args.key
          c.get-answer.result tells);
      steps = record {
        inside = c.enter.new.hand;
        done = c.get-answer.new.hand;
        enters = c.enter.ensures.step;
        section = c.get-answer.ensures.section;
        does = tells;
        exchanges = c.get-answer.ensures.exchanges;
        leaves = c.leave.ensures.step;
      };
      full = λ is. absurd (subst
          (λ (z : Tried (Option ℕ)). GetTells b c.args.key c.enter.new.hand z c.get-answer.new.hand)
          is tells);
      spare = refl;
      probes = c.get-answer.ensures.probes;
    }
