use Rattle.std.proofs.Common.{refl}
use Rattle.index_machine.specs.declared.events.Action.TheVariants.{Enter}
use Rattle.index_rule.proofs.Calls.{goes_on}
use Rattle.index_rule.proofs.RecordReading.{no_entry}
use Rattle.xindex_core.proofs.HeldCalls.{is_later, is_truthful}
use Rattle.xindex_core.proofs.Trying.{spare_inside}
use Rattle.xindex_core.proofs.pass.Pass.hold.Goals as goal

pub returns : goal.returns
returns c =
    let b = c.args.index.now.board in
    let h = c.args.self.hand in
    let k = c.enter.new.hand in
    let step = c.enter.ensures.step in
    record {
      of = record {
        of = step.of;
        inside = c.enter.ensures.may_leave;
        spare = spare_inside b h k _ c.requires.of step _ c.requires.spare;
        truthful = is_truthful b k step.of;
      };
      step = step;
      later = is_later b h k step.of step.number (goes_on b h k (Enter _) c.requires.of step);
      same = record {
        log = no_entry b h k (Enter _) c.requires.of step (λ o t l. refl);
        spare = refl;
        probes = refl;
      };
    }
