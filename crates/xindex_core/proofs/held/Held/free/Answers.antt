use Rattle.std.proofs.Common.{refl}
use Rattle.index_machine.specs.declared.events.Action.TheVariants.{Leave}
use Rattle.index_rule.proofs.Calls.{goes_on}
use Rattle.index_rule.proofs.RecordReading.{no_entry}
use Rattle.xindex_core.proofs.HeldCalls.{is_later, is_truthful}
use Rattle.xindex_core.proofs.Trying.{spare_behind}
use Rattle.xindex_core.proofs.held.Held.free.Goals as goal

pub returns : goal.returns
returns c =
    let b = c.args.index.now.board in
    let h = c.args.self.pass.hand in
    let k = c.leave.new.hand in
    let step = c.leave.ensures.step in
    record {
      of = record {
        of = step.of;
        rests = c.leave.ensures.outside;
        spare = spare_behind b h k _ c.requires.of step _ c.requires.spare;
        truthful = is_truthful b k step.of;
      };
      step = step;
      later = is_later b h k step.of step.number (goes_on b h k (Leave _) c.requires.of step);
      same = record {
        log = no_entry b h k (Leave _) c.requires.of step (λ o t l. refl);
        spare = refl;
        probes = refl;
      };
    }
