use Rattle.std.proofs.Common.{◌≡◌, ℕ, Option, ◌∙◌}
use Rattle.map_model.specs.declared.entries.Change.TheVariants.{Put}
use Rattle.index_machine.specs.declared.events.Action.TheVariants.{LoadState}
use Rattle.tried_calls.specs.declared.tried.Tried.{Tried}
use Rattle.tried_calls.specs.declared.tried.Tried.TheVariants as tried
use Rattle.tried_calls.specs.declared.tried.Why.{Why}
use Rattle.record_cell.specs.Writes.{put_at}
use Rattle.point_calls.proofs.CallExchanges.{revival_makes_one}
use Rattle.point_calls.proofs.Knowing.{adds_whole, in_step}
use Rattle.point_calls.proofs.PlaceChanging.{put_is}
use Rattle.point_calls.proofs.PlaceReading.{has_ended}
use Rattle.point_calls.proofs.PlaceRefusals.{in_refused, is_refusal, put_tells, refuses_not_full, revival_refused}
use Rattle.point_calls.proofs.Revival.{in_found, in_revived, is_of_key, may_revive, ready, was_alive, worn_stone}
use Rattle.point_calls.proofs.reviving.bring_back.Goals as goal

done_not_full : {X : Type 0} {old : Option ℕ} → tried.Done old ≡ tried.Full → X
done_not_full e = cc

abbrev again : Why → Tried (Option ℕ)
again cause = tried.Again cause

again_not_full : {X : Type 0} {cause : Why} → again cause ≡ tried.Full → X
again_not_full e = cc

pub revive-requires : goal.revive-requires
revive-requires c =
    let b = c.args.board.now in
    let start = c.args.start.now.value in
    let h = c.args.hand.now in
    let r = c.requires in
    record {
      ready = ready b start h c.args.row c.args.first r.found r.may;
      may = may_revive b start h c.args.row c.args.first r.found r.may;
    }

pub refused-requires : goal.refused-requires
refused-requires c =
    let b = c.args.board.now in
    let start = c.args.start.now.value in
    let h = c.args.hand.now in
    let k = c.revive.new.hand in
    let row = c.args.row in
    let r = c.requires in
    is_refusal b start h row.key row.place (in_found b start h row c.args.first r.found r.may)
    (is_of_key b start h row c.args.first r.found r.may) k c.revive.result
    (revival_refused b h row.place c.args.value c.revive.result k c.revive.ensures.steps c.revive.ensures.tells
    c.in_default.not-Done c.in_default.not-Live)

pub returns-in-Done : goal.returns-in-Done
returns-in-Done c =
    let b = c.args.board.now in
    let start = c.args.start.now.value in
    let h = c.args.hand.now in
    let k = c.revive.new.hand in
    let row = c.args.row in
    let value : ℕ = c.args.value in
    let r = c.requires in
    let i = in_found b start h row c.args.first r.found r.may in
    let done = c.in-Done.ensures in
    record {
      exchanges = revival_makes_one b h row.place value c.revive.result k i.of c.revive.ensures.steps;
      ends = record {
        ended = has_ended b start k row.place c.revive.ensures.ready
            (in_revived b start h row c.args.first r.found r.may k value c.in-Done.old done.steps);
        tells = adds_whole b start h k (put_at b h row.place value) (Put start.number row.key value) c.in-Done.old i
            r.found.found.at.call.so_far.no_entry
            (put_is b start h row.key row.place i (is_of_key b start h row c.args.first r.found r.may) value)
            done.tells;
        not_full = done_not_full;
      };
    }

pub returns-in-Live : goal.returns-in-Live
returns-in-Live c =
    let b = c.args.board.now in
    let start = c.args.start.now.value in
    let h = c.args.hand.now in
    let k = c.revive.new.hand in
    let row = c.args.row in
    let r = c.requires in
    let i = in_found b start h row c.args.first r.found r.may in
    let s = c.in-Live.ensures.steps in
    record {
      exchanges = revival_makes_one b h row.place c.args.value c.revive.result k i.of c.revive.ensures.steps;
      ends = record {
        ended = has_ended b start k row.place c.revive.ensures.ready
            (in_step b start h k (LoadState row.place c.in-Live.word) tt tt s.0 i);
        tells = (
          c.in-Live.ensures.tells.0 ∙ r.found.found.at.call.so_far.no_entry,
          was_alive b start h row c.args.first r.found r.may k c.in-Live.word s.0 s.1,
        );
        not_full = again_not_full;
      };
    }

pub returns-in_default : goal.returns-in_default
returns-in_default c =
    let b = c.args.board.now in
    let start = c.args.start.now.value in
    let h = c.args.hand.now in
    let k = c.revive.new.hand in
    let row = c.args.row in
    let r = c.requires in
    let i = in_found b start h row c.args.first r.found r.may in
    let of_key = is_of_key b start h row c.args.first r.found r.may in
    let w = c.revive.result in
    let no = revival_refused b h row.place c.args.value w k c.revive.ensures.steps c.revive.ensures.tells
    c.in_default.not-Done c.in_default.not-Live in
    record {
      exchanges = revival_makes_one b h row.place c.args.value w k i.of c.revive.ensures.steps;
      ends = record {
        ended = has_ended b start k row.place c.revive.ensures.ready
            (in_refused b start h row.key row.place i of_key k w no);
        tells = put_tells b start h row.key row.place i of_key k c.args.value w c.refused.result
            r.found.found.at.call.so_far.no_entry no
            (worn_stone b start h row c.args.first r.found r.may k c.args.value w c.revive.ensures.steps)
            c.refused.ensures;
        not_full = refuses_not_full w c.refused.result c.refused.ensures;
      };
    }
