use Rattle.std.proofs.Common.{◌≡◌, ℕ, Option}
use Rattle.word_layout.specs.declared.places.Part.TheVariants.{State}
use Rattle.word_layout.specs.Words.{PlaceWord}
use Rattle.map_model.specs.declared.entries.Change.TheVariants.{Put}
use Rattle.index_machine.specs.declared.events.Action.TheVariants.{LoadState}
use Rattle.tried_calls.specs.declared.tried.Tried.TheVariants as tried
use Rattle.record_cell.specs.Writes.{put_at}
use Rattle.record_cell.proofs.FoundLoads.{found_in_row}
use Rattle.point_calls.proofs.CallExchanges.{gone_makes_none, write_makes_one}
use Rattle.point_calls.proofs.Knowing.{adds_whole}
use Rattle.point_calls.proofs.LeftWords.{made_at}
use Rattle.point_calls.proofs.PlaceChanging.{in_done, put_is}
use Rattle.point_calls.proofs.PlaceReading.{has_ended, in_found, in_place, passes_by}
use Rattle.point_calls.proofs.PlaceRefusals.{in_refused, is_refusal, live_is_none, put_tells}
use Rattle.point_calls.proofs.PlaceRefusals.{refuses_not_full, worn_live, write_refused}
use Rattle.point_calls.proofs.updating.update_at.Goals as goal

done_not_full : {X : Type 0} {old : Option ℕ} → tried.Done old ≡ tried.Full → X
done_not_full e = cc

pub refused-requires : goal.refused-requires
refused-requires c =
    let b = c.args.board.now in
    let start = c.args.start.now.value in
    let h = c.args.hand.now in
    let k = c.update.new.hand in
    let r = c.requires in
    let i = in_place b start h c.args.key c.args.place r in
    is_refusal b start h c.args.key c.args.place i r.of_key k c.update.result
    (write_refused b h c.args.place (put_at b h c.args.place c.args.value) c.update.result k
    c.update.ensures.steps c.update.ensures.tells c.in_default.not-Done c.in_default.not-Gone)

pub returns-in-Done-clause-exchanges : goal.returns-in-Done-clause-exchanges
returns-in-Done-clause-exchanges c =
    write_makes_one c.args.board.now c.args.hand.now c.args.place
    (put_at c.args.board.now c.args.hand.now c.args.place c.args.value) c.update.result c.update.new.hand
    c.requires.ready.of c.update.ensures.steps

pub returns-in-Done-clause-answer : goal.returns-in-Done-clause-answer
returns-in-Done-clause-answer c =
    let b = c.args.board.now in
    let start = c.args.start.now.value in
    let h = c.args.hand.now in
    let k = c.update.new.hand in
    let r = c.requires in
    let key : ℕ = c.args.key in
    let i = in_place b start h key c.args.place r in
    let change = put_at b h c.args.place c.args.value in
    record {
      ended = has_ended b start k c.args.place c.update.ensures.ready
          (in_done b start h key c.args.place i r.of_key k change c.in-Done.old c.in-Done.ensures.steps);
      tells = adds_whole b start h k change (Put start.number key c.args.value) c.in-Done.old i
          r.call.so_far.no_entry (put_is b start h key c.args.place i r.of_key c.args.value)
          c.in-Done.ensures.tells;
      not_full = done_not_full;
    }

pub returns-in-Gone-clause-exchanges : goal.returns-in-Gone-clause-exchanges
returns-in-Gone-clause-exchanges c =
    write_makes_one c.args.board.now c.args.hand.now c.args.place
    (put_at c.args.board.now c.args.hand.now c.args.place c.args.value) c.update.result c.update.new.hand
    c.requires.ready.of c.update.ensures.steps

pub returns-in-Gone-clause-answer : goal.returns-in-Gone-clause-answer
returns-in-Gone-clause-answer c =
    let b = c.args.board.now in
    let start = c.args.start.now.value in
    let h = c.args.hand.now in
    let k = c.update.new.hand in
    let r = c.requires in
    let key : ℕ = c.args.key in
    let place : ℕ = c.args.place in
    let word : ℕ = c.in-Gone.word in
    let i = in_place b start h key place r in
    let s = c.in-Gone.ensures.steps in
    let t = c.in-Gone.ensures.tells in
    record {
      passes = passes_by b start h key place k r c.update.ensures.ready
          (in_found b start h key place i r.of_key k s.0 word s.1) t.0 t.1
          (gone_makes_none b h place (put_at b h place c.args.value) word k r.ready.of s);
      stone = s.2;
      row = λ group row.
          let here = found_in_row b h k group key place s.0 word i.of r.ready.at_own.there row s.1 in
          made_at b start h k (LoadState place word) (PlaceWord place State) i.since i.number i.of here.1;
    }

pub returns-in_default : goal.returns-in_default
returns-in_default c =
    let b = c.args.board.now in
    let start = c.args.start.now.value in
    let h = c.args.hand.now in
    let k = c.update.new.hand in
    let r = c.requires in
    let key : ℕ = c.args.key in
    let place : ℕ = c.args.place in
    let i = in_place b start h key place r in
    let change = put_at b h place c.args.value in
    let no = write_refused b h place change c.update.result k c.update.ensures.steps
    c.update.ensures.tells c.in_default.not-Done c.in_default.not-Gone in
    record {
      exchanges = write_makes_one b h place change c.update.result k r.ready.of c.update.ensures.steps;
      answer = record {
        ended = has_ended b start k place c.update.ensures.ready
            (in_refused b start h key place i r.of_key k c.update.result no);
        tells = put_tells b start h key place i r.of_key k c.args.value c.update.result c.refused.result
            r.call.so_far.no_entry no
            (live_is_none b key start c.update.result k
            (worn_live b h place change c.update.result k c.update.ensures.steps))
            c.refused.ensures;
        not_full = refuses_not_full c.update.result c.refused.result c.refused.ensures;
      };
    }
