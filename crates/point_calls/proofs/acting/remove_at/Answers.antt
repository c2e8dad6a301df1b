use Rattle.record_cell.specs.Writes.{remove_at as remove_of}
use Rattle.point_calls.proofs.CallExchanges.{gone_makes_none, write_makes_one}
use Rattle.point_calls.proofs.PlaceChanging.{in_done, removed_tells}
use Rattle.point_calls.proofs.PlaceReading.{has_ended, in_found, in_place, passes_by}
use Rattle.point_calls.proofs.PlaceRefusals.{in_refused, is_refusal, remove_tells, worn_live, write_refused}
use Rattle.point_calls.proofs.acting.remove_at.Goals as goal

pub refused-requires : goal.refused-requires
refused-requires c =
    let b = c.args.board.now in
    let start = c.args.start.now.value in
    let h = c.args.hand.now in
    let k = c.kill.new.hand in
    let r = c.requires in
    let i = in_place b start h c.args.key c.args.place r in
    is_refusal b start h c.args.key c.args.place i r.of_key k c.kill.result
    (write_refused b h c.args.place (remove_of b h c.args.place) c.kill.result k c.kill.ensures.steps
    c.kill.ensures.tells c.in_default.not-Done c.in_default.not-Gone)

pub returns-in-Done-clause-exchanges : goal.returns-in-Done-clause-exchanges
returns-in-Done-clause-exchanges c =
    write_makes_one c.args.board.now c.args.hand.now c.args.place
    (remove_of c.args.board.now c.args.hand.now c.args.place) c.kill.result c.kill.new.hand c.requires.ready.of
    c.kill.ensures.steps

pub returns-in-Done-clause-answer : goal.returns-in-Done-clause-answer
returns-in-Done-clause-answer c =
    let b = c.args.board.now in
    let start = c.args.start.now.value in
    let h = c.args.hand.now in
    let k = c.kill.new.hand in
    let r = c.requires in
    let i = in_place b start h c.args.key c.args.place r in (
      has_ended b start k c.args.place c.kill.ensures.ready
          (in_done b start h c.args.key c.args.place i r.of_key k (remove_of b h c.args.place) c.in-Done.old
          c.in-Done.ensures.steps),
      removed_tells b start h c.args.key c.args.place i r.of_key k c.in-Done.old r.call.so_far.no_entry
          c.in-Done.ensures.steps c.in-Done.ensures.tells,
    )

pub returns-in-Gone-clause-exchanges : goal.returns-in-Gone-clause-exchanges
returns-in-Gone-clause-exchanges c =
    write_makes_one c.args.board.now c.args.hand.now c.args.place
    (remove_of c.args.board.now c.args.hand.now c.args.place) c.kill.result c.kill.new.hand c.requires.ready.of
    c.kill.ensures.steps

pub returns-in-Gone-clause-answer : goal.returns-in-Gone-clause-answer
returns-in-Gone-clause-answer c =
    let b = c.args.board.now in
    let start = c.args.start.now.value in
    let h = c.args.hand.now in
    let k = c.kill.new.hand in
    let r = c.requires in
    let i = in_place b start h c.args.key c.args.place r in
    let s = c.in-Gone.ensures.steps in
    let t = c.in-Gone.ensures.tells in
    passes_by b start h c.args.key c.args.place k r c.kill.ensures.ready
    (in_found b start h c.args.key c.args.place i r.of_key k s.0 c.in-Gone.word s.1) t.0 t.1
    (gone_makes_none b h c.args.place (remove_of b h c.args.place) c.in-Gone.word k r.ready.of s)

pub returns-in_default : goal.returns-in_default
returns-in_default c =
    let b = c.args.board.now in
    let start = c.args.start.now.value in
    let h = c.args.hand.now in
    let k = c.kill.new.hand in
    let r = c.requires in
    let i = in_place b start h c.args.key c.args.place r in
    let no = write_refused b h c.args.place (remove_of b h c.args.place) c.kill.result k c.kill.ensures.steps
    c.kill.ensures.tells c.in_default.not-Done c.in_default.not-Gone in
    record {
      exchanges = write_makes_one b h c.args.place (remove_of b h c.args.place) c.kill.result k r.ready.of
          c.kill.ensures.steps;
      answer = (
        has_ended b start k c.args.place c.kill.ensures.ready
            (in_refused b start h c.args.key c.args.place i r.of_key k c.kill.result no),
        remove_tells b start h c.args.key c.args.place i r.of_key k c.kill.result c.refused.result
            r.call.so_far.no_entry no
            (worn_live b h c.args.place (remove_of b h c.args.place) c.kill.result k c.kill.ensures.steps)
            c.refused.ensures,
      );
    }
