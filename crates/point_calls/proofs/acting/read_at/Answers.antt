use Rattle.std.proofs.Common.{ℕ, ◌∙◌}
use Rattle.point_calls.specs.Exchanges.{no_exchange}
use Rattle.point_calls.proofs.CallExchanges.{read_makes_none}
use Rattle.point_calls.proofs.Exchanging.{few_behind}
use Rattle.point_calls.proofs.PlaceReading.{has_ended, in_again, in_found, in_place, may_look, meets_change, meets_lock, passes_by}
use Rattle.point_calls.proofs.acting.read_at.Goals as goal

pub look-requires-clause-section : goal.look-requires-clause-section
look-requires-clause-section c =
    let b = c.args.board.now in
    let start = c.args.start.now.value in
    let h = c.args.hand.now in
    let i = in_place b start h c.args.key c.args.place c.requires in
    let s = c.in-Live.ensures.steps in
    (in_again b start h c.args.key c.args.place i c.requires.of_key s.2 s.0 s.1 s.3 s.5.0 c.read.new.hand
    c.in-Live.value s.1 s.5.1 s.5.2).section

pub look-requires-clause-rows : goal.look-requires-clause-rows
look-requires-clause-rows c =
    let b = c.args.board.now in
    let start = c.args.start.now.value in
    let h = c.args.hand.now in
    let i = in_place b start h c.args.key c.args.place c.requires in
    let s = c.in-Live.ensures.steps in
    (in_again b start h c.args.key c.args.place i c.requires.of_key s.2 s.0 s.1 s.3 s.5.0 c.read.new.hand
    c.in-Live.value s.1 s.5.1 s.5.2).rows

pub look-requires-clause-may : goal.look-requires-clause-may
look-requires-clause-may c =
    let b = c.args.board.now in
    let start = c.args.start.now.value in
    let h = c.args.hand.now in
    let k = c.read.new.hand in
    let r = c.requires in
    let i = in_place b start h c.args.key c.args.place r in
    let s = c.in-Live.ensures.steps in
    may_look b start h c.args.key c.args.place i r.of_key k c.in-Live.value r.call.so_far.began
    (c.read.ensures.log ∙ r.call.so_far.no_entry)
    (in_again b start h c.args.key c.args.place i r.of_key s.2 s.0 s.1 s.3 s.5.0 k c.in-Live.value s.1 s.5.1
    s.5.2)
    r.ready.at_own.there.reading.caller c.in-Live.ensures.tells

pub returns-in-Live-clause-exchanges : goal.returns-in-Live-clause-exchanges
returns-in-Live-clause-exchanges c =
    few_behind no_exchange c.args.hand.now c.read.new.hand c.look.new.hand
    (read_makes_none c.args.board.now c.args.hand.now c.args.place c.read.result c.read.new.hand
    c.requires.ready.of c.read.ensures.steps)
    c.look.ensures.exchanges

pub returns-in-Gone-clause-exchanges : goal.returns-in-Gone-clause-exchanges
returns-in-Gone-clause-exchanges c =
    read_makes_none c.args.board.now c.args.hand.now c.args.place c.read.result c.read.new.hand
    c.requires.ready.of c.read.ensures.steps

pub returns-in-Gone-clause-answer : goal.returns-in-Gone-clause-answer
returns-in-Gone-clause-answer c =
    let b = c.args.board.now in
    let start = c.args.start.now.value in
    let h = c.args.hand.now in
    let k = c.read.new.hand in
    let r = c.requires in
    let i = in_place b start h c.args.key c.args.place r in
    let s = c.in-Gone.ensures.steps in
    passes_by b start h c.args.key c.args.place k r c.read.ensures.ready
    (in_found b start h c.args.key c.args.place i r.of_key k s.0 s.1 s.2) c.read.ensures.log
    c.in-Gone.ensures.tells
    (read_makes_none b h c.args.place c.read.result k r.ready.of c.read.ensures.steps)

pub returns-in-Locked-clause-exchanges : goal.returns-in-Locked-clause-exchanges
returns-in-Locked-clause-exchanges c =
    read_makes_none c.args.board.now c.args.hand.now c.args.place c.read.result c.read.new.hand
    c.requires.ready.of c.read.ensures.steps

pub returns-in-Locked-clause-answer : goal.returns-in-Locked-clause-answer
returns-in-Locked-clause-answer c =
    let b = c.args.board.now in
    let start = c.args.start.now.value in
    let h = c.args.hand.now in
    let k = c.read.new.hand in
    let r = c.requires in
    let key : ℕ = c.args.key in
    let i = in_place b start h key c.args.place r in
    let s = c.in-Locked.ensures.steps in (
      has_ended b start k c.args.place c.read.ensures.ready
          (in_found b start h key c.args.place i r.of_key k c.in-Locked.place c.in-Locked.word s.0),
      (
        c.read.ensures.log ∙ r.call.so_far.no_entry,
        meets_lock b start h key c.args.place i r.of_key k c.in-Locked.place c.in-Locked.word s.0 s.1
            c.in-Locked.ensures.tells,
      ),
    )

pub returns-in-Changed-clause-exchanges : goal.returns-in-Changed-clause-exchanges
returns-in-Changed-clause-exchanges c =
    read_makes_none c.args.board.now c.args.hand.now c.args.place c.read.result c.read.new.hand
    c.requires.ready.of c.read.ensures.steps

pub returns-in-Changed-clause-answer : goal.returns-in-Changed-clause-answer
returns-in-Changed-clause-answer c =
    let b = c.args.board.now in
    let start = c.args.start.now.value in
    let h = c.args.hand.now in
    let k = c.read.new.hand in
    let r = c.requires in
    let key : ℕ = c.args.key in
    let i = in_place b start h key c.args.place r in
    let s = c.in-Changed.ensures.steps in
    let at : ℕ = c.in-Changed.place in
    let first : ℕ = c.in-Changed.first in
    let second : ℕ = c.in-Changed.second in (
      has_ended b start k c.args.place c.read.ensures.ready
          (in_again b start h key c.args.place i r.of_key s.1 at first s.2 s.4.0 k s.0 second s.4.1 s.4.2),
      (
        c.read.ensures.log ∙ r.call.so_far.no_entry,
        meets_change b start h key c.args.place i r.of_key s.1 at first s.2 s.4.0 k s.0 second s.4.1 s.4.2 s.5
            c.in-Changed.ensures.tells,
      ),
    )
