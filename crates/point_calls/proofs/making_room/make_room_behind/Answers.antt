use Rattle.std.proofs.Common.{ℕ, Option}
use Rattle.tried_calls.specs.declared.tried.Tried.{Tried}
use Rattle.point_calls.specs.declared.found.Missed.{Missed}
use Rattle.point_calls.specs.Exchanges.{no_exchange, one_lock}
use Rattle.point_calls.specs.Places.{PassesBuffer}
use Rattle.point_calls.specs.Updating.{EndsPut, LeavesInBuffer, LeavesRoom}
use Rattle.point_calls.proofs.BehindWay.{at_new, begins_m, opened_m}
use Rattle.point_calls.proofs.ChainWay.{walk_none}
use Rattle.point_calls.proofs.Exchanging.{few_behind}
use Rattle.point_calls.proofs.RoomBehind.{leaves_behind, results_as}
use Rattle.point_calls.proofs.making_room.make_room_behind.Goals as goal

pub walk_new-new-requires-clause-opened : goal.walk_new-new-requires-clause-opened
walk_new-new-requires-clause-opened c =
    let b = c.args.board.now in
    let start = c.args.start.now.value in
    let h = c.args.hand.now in
    let m = c.update_in.new.hand in
    let g : ℕ = c.args.group in
    let first : ℕ = c.args.first in
    let key : ℕ = c.args.key in
    let lacks = c.requires.lacks in
    let passes : PassesBuffer b start h g key m = c.in_ok-update_in.ensures.answer.passes in
    opened_m b start h g first key lacks m passes

pub walk_new-new-requires-clause-begins : goal.walk_new-new-requires-clause-begins
walk_new-new-requires-clause-begins c =
    let b = c.args.board.now in
    let start = c.args.start.now.value in
    let h = c.args.hand.now in
    let m = c.update_in.new.hand in
    let g : ℕ = c.args.group in
    let first : ℕ = c.args.first in
    let key : ℕ = c.args.key in
    let lacks = c.requires.lacks in
    let passes : PassesBuffer b start h g key m = c.in_ok-update_in.ensures.answer.passes in
    begins_m b start h g first key lacks m passes

pub update_in-requires-2 : goal.update_in-requires-2
update_in-requires-2 c =
    let b = c.args.board.now in
    let start = c.args.start.now.value in
    let h = c.args.hand.now in
    let m = c.update_in.new.hand in
    let g : ℕ = c.args.group in
    let first : ℕ = c.args.first in
    let key : ℕ = c.args.key in
    let lacks = c.requires.lacks in
    let passes : PassesBuffer b start h g key m = c.in_ok-update_in.ensures.answer.passes in
    let n = c.walk_new-new.new.hand in
    let new : ℕ = c.walk_new-new.result in
    let w = c.walk_new-new.ensures in
    at_new b start h g first key lacks m passes new n w.there w.opened w.answers w.steps w.log

pub returns-clause-exchanges : goal.returns-clause-exchanges
returns-clause-exchanges c =
    let b = c.args.board.now in
    let start = c.args.start.now.value in
    let h = c.args.hand.now in
    let m = c.update_in.new.hand in
    let g : ℕ = c.args.group in
    let first : ℕ = c.args.first in
    let key : ℕ = c.args.key in
    let lacks = c.requires.lacks in
    let passes : PassesBuffer b start h g key m = c.in_ok-update_in.ensures.answer.passes in
    let n = c.walk_new-new.new.hand in
    let new : ℕ = c.walk_new-new.result in
    let w = c.walk_new-new.ensures in
    few_behind one_lock h n c.update_in-2.new.hand
    (few_behind no_exchange h m n passes.exchanges (walk_none b first key m new n passes.on.can.of w.steps))
    c.update_in-2.ensures.exchanges

pub returns-clause-answer : goal.returns-clause-answer
returns-clause-answer c =
    let b = c.args.board.now in
    let start = c.args.start.now.value in
    let h = c.args.hand.now in
    let m = c.update_in.new.hand in
    let g : ℕ = c.args.group in
    let first : ℕ = c.args.first in
    let key : ℕ = c.args.key in
    let lacks = c.requires.lacks in
    let passes : PassesBuffer b start h g key m = c.in_ok-update_in.ensures.answer.passes in
    let n = c.walk_new-new.new.hand in
    let new : ℕ = c.walk_new-new.result in
    let w = c.walk_new-new.ensures in
    let k = c.update_in-2.new.hand in
    results_as (λ (missed : Missed). LeavesInBuffer b start n new key missed k)
    (λ (missed : Missed). LeavesRoom b start h key missed k)
    (λ (x : Tried (Option ℕ)). EndsPut b key c.args.value start x k) c.update_in-2.result
    (λ missed leaves.
    leaves_behind b start h g first key lacks m passes new n w.there w.opened w.answers w.steps w.log c.requires.room
    missed k leaves) c.update_in-2.ensures.answer
