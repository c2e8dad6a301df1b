use Rattle.std.proofs.Common.{ℕ, ◌≤◌, Option, sym, ◌∙◌, subst, arith}
use Rattle.word_layout.specs.declared.phase.Phase.TheVariants.{Opened}
use Rattle.word_layout.specs.Parts.{greatest_key}
use Rattle.word_layout.specs.Phase.{word_of_phase}
use Rattle.index_machine.proofs.Executions.{continues_trans}
use Rattle.index_rule.specs.Hands.{known}
use Rattle.tried_calls.specs.declared.tried.Tried.{Tried}
use Rattle.point_calls.specs.declared.found.Missed.{Missed}
use Rattle.point_calls.specs.Exchanges.{no_exchange, one_lock}
use Rattle.point_calls.specs.Seeking.{PassesArray}
use Rattle.point_calls.specs.Updating.{EndsPut, LeavesInBuffer, LeavesRoom}
use Rattle.point_calls.proofs.CallExchanges.{lock_or_none}
use Rattle.point_calls.proofs.Exchanging.{few_behind}
use Rattle.point_calls.proofs.RoomBehind.{results_as, room_since}
use Rattle.point_calls.proofs.RoomWay.{ends_frozen, leaves_open, meets_room}
use Rattle.point_calls.proofs.SeekWay.{lacks_opened, lacks_still, none_so_far, on_whole}
use Rattle.point_calls.proofs.making_room.make_room.Goals as goal

pub phase_of-requires-clause-answers : goal.phase_of-requires-clause-answers
phase_of-requires-clause-answers c =
    let b = c.args.board.now in
    let start = c.args.start.now.value in
    let h = c.args.hand.now in
    let m = c.update_in_array.new.hand in
    let k = c.update_in.new.hand in
    let group : ℕ = c.args.group in
    let key : ℕ = c.args.key in
    let array : PassesArray b start h group key m = c.in_ok-update_in_array.ensures.answer in
    let missed = c.in_ok-missed.missed in
    let leaves : LeavesInBuffer b start m group key missed k = c.in_ok-missed.ensures.answer in
    let most : key ≤ greatest_key = omega arith in
    (key, most, (lacks_still b start m k group key array.lacks leaves.passes).there.answers)

pub make_room_behind-requires-clause-lacks : goal.make_room_behind-requires-clause-lacks
make_room_behind-requires-clause-lacks c =
    let b = c.args.board.now in
    let start = c.args.start.now.value in
    let h = c.args.hand.now in
    let m = c.update_in_array.new.hand in
    let k = c.update_in.new.hand in
    let group : ℕ = c.args.group in
    let key : ℕ = c.args.key in
    let array : PassesArray b start h group key m = c.in_ok-update_in_array.ensures.answer in
    let missed = c.in_ok-missed.missed in
    let leaves : LeavesInBuffer b start m group key missed k = c.in_ok-missed.ensures.answer in
    let n = c.phase_of.new.hand in
    let word = word_of_phase c.phase_of.result in
    let loads = c.phase_of.ensures.step in
    let most : key ≤ greatest_key = omega arith in
    lacks_opened b start m k group key array.lacks leaves.passes word n loads c.in-Opened.first
    (c.phase_of.ensures.phase ∙ c.in-Opened.is) most

pub make_room_behind-requires-clause-room : goal.make_room_behind-requires-clause-room
make_room_behind-requires-clause-room c =
    let b = c.args.board.now in
    let start = c.args.start.now.value in
    let h = c.args.hand.now in
    let m = c.update_in_array.new.hand in
    let k = c.update_in.new.hand in
    let group : ℕ = c.args.group in
    let key : ℕ = c.args.key in
    let array : PassesArray b start h group key m = c.in_ok-update_in_array.ensures.answer in
    let missed = c.in_ok-missed.missed in
    let leaves : LeavesInBuffer b start m group key missed k = c.in_ok-missed.ensures.answer in
    let n = c.phase_of.new.hand in
    let word = word_of_phase c.phase_of.result in
    let loads = c.phase_of.ensures.step in
    meets_room b start m k group key array.lacks missed leaves word n loads (Opened c.in-Opened.first)
    (c.phase_of.ensures.phase ∙ c.in-Opened.is) tt

pub returns-in-Open-clause-exchanges : goal.returns-in-Open-clause-exchanges
returns-in-Open-clause-exchanges c =
    let b = c.args.board.now in
    let start = c.args.start.now.value in
    let h = c.args.hand.now in
    let m = c.update_in_array.new.hand in
    let k = c.update_in.new.hand in
    let group : ℕ = c.args.group in
    let key : ℕ = c.args.key in
    let array : PassesArray b start h group key m = c.in_ok-update_in_array.ensures.answer in
    let missed = c.in_ok-missed.missed in
    let leaves : LeavesInBuffer b start m group key missed k = c.in_ok-missed.ensures.answer in
    let n = c.phase_of.new.hand in
    let word = word_of_phase c.phase_of.result in
    let loads = c.phase_of.ensures.step in
    lock_or_none h n
    (few_behind no_exchange h m n array.exchanges
    (none_so_far b start m k group key array.lacks leaves.passes word n loads))

pub returns-in-Open-clause-answer : goal.returns-in-Open-clause-answer
returns-in-Open-clause-answer c =
    let b = c.args.board.now in
    let start = c.args.start.now.value in
    let h = c.args.hand.now in
    let m = c.update_in_array.new.hand in
    let k = c.update_in.new.hand in
    let group : ℕ = c.args.group in
    let key : ℕ = c.args.key in
    let array : PassesArray b start h group key m = c.in_ok-update_in_array.ensures.answer in
    let missed = c.in_ok-missed.missed in
    let leaves : LeavesInBuffer b start m group key missed k = c.in_ok-missed.ensures.answer in
    let n = c.phase_of.new.hand in
    let word = word_of_phase c.phase_of.result in
    let loads = c.phase_of.ensures.step in
    room_since b start h m key missed n array.since array.exchanges
    (leaves_open b start m k group key array.lacks missed leaves word n loads
    (c.phase_of.ensures.phase ∙ c.in-Open.is))

pub returns-in-Frozen-clause-exchanges : goal.returns-in-Frozen-clause-exchanges
returns-in-Frozen-clause-exchanges c =
    let b = c.args.board.now in
    let start = c.args.start.now.value in
    let h = c.args.hand.now in
    let m = c.update_in_array.new.hand in
    let k = c.update_in.new.hand in
    let group : ℕ = c.args.group in
    let key : ℕ = c.args.key in
    let array : PassesArray b start h group key m = c.in_ok-update_in_array.ensures.answer in
    let missed = c.in_ok-missed.missed in
    let leaves : LeavesInBuffer b start m group key missed k = c.in_ok-missed.ensures.answer in
    let n = c.phase_of.new.hand in
    let word = word_of_phase c.phase_of.result in
    let loads = c.phase_of.ensures.step in
    lock_or_none h n
    (few_behind no_exchange h m n array.exchanges
    (none_so_far b start m k group key array.lacks leaves.passes word n loads))

pub returns-in-Frozen-clause-answer : goal.returns-in-Frozen-clause-answer
returns-in-Frozen-clause-answer c =
    let b = c.args.board.now in
    let start = c.args.start.now.value in
    let h = c.args.hand.now in
    let m = c.update_in_array.new.hand in
    let k = c.update_in.new.hand in
    let group : ℕ = c.args.group in
    let key : ℕ = c.args.key in
    let array : PassesArray b start h group key m = c.in_ok-update_in_array.ensures.answer in
    let missed = c.in_ok-missed.missed in
    let leaves : LeavesInBuffer b start m group key missed k = c.in_ok-missed.ensures.answer in
    let n = c.phase_of.new.hand in
    let word = word_of_phase c.phase_of.result in
    let loads = c.phase_of.ensures.step in
    subst (λ (z : Tried (Option ℕ)). EndsPut b key c.args.value start z n) (sym c.frozen.ensures)
    (ends_frozen b start m k group key array.lacks missed leaves word n loads
    (c.phase_of.ensures.phase ∙ c.in-Frozen.is) c.args.value)

pub returns-in-Opened-clause-exchanges : goal.returns-in-Opened-clause-exchanges
returns-in-Opened-clause-exchanges c =
    let b = c.args.board.now in
    let start = c.args.start.now.value in
    let h = c.args.hand.now in
    let m = c.update_in_array.new.hand in
    let k = c.update_in.new.hand in
    let group : ℕ = c.args.group in
    let key : ℕ = c.args.key in
    let array : PassesArray b start h group key m = c.in_ok-update_in_array.ensures.answer in
    let missed = c.in_ok-missed.missed in
    let leaves : LeavesInBuffer b start m group key missed k = c.in_ok-missed.ensures.answer in
    let n = c.phase_of.new.hand in
    let word = word_of_phase c.phase_of.result in
    let loads = c.phase_of.ensures.step in
    few_behind one_lock h n c.make_room_behind.new.hand
    (few_behind no_exchange h m n array.exchanges
    (none_so_far b start m k group key array.lacks leaves.passes word n loads))
    c.make_room_behind.ensures.exchanges

pub returns-in-Opened-clause-answer : goal.returns-in-Opened-clause-answer
returns-in-Opened-clause-answer c =
    let b = c.args.board.now in
    let start = c.args.start.now.value in
    let h = c.args.hand.now in
    let m = c.update_in_array.new.hand in
    let k = c.update_in.new.hand in
    let group : ℕ = c.args.group in
    let key : ℕ = c.args.key in
    let array : PassesArray b start h group key m = c.in_ok-update_in_array.ensures.answer in
    let missed = c.in_ok-missed.missed in
    let leaves : LeavesInBuffer b start m group key missed k = c.in_ok-missed.ensures.answer in
    let n = c.phase_of.new.hand in
    let word = word_of_phase c.phase_of.result in
    let loads = c.phase_of.ensures.step in
    let last = c.make_room_behind.new.hand in
    let on = on_whole b start m k group key array.lacks leaves.passes word n loads in
    results_as (λ (missed : Missed). LeavesRoom b start n key missed last)
    (λ (missed : Missed). LeavesRoom b start h key missed last)
    (λ (x : Tried (Option ℕ)). EndsPut b key c.args.value start x last) c.make_room_behind.result
    (λ missed room.
    room_since b start h n key missed last (continues_trans (known h) (known m) (known n) array.since on.since)
    (few_behind no_exchange h m n array.exchanges
    (none_so_far b start m k group key array.lacks leaves.passes word n loads))
    room) c.make_room_behind.ensures.answer
