use Rattle.std.proofs.Common.{◌≡◌, ℕ, ap, ◌∙◌, true, false, arith}
use Rattle.word_layout.specs.State.{IsUnlockedWord, word_of_state}
use Rattle.word_layout.specs.declared.state.State.TheVariants.{Direct}
use Rattle.index_machine.specs.Forms.{last_version}
use Rattle.record_cell.proofs.Changed.{holds_lock}
use Rattle.record_cell.proofs.Revived.{adds_put, brings_to_life, can, holds, is_record, live_tells}
use Rattle.record_cell.proofs.Revived.{locked_tells, loses, ready_again, releases, still, stored}
use Rattle.record_cell.proofs.Revived.{worn_tells}
use Rattle.record_cell.proofs.reviving.revive.Goals as goal

pub read-requires : goal.read-requires
read-requires c =
    is_record c.args.board.now c.args.hand.now c.load_state-word.new.hand c.args.place _
    c.requires.ready c.requires.may c.load_state-word.ensures

pub lock-requires-clause-can_step : goal.lock-requires-clause-can_step
lock-requires-clause-can_step c =
    can c.args.board.now c.args.hand.now c.load_state-word.new.hand c.args.place _
    c.requires.ready c.requires.may c.load_state-word.ensures

pub store_value-requires-clause-holds : goal.store_value-requires-clause-holds
store_value-requires-clause-holds c =
    let b = c.args.board.now in
    let h = c.args.hand.now in
    let m = c.load_state-word.new.hand in
    let k = c.lock.new.hand in
    let unlocked : IsUnlockedWord c.in-Tombstone.version true c.load_state-word.result =
    record { is = c.in-Tombstone.ensures; raisable = c.if-version-lt-LAST_VERSION.true }
    in
    let held = holds b h m c.args.place c.load_state-word.result c.requires.ready c.requires.may
    c.load_state-word.ensures k c.args.value c.in-Tombstone.version unlocked
    c.in-Ok.ensures.answer.1 in
    holds_lock b h k k c.args.place c.args.place c.in-Tombstone.version true held.0 held.0 held.1

pub store_unlock-requires-clause-may : goal.store_unlock-requires-clause-may
store_unlock-requires-clause-may c =
    let b = c.args.board.now in
    let h = c.args.hand.now in
    let m = c.load_state-word.new.hand in
    let unlocked : IsUnlockedWord c.in-Tombstone.version true c.load_state-word.result =
    record { is = c.in-Tombstone.ensures; raisable = c.if-version-lt-LAST_VERSION.true }
    in
    let about = stored b h m c.args.place c.load_state-word.result c.requires.ready c.requires.may
    c.load_state-word.ensures c.lock.new.hand c.args.value c.in-Tombstone.version unlocked
    c.in-Ok.ensures.answer.1 c.store_value.new.hand c.store_value.ensures in
    releases b h c.store_value.new.hand c.args.place c.args.value about

pub returns-in-Locked-clause-ready : goal.returns-in-Locked-clause-ready
returns-in-Locked-clause-ready c =
    still c.args.board.now c.args.hand.now c.load_state-word.new.hand c.args.place _
    c.requires.ready c.requires.may c.load_state-word.ensures

pub returns-in-Locked-clause-tells : goal.returns-in-Locked-clause-tells
returns-in-Locked-clause-tells c =
    locked_tells c.args.board.now c.args.hand.now c.load_state-word.new.hand c.args.place _
    c.requires.ready c.requires.may c.load_state-word.ensures c.args.value
    c.in-Locked.ensures

pub returns-in-Live-clause-ready : goal.returns-in-Live-clause-ready
returns-in-Live-clause-ready c =
    still c.args.board.now c.args.hand.now c.load_state-word.new.hand c.args.place _
    c.requires.ready c.requires.may c.load_state-word.ensures

pub returns-in-Live-clause-tells : goal.returns-in-Live-clause-tells
returns-in-Live-clause-tells c =
    live_tells c.args.board.now c.args.hand.now c.load_state-word.new.hand c.args.place _
    c.requires.ready c.requires.may c.load_state-word.ensures c.args.value
    (c.in-Live.version, c.in-Live.ensures)

pub returns-in-Ok-clause-ready : goal.returns-in-Ok-clause-ready
returns-in-Ok-clause-ready c =
    let b = c.args.board.now in
    let h = c.args.hand.now in
    let m = c.load_state-word.new.hand in
    let unlocked : IsUnlockedWord c.in-Tombstone.version true c.load_state-word.result =
    record { is = c.in-Tombstone.ensures; raisable = c.if-version-lt-LAST_VERSION.true }
    in
    let about = stored b h m c.args.place c.load_state-word.result c.requires.ready c.requires.may
    c.load_state-word.ensures c.lock.new.hand c.args.value c.in-Tombstone.version unlocked
    c.in-Ok.ensures.answer.1 c.store_value.new.hand c.store_value.ensures in
    ready_again b h c.store_value.new.hand c.args.place c.args.value about
    c.store_unlock.new.hand _ c.store_unlock.ensures

pub returns-in-Ok-clause-steps : goal.returns-in-Ok-clause-steps
returns-in-Ok-clause-steps c =
    let b = c.args.board.now in
    let h = c.args.hand.now in
    let m = c.load_state-word.new.hand in
    let unlocked : IsUnlockedWord c.in-Tombstone.version true c.load_state-word.result =
    record { is = c.in-Tombstone.ensures; raisable = c.if-version-lt-LAST_VERSION.true }
    in
    let about = stored b h m c.args.place c.load_state-word.result c.requires.ready c.requires.may
    c.load_state-word.ensures c.lock.new.hand c.args.value c.in-Tombstone.version unlocked
    c.in-Ok.ensures.answer.1 c.store_value.new.hand c.store_value.ensures in
    brings_to_life b h c.store_value.new.hand c.args.place c.args.value about
    c.store_unlock.new.hand _ c.store_unlock.ensures

pub returns-in-Ok-clause-tells : goal.returns-in-Ok-clause-tells
returns-in-Ok-clause-tells c =
    let b = c.args.board.now in
    let h = c.args.hand.now in
    let m = c.load_state-word.new.hand in
    let unlocked : IsUnlockedWord c.in-Tombstone.version true c.load_state-word.result =
    record { is = c.in-Tombstone.ensures; raisable = c.if-version-lt-LAST_VERSION.true }
    in
    let about = stored b h m c.args.place c.load_state-word.result c.requires.ready c.requires.may
    c.load_state-word.ensures c.lock.new.hand c.args.value c.in-Tombstone.version unlocked
    c.in-Ok.ensures.answer.1 c.store_value.new.hand c.store_value.ensures in
    adds_put b h c.store_value.new.hand c.args.place c.args.value about
    c.store_unlock.new.hand _ c.store_unlock.ensures

pub returns-in-Err-clause-ready : goal.returns-in-Err-clause-ready
returns-in-Err-clause-ready c =
    let b = c.args.board.now in
    let h = c.args.hand.now in
    let m = c.load_state-word.new.hand in
    let unlocked : IsUnlockedWord c.in-Tombstone.version true c.load_state-word.result =
    record { is = c.in-Tombstone.ensures; raisable = c.if-version-lt-LAST_VERSION.true }
    in
    (loses b h m c.args.place c.load_state-word.result c.requires.ready c.requires.may
    c.load_state-word.ensures c.lock.new.hand c.args.value c.in-Tombstone.version unlocked
    c.in-Err.refusal c.in-Err.ensures.answer).0

pub returns-in-Err-clause-steps : goal.returns-in-Err-clause-steps
returns-in-Err-clause-steps c =
    let b = c.args.board.now in
    let h = c.args.hand.now in
    let m = c.load_state-word.new.hand in
    let unlocked : IsUnlockedWord c.in-Tombstone.version true c.load_state-word.result =
    record { is = c.in-Tombstone.ensures; raisable = c.if-version-lt-LAST_VERSION.true }
    in
    (loses b h m c.args.place c.load_state-word.result c.requires.ready c.requires.may
    c.load_state-word.ensures c.lock.new.hand c.args.value c.in-Tombstone.version unlocked
    c.in-Err.refusal c.in-Err.ensures.answer).1

pub returns-in-Err-clause-tells : goal.returns-in-Err-clause-tells
returns-in-Err-clause-tells c =
    let b = c.args.board.now in
    let h = c.args.hand.now in
    let m = c.load_state-word.new.hand in
    let unlocked : IsUnlockedWord c.in-Tombstone.version true c.load_state-word.result =
    record { is = c.in-Tombstone.ensures; raisable = c.if-version-lt-LAST_VERSION.true }
    in
    (loses b h m c.args.place c.load_state-word.result c.requires.ready c.requires.may
    c.load_state-word.ensures c.lock.new.hand c.args.value c.in-Tombstone.version unlocked
    c.in-Err.refusal c.in-Err.ensures.answer).2

pub returns-in-Tombstone-2-clause-ready : goal.returns-in-Tombstone-2-clause-ready
returns-in-Tombstone-2-clause-ready c =
    still c.args.board.now c.args.hand.now c.load_state-word.new.hand c.args.place _
    c.requires.ready c.requires.may c.load_state-word.ensures

pub returns-in-Tombstone-2-clause-tells : goal.returns-in-Tombstone-2-clause-tells
returns-in-Tombstone-2-clause-tells c =
    let least = c.if-version-lt-LAST_VERSION.false in
    let fits = c.load_state-word.type_inv in
    let word : c.load_state-word.result ≡ word_of_state (Direct c.in-Tombstone.version false true) =
    c.in-Tombstone.ensures in
    let last : c.in-Tombstone.version ≡ last_version = omega arith in
    worn_tells c.args.board.now c.args.hand.now c.load_state-word.new.hand c.args.place _
    c.requires.ready c.requires.may c.load_state-word.ensures c.args.value
    (word ∙ ap (λ (z : ℕ). word_of_state (Direct z false true)) last)
