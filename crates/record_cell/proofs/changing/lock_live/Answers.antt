use Rattle.std.proofs.Common.{◌≡◌, ℕ, arith, ap, ◌∙◌}
use Rattle.std.specs.Prelude.{false}
use Rattle.word_layout.specs.State.{IsUnlockedWord, word_of_state}
use Rattle.word_layout.specs.declared.state.State.TheVariants.{Direct}
use Rattle.index_machine.specs.Forms.{last_version}
use Rattle.record_cell.proofs.Locked.{either_answer, gone_refused, locked_refused, locks, loses}
use Rattle.record_cell.proofs.Locked.{worn_refused}
use Rattle.record_cell.proofs.changing.lock_live.Goals as goal

pub returns-in-Locked-clause-answer : goal.returns-in-Locked-clause-answer
returns-in-Locked-clause-answer c =
    let f = c.find-record.ensures in
    let r = c.find-record.result in
    locked_refused c.args.board.now c.args.hand.now c.find-record.new.hand c.args.place r.place r.word
    c.requires f.number f.ready f.can_step f.found f.log c.in-Locked.ensures

pub returns-in-Tombstone-clause-answer : goal.returns-in-Tombstone-clause-answer
returns-in-Tombstone-clause-answer c =
    let f = c.find-record.ensures in
    let r = c.find-record.result in
    gone_refused c.args.board.now c.args.hand.now c.find-record.new.hand c.args.place r.place r.word
    c.requires f.number f.ready f.can_step f.found f.log (c.in-Tombstone.version, c.in-Tombstone.ensures)

pub lock-requires-clause-lockable : goal.lock-requires-clause-lockable
lock-requires-clause-lockable c =
    (c.in-Live.version, false, record { is = c.in-Live.ensures; raisable = c.if-version-lt-LAST_VERSION.true })

pub returns-in-Live-clause-answer : goal.returns-in-Live-clause-answer
returns-in-Live-clause-answer c =
    let b = c.args.board.now in
    let h = c.args.hand.now in
    let m = c.find-record.new.hand in
    let f = c.find-record.ensures in
    let r = c.find-record.result in
    let k = c.lock.new.hand in
    let unlocked : IsUnlockedWord c.in-Live.version false r.word =
    record { is = c.in-Live.ensures; raisable = c.if-version-lt-LAST_VERSION.true }
    in
    either_answer _ _ _ _ c.lock.result
    (locks b h m c.args.place r.place r.word c.requires f.number f.ready f.can_step f.found f.log k
    c.in-Live.version unlocked)
    (loses b h m c.args.place r.place r.word c.requires f.number f.ready f.can_step f.found f.log k
    c.in-Live.version unlocked)
    c.lock.ensures.answer

pub returns-in-Live-2-clause-answer : goal.returns-in-Live-2-clause-answer
returns-in-Live-2-clause-answer c =
    let f = c.find-record.ensures in
    let r = c.find-record.result in
    let least = c.if-version-lt-LAST_VERSION.false in
    let fits = c.find-record.type_inv in
    let word : r.word ≡ word_of_state (Direct c.in-Live.version false false) = c.in-Live.ensures in
    let last : c.in-Live.version ≡ last_version = omega arith in
    worn_refused c.args.board.now c.args.hand.now c.find-record.new.hand c.args.place r.place r.word
    c.requires f.number f.ready f.can_step f.found f.log
    (word ∙ ap (λ (z : ℕ). word_of_state (Direct z false false)) last)
