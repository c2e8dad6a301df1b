use Rattle.std.proofs.Common.{ℕ, inl, sym, subst}
use Rattle.index_machine.specs.declared.events.Action.TheVariants.{LoadState}
use Rattle.index_rule.specs.Hands.{Makes}
use Rattle.record_cell.proofs.Found.{can_step_on, ready_on, same_key_on}
use Rattle.record_cell.proofs.Told.{finds_lock, finds_none, read_value}
use Rattle.record_cell.proofs.reading.read.Goals as goal

pub load_state-second-requires-clause-may : goal.load_state-second-requires-clause-may
load_state-second-requires-clause-may c =
    inl (can_step_on c.args.board.now c.find-record.new.hand c.load_value-value.new.hand _
    c.find-record.result.place tt c.load_value-value.ensures (λ z. z)
    c.find-record.ensures.can_step).there

pub returns-in-Locked-clause-tells : goal.returns-in-Locked-clause-tells
returns-in-Locked-clause-tells c =
    let f = c.find-record.ensures in
    finds_lock c.args.board.now c.args.hand.now c.find-record.new.hand c.args.place
    c.find-record.result.place _ c.requires f.number f.can_step f.found c.in-Locked.ensures

pub returns-in-Tombstone-clause-tells : goal.returns-in-Tombstone-clause-tells
returns-in-Tombstone-clause-tells c =
    finds_none c.args.board.now c.args.hand.now c.find-record.new.hand c.args.place
    c.find-record.result.place _ c.requires c.find-record.ensures.found (c.in-Tombstone.version, c.in-Tombstone.ensures)

pub returns-then-second-record-clause-ready : goal.returns-then-second-record-clause-ready
returns-then-second-record-clause-ready c =
    let b = c.args.board.now in
    let n = c.load_value-value.new.hand in
    ready_on b n c.load_state-second.new.hand _ c.args.place tt c.load_state-second.ensures (λ z. z)
    (ready_on b c.find-record.new.hand n _ c.args.place tt c.load_value-value.ensures (λ z. z)
    c.find-record.ensures.ready)

pub returns-then-second-record-clause-steps : goal.returns-then-second-record-clause-steps
returns-then-second-record-clause-steps c =
    let b = c.args.board.now in
    let n = c.load_value-value.new.hand in
    let r = c.find-record.result in (
      r.place,
      r.word,
      c.find-record.new.hand,
      c.find-record.ensures.found.steps,
      (c.in-Live.version, c.in-Live.ensures),
      (
        n,
        c.load_value-value.ensures,
        subst (λ (word : ℕ). Makes b n (LoadState r.place word) c.load_state-second.new.hand)
            c.if-second-record.true c.load_state-second.ensures,
      ),
    )

pub returns-then-second-record-clause-tells : goal.returns-then-second-record-clause-tells
returns-then-second-record-clause-tells c =
    let b = c.args.board.now in
    let n = c.load_value-value.new.hand in
    let r = c.find-record.result in
    read_value b c.args.hand.now c.find-record.new.hand n c.load_state-second.new.hand c.args.place
    r.place r.word _ c.requires c.find-record.ensures.found (c.in-Live.version, c.in-Live.ensures)
    c.load_value-value.ensures
    (subst (λ (word : ℕ). Makes b n (LoadState r.place word) c.load_state-second.new.hand)
    c.if-second-record.true c.load_state-second.ensures)

pub returns-else-second-record-clause-ready : goal.returns-else-second-record-clause-ready
returns-else-second-record-clause-ready c =
    let b = c.args.board.now in
    let n = c.load_value-value.new.hand in
    ready_on b n c.load_state-second.new.hand _ c.args.place tt c.load_state-second.ensures (λ z. z)
    (ready_on b c.find-record.new.hand n _ c.args.place tt c.load_value-value.ensures (λ z. z)
    c.find-record.ensures.ready)

pub returns-else-second-record-clause-steps : goal.returns-else-second-record-clause-steps
returns-else-second-record-clause-steps c = (
  c.load_value-value.result,
  c.find-record.new.hand,
  c.find-record.ensures.found.steps,
  (c.in-Live.version, c.in-Live.ensures),
  (c.load_value-value.new.hand, c.load_value-value.ensures, c.load_state-second.ensures),
  λ same. c.if-second-record.false (sym same),
)

pub returns-else-second-record-clause-tells : goal.returns-else-second-record-clause-tells
returns-else-second-record-clause-tells c =
    let b = c.args.board.now in
    let h = c.args.hand.now in
    let m = c.find-record.new.hand in
    let n = c.load_value-value.new.hand in
    let at : ℕ = c.find-record.result.place in
    let f = c.find-record.ensures in
    same_key_on b h n c.load_state-second.new.hand _ c.args.place at tt c.load_state-second.ensures
    (can_step_on b m n _ at tt c.load_value-value.ensures (λ z. z) f.can_step)
    (same_key_on b h m n _ c.args.place at tt c.load_value-value.ensures f.can_step f.found.same_key)
