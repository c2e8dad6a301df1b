use Rattle.std.proofs.Common.{ℕ, inl, Some, refl, subst, true, false}
use Rattle.map_model.specs.declared.entries.Change.{Change}
use Rattle.index_machine.specs.declared.events.Action.TheVariants.{Unlock}
use Rattle.index_rule.specs.Hands.{Makes, known, opening_of}
use Rattle.index_rule.specs.Records.{unlocked_word}
use Rattle.index_rule.specs.Moments.{AddsChange}
use Rattle.record_cell.specs.Writes.{remove_at}
use Rattle.record_cell.proofs.Changed.{adds_change, loaded_holds, loaded_is, locked_holds}
use Rattle.record_cell.proofs.Changed.{may_release, released, remove_is}
use Rattle.record_cell.proofs.changing.kill.Goals as goal

pub store_unlock-requires-clause-may : goal.store_unlock-requires-clause-may
store_unlock-requires-clause-may c =
    let b = c.args.board.now in
    let h = c.args.hand.now in
    let k = c.lock_live.new.hand in
    let n = c.load_value-old.new.hand in
    let l = c.in-Ok.ensures.answer in
    let held = locked_holds b h k c.args.place c.in-Ok.at c.requires.of c.lock_live.ensures.number l in
    let loaded = loaded_holds b h k n c.args.place c.in-Ok.at l.version false l.value l.value held
    c.load_value-old.result c.load_value-old.ensures in
    may_release b h n n c.args.place c.in-Ok.at l.version false l.value l.value loaded true
    (inl refl)

pub returns-in-Ok-clause-ready : goal.returns-in-Ok-clause-ready
returns-in-Ok-clause-ready c =
    let b = c.args.board.now in
    let h = c.args.hand.now in
    let k = c.lock_live.new.hand in
    let n = c.load_value-old.new.hand in
    let l = c.in-Ok.ensures.answer in
    let held = locked_holds b h k c.args.place c.in-Ok.at c.requires.of c.lock_live.ensures.number l in
    let loaded = loaded_holds b h k n c.args.place c.in-Ok.at l.version false l.value l.value held
    c.load_value-old.result c.load_value-old.ensures in
    released b h n c.store_unlock.new.hand c.args.place c.in-Ok.at l.version false l.value l.value
    loaded true _ _ c.store_unlock.ensures

pub returns-in-Ok-clause-steps : goal.returns-in-Ok-clause-steps
returns-in-Ok-clause-steps c =
    let b = c.args.board.now in
    let h = c.args.hand.now in
    let k = c.lock_live.new.hand in
    let n = c.load_value-old.new.hand in
    let l = c.in-Ok.ensures.answer in
    let held = locked_holds b h k c.args.place c.in-Ok.at c.requires.of c.lock_live.ensures.number l in
    let loaded = loaded_holds b h k n c.args.place c.in-Ok.at l.version false l.value l.value held
    c.load_value-old.result c.load_value-old.ensures in
    let gone = remove_is b h n n c.args.place c.in-Ok.at l.version false l.value l.value loaded in
    let word : ℕ = unlocked_word (opening_of b) c.in-Ok.at true (known n) in (
      c.in-Ok.at,
      l.word,
      word,
      l.found,
      l.finds,
      (l.version, l.unlocked),
      (
        n,
        (k, (l.found, refl, l.locks), c.load_value-old.ensures),
        subst (λ (d : Change). Makes b n (Unlock c.in-Ok.at true d word) c.store_unlock.new.hand) gone
            c.store_unlock.ensures,
      ),
    )

pub returns-in-Ok-clause-tells : goal.returns-in-Ok-clause-tells
returns-in-Ok-clause-tells c =
    let b = c.args.board.now in
    let h = c.args.hand.now in
    let k = c.lock_live.new.hand in
    let n = c.load_value-old.new.hand in
    let l = c.in-Ok.ensures.answer in
    let held = locked_holds b h k c.args.place c.in-Ok.at c.requires.of c.lock_live.ensures.number l in
    let loaded = loaded_holds b h k n c.args.place c.in-Ok.at l.version false l.value l.value held
    c.load_value-old.result c.load_value-old.ensures in
    let gone = remove_is b h n n c.args.place c.in-Ok.at l.version false l.value l.value loaded in
    let was = loaded_is b h k n c.args.place c.in-Ok.at l.version false l.value l.value held
    c.load_value-old.result c.load_value-old.ensures in
    let word : ℕ = unlocked_word (opening_of b) c.in-Ok.at true (known n) in
    let last = subst (λ (d : Change). Makes b n (Unlock c.in-Ok.at true d word) c.store_unlock.new.hand)
    gone c.store_unlock.ensures in
    subst
    (λ (z : ℕ). AddsChange b h (remove_at b h c.args.place) (Some z) c.store_unlock.new.hand) was
    (adds_change b h n c.store_unlock.new.hand c.args.place c.in-Ok.at l.version false l.value l.value
    loaded true (remove_at b h c.args.place) word last refl refl)
