use Rattle.std.proofs.Common.{false, ap, inl, refl, arith}
use Rattle.word_layout.specs.State.{IsUnlockedWord}
use Rattle.index_machine.specs.declared.events.Action.TheVariants.{Lock}
use Rattle.index_machine.specs.Forms.{is_removed}
use Rattle.index_rule.proofs.RecordStepping.{locked_after_lock, still_at}
use Rattle.index_tests.proofs.records.take_lock.Goals as goal

pub swap_lock-requires-clause-lockable : goal.swap_lock-requires-clause-lockable
swap_lock-requires-clause-lockable g c = (0, false, record { is = refl; raisable = omega arith })

pub returns-clause-may : goal.returns-clause-may
returns-clause-may g c =
    let b = c.args.board.now in
    let h = c.args.hand.now in
    let k = c.swap_lock.new.hand in
    let place = c.args.place in
    let of = c.requires.of in
    let locks = c.in-Done.ensures in
    let unlocked : IsUnlockedWord 0 false 0 = record { is = refl; raisable = omega arith } in
    let locked = locked_after_lock b h k place 0 0 false of locks unlocked in
    record {
      holds = record {
        there = still_at b h k (Lock place 0) of locks tt place c.requires.at_own.there;
        locked = (0, false, locked.0, locked.0, locked.2);
      };
      live = inl (ap is_removed locked.2);
    }
