use Rattle.std.proofs.Common.{ℕ, Option, refl, subst}
use Rattle.tried_calls.specs.declared.tried.Tried.{Tried}
use Rattle.point_calls.specs.Removing.{RemoveTells}
use Rattle.xindex_core.specs.declared.held.Held.{Held}
use Rattle.xindex_core.proofs.HeldCalls.{held_can, is_held, is_later}
use Rattle.xindex_core.proofs.Inside.{remove_since, remove_tells}
use Rattle.xindex_core.proofs.held.Held.try_remove.Goals as goal

pub remove-requires : goal.remove-requires
remove-requires c = held_can c.args.index.now c.args.self.now c.requires

pub returns-clause-held : goal.returns-clause-held
returns-clause-held c =
    let held : Held =
    record { pass = record { hand = c.remove.new.hand; spare = c.args.self.now.pass.spare; probes = c.remove.new.probes } } in
    is_held c.args.index.now held c.remove.ensures.call (c.remove.ensures.rows _ c.requires.spare)

pub returns-clause-tries : goal.returns-clause-tries
returns-clause-tries c =
    let b = c.args.index.now.board in
    let h = c.args.self.now.pass.hand in
    let k = c.remove.new.hand in
    record {
      later = is_later b h k c.remove.ensures.call.of c.remove.ensures.number
          (remove_since b c.args.key h c.remove.result k c.remove.ensures.tells);
      ends = remove_tells b h k c.remove.ensures.number c.args.key c.remove.result c.remove.ensures.tells;
      section = c.remove.ensures.section;
      does = c.remove.ensures.tells;
      exchanges = c.remove.ensures.exchanges;
      full = λ is. absurd (subst
          (λ (z : Tried (Option ℕ)). RemoveTells b c.args.key h z k) is c.remove.ensures.tells);
      spare = refl;
      probes = c.remove.ensures.probes;
    }
