use Rattle.std.proofs.Common.{ℕ, Option, refl, subst}
use Rattle.tried_calls.specs.declared.tried.Tried.{Tried}
use Rattle.point_calls.specs.Getting.{GetTells}
use Rattle.xindex_core.specs.declared.held.Held.{Held}
use Rattle.xindex_core.proofs.HeldCalls.{held_can, is_held, is_later}
use Rattle.xindex_core.proofs.Inside.{get_since, get_tells}
use Rattle.xindex_core.proofs.held.Held.try_get.Goals as goal

pub get-requires : goal.get-requires
get-requires c = held_can c.args.index.now c.args.self.now c.requires

pub returns-clause-held : goal.returns-clause-held
returns-clause-held c =
    let held : Held =
    record { pass = record { hand = c.get.new.hand; spare = c.args.self.now.pass.spare; probes = c.get.new.probes } } in
    is_held c.args.index.now held c.get.ensures.call (c.get.ensures.rows _ c.requires.spare)

pub returns-clause-tries : goal.returns-clause-tries
returns-clause-tries c =
    let b = c.args.index.now.board in
    let h = c.args.self.now.pass.hand in
    let k = c.get.new.hand in
    record {
      later = is_later b h k c.get.ensures.call.of c.get.ensures.number
          (get_since b c.args.key h c.get.result k c.get.ensures.tells);
      ends = get_tells b h k c.get.ensures.number c.args.key c.get.result c.get.ensures.tells;
      section = c.get.ensures.section;
      does = c.get.ensures.tells;
      exchanges = c.get.ensures.exchanges;
      full = λ is. absurd (subst
          (λ (z : Tried (Option ℕ)). GetTells b c.args.key h z k) is c.get.ensures.tells);
      spare = refl;
      probes = c.get.ensures.probes;
    }
