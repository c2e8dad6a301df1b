use Rattle.xindex_core.specs.declared.held.Held.{Held}
use Rattle.xindex_core.proofs.HeldCalls.{held_can, is_held, is_later}
use Rattle.xindex_core.proofs.Inside.{put_since, put_tells}
use Rattle.xindex_core.proofs.held.Held.try_put.Goals as goal

pub put-requires-clause-call : goal.put-requires-clause-call
put-requires-clause-call c = held_can c.args.index.now c.args.self.now c.requires

pub returns-clause-held : goal.returns-clause-held
returns-clause-held c =
    let held : Held =
    record { pass = record { hand = c.put.new.hand; spare = c.put.new.spare; probes = c.put.new.probes } } in
    is_held c.args.index.now held c.put.ensures.call c.put.ensures.spare

pub returns-clause-tries : goal.returns-clause-tries
returns-clause-tries c =
    let b = c.args.index.now.board in
    let h = c.args.self.now.pass.hand in
    let k = c.put.new.hand in
    record {
      later = is_later b h k c.put.ensures.call.of c.put.ensures.number
          (put_since b c.args.key c.args.value h c.put.result k c.put.ensures.tells);
      ends = put_tells b h k c.put.ensures.number c.args.key c.args.value c.put.result c.put.ensures.tells;
      section = c.put.ensures.section;
      does = c.put.ensures.tells;
      exchanges = c.put.ensures.exchanges;
      full = c.put.ensures.full;
      spare = (c.put.ensures.kept, c.put.ensures.none);
      probes = c.put.ensures.probes;
    }
