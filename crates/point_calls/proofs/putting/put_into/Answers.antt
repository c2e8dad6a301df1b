use Rattle.std.proofs.Common.{subst}
use Rattle.point_calls.specs.Putting.{MayPutInto}
use Rattle.point_calls.proofs.putting.put_into.Goals as goal

pub returns-in-Tombstone-clause-spare : goal.returns-in-Tombstone-clause-spare
returns-in-Tombstone-clause-spare c = c.bring_back.ensures.ends.ended.rows c.args.spare.now c.requires.spare

pub link_new-requires-clause-spare : goal.link_new-requires-clause-spare
link_new-requires-clause-spare c =
    (subst (MayPutInto c.args.board.now c.args.start.now.value c.args.hand.now) c.in-Between.is
    c.requires.may).0.at.rows c.args.spare.now c.requires.spare
