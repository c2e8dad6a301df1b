use Rattle.wire_commands.proofs.FeedLaws.{keeps_byte, forgets_byte}
use Rattle.wire_commands.proofs.feed.Feed.byte.Goals as goal

pub returns-then-self-lt-ROOM : goal.returns-then-self-lt-ROOM
returns-then-self-lt-ROOM c =
    keeps_byte c.self.inside.kept c.args.self.now c.self.inside.len c.args.byte c.self.view_is
    c.self.told
    c.if-self-lt-ROOM.true c.if-byte-eq10.false

pub returns-else-self-lt-ROOM : goal.returns-else-self-lt-ROOM
returns-else-self-lt-ROOM c =
    forgets_byte c.self.inside.kept c.args.self.now c.self.inside.len c.args.byte c.self.view_is
    c.self.told
    c.if-self-lt-ROOM.false c.if-byte-eq10.false
