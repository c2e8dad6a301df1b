use Rattle.wire_commands.proofs.FeedLaws.{stands_for_bytes}
use Rattle.wire_commands.proofs.feed.Feed.finish_with.Goals as goal

pub returns-then-self-gt0-clause-reads : goal.returns-then-self-gt0-clause-reads
returns-then-self-gt0-clause-reads c = λ line stands.
    c.finish.ensures.reads _ (rw c.keep.ensures (stands_for_bytes c.args.self.now line c.args.front.now stands))
