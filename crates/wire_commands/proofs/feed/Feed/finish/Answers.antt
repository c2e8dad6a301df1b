use Rattle.std.proofs.Common.{subst}
use Rattle.wire_commands.specs.Grammar.{Reads}
use Rattle.wire_commands.proofs.FeedLaws.{kept_reads}
use Rattle.wire_commands.proofs.feed.Feed.finish.Goals as goal

pub returns-clause-reads : goal.returns-clause-reads
returns-clause-reads c =
    kept_reads c.args.self.now c.read_line-request.result
    (subst (λ kept. Reads kept c.read_line-request.result) c.self.view_is
    c.read_line-request.ensures.reads)
