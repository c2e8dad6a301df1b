use Rattle.std.proofs.Common.{arith, ap, length}
use Rattle.trace_text.specs.KeptReplies.{Kept}
use Rattle.trace_text.proofs.ReplyLaws.{as_many}
use Rattle.trace_text.proofs.replying.Replies.len.Goals as goal

pub returns : goal.returns
returns c =
    let many = as_many c.self.inside.kinds.items c.self.inside.words.items c.self.invariant.kept in
    let same = ap (λ (k : Kept). length k.replies) c.self.view_is in
    let len = c.len.ensures in
    omega arith
