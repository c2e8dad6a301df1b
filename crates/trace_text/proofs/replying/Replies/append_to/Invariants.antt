use Rattle.std.proofs.Common.{◌≡◌, ◌++◌, length}
use Rattle.std.specs.List.{flat_map}
use Rattle.wire_commands.specs.Replies.{line_of}
use Rattle.trace_text.proofs.replying.Replies.append_to.Given as goal

-- the lines so far were appended, and those of the replies that are left are still to come
abbrev pub invariant-loop-reply : goal.invariant-loop-reply
invariant-loop-reply l =
    l.text.items ++ flat_map line_of l.left ≡ l.initial.text.items ++ flat_map line_of l.self.replies

abbrev pub decreases-loop-reply : goal.decreases-loop-reply
decreases-loop-reply l = length l.left
