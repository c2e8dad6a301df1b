-- There are as many replies as were appended, and room for all.
use Rattle.std.proofs.Common.{◌≡◌, length}
use Rattle.base_tests.proofs.transcripts.replies_of.Given as goal

abbrev pub invariant-loop-reply : goal.invariant-loop-reply
invariant-loop-reply l = record {
  many : length l.replies.replies ≡ l.reply-index;
  room : l.replies.room ≡ length l.list;
}
