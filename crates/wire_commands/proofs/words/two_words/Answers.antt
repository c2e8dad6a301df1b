use Rattle.wire_commands.proofs.WordLaws.{other_count_before}
use Rattle.wire_commands.proofs.words.two_words.Goals as goal

pub returns-in_err-second : goal.returns-in_err-second
returns-in_err-second c =
    rw c.from_residual-in_err-second.ensures
    (other_count_before _ _ _ 1 c.in_ok-first.ensures c.in_err-second.ensures)
