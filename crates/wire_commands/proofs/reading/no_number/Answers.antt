use Rattle.wire_commands.proofs.WordLaws.{some_word}
use Rattle.wire_commands.proofs.reading.no_number.Goals as goal

pub returns-else-has_no_word : goal.returns-else-has_no_word
returns-else-has_no_word c =
    some_word c.args.line.now (λ none. absurd (cc (c.has_no_word.ensures.1 none)))
