use Rattle.wire_commands.proofs.WordLaws.{some_word, other_count_before}
use Rattle.wire_commands.proofs.words.only_word.Goals as goal

pub returns-else-has_no_word : goal.returns-else-has_no_word
returns-else-has_no_word c =
    other_count_before _ _ _ 0 c.in_ok-word.ensures
    (some_word c.in_ok-word.rest.now (λ none. absurd (cc (c.has_no_word.ensures.1 none))))
