use Rattle.wire_commands.proofs.WordLaws.{some_words, same_words}
use Rattle.wire_commands.proofs.laws.each_line_has_its_words.Goals as goal

pub returns : goal.returns
returns c = λ line.
    let words = some_words line in
    (words.0, words.1, λ others has. same_words line others words.0 has words.1)
