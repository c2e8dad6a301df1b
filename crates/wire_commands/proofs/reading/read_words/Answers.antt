use Rattle.wire_commands.proofs.ReadingLaws.{empty_line, unknown_word, line_of_form}
use Rattle.wire_commands.proofs.reading.read_words.Goals as goal

pub returns-in_default : goal.returns-in_default
returns-in_default c = empty_line c.args.line.now c.requires c.in_default.ensures

pub returns-in_default-form_of : goal.returns-in_default-form_of
returns-in_default-form_of c =
    unknown_word c.args.line.now c.in-Some.keyword.now c.in-Some.rest.now c.requires
    c.in-Some.ensures
    c.in_default-form_of.ensures

pub returns : goal.returns
returns c =
    line_of_form c.args.line.now c.in-Some.keyword.now c.in-Some.rest.now c.in-Some-form_of.form
    c.read_numbers.result
    c.requires c.in-Some.ensures c.in-Some-form_of.ensures c.read_numbers.ensures
