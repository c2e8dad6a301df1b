use Rattle.clap.specs.Words.{found_of, rows_of}
use Rattle.command_line.proofs.ReadingLaws.{no_number, number_of_text, row_text}
use Rattle.command_line.proofs.values.number_in.Goals as goal

pub returns-in_err-get_str : goal.returns-in_err-get_str
returns-in_err-get_str c =
    let found = found_of c.args.matches.now in
    no_number c.args.least c.args.most (rows_of found) c.args.name.now _
    (row_text found c.args.name.now _ c.in_err-get_str.ensures) c.from_residual.ensures

pub returns : goal.returns
returns c =
    let found = found_of c.args.matches.now in
    number_of_text c.args.least c.args.most (rows_of found) c.args.name.now _ _
    (row_text found c.args.name.now _ c.in_ok-get_str.ensures) c.number_from.ensures
