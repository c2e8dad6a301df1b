use Rattle.std.proofs.Common.{◌∙◌, Some, ap, sym}
use Rattle.clap.specs.Words.{found_of}
use Rattle.command_line.specs.Grammar.{mode_name}
use Rattle.command_line.proofs.ReadingLaws.{row_text}
use Rattle.command_line.proofs.reading.command_in.Goals as goal

pub returns-in_err-get_str-clause-none : goal.returns-in_err-get_str-clause-none
returns-in_err-get_str-clause-none c =
    let absent = row_text (found_of c.args.matches.now) mode_name _ c.in_err-get_str.ensures in
    rw c.from_residual.ensures (λ command asks. let clash = sym absent ∙ asks.mode in cc)

pub returns-in_err-mode-clause-none : goal.returns-in_err-mode-clause-none
returns-in_err-mode-clause-none c =
    let given = row_text (found_of c.args.matches.now) mode_name _ c.in_ok-get_str.ensures in
    rw c.from_residual-in_err-mode.ensures (λ command asks.
    let both = sym asks.mode ∙ given in c.in_err-mode.ensures.none command.mode (cc))

pub returns-clause-some : goal.returns-clause-some
returns-clause-some c =
    let given = row_text (found_of c.args.matches.now) mode_name _ c.in_ok-get_str.ensures in
    record {
      mode = given ∙ ap Some (sym c.in_ok-mode.ensures.some);
      bytes = c.in_ok-bytes.ensures;
      numbers = c.in_ok-limits.ensures.0;
      limits = c.in_ok-limits.ensures.1;
      recipe = c.in_ok-recipe.ensures.some;
    }
