use Rattle.std.proofs.Common.{◌∙◌, Some, ap, sym}
use Rattle.clap.specs.Words.{found_of}
use Rattle.command_line.specs.Grammar.{mix_name, print_name}
use Rattle.command_line.proofs.ReadingLaws.{row_text}
use Rattle.command_line.proofs.recipes.recipe_in.Goals as goal

pub returns-in_err-get_str-clause-none : goal.returns-in_err-get_str-clause-none
returns-in_err-get_str-clause-none c =
    let absent = row_text (found_of c.args.matches.now) mix_name _ c.in_err-get_str.ensures in
    rw c.from_residual.ensures (λ recipe asks. rw absent at asks.mix)

pub returns-in_err-mix-clause-none : goal.returns-in_err-mix-clause-none
returns-in_err-mix-clause-none c =
    let given = row_text (found_of c.args.matches.now) mix_name _ c.in_ok-get_str.ensures in
    rw c.from_residual-in_err-mix.ensures (λ recipe asks.
    let named = rw given at asks.mix in c.in_err-mix.ensures.none recipe.mix named)

pub returns-in_err-get_str-2-clause-none : goal.returns-in_err-get_str-2-clause-none
returns-in_err-get_str-2-clause-none c =
    let absent = row_text (found_of c.args.matches.now) print_name _ c.in_err-get_str-2.ensures in
    rw c.from_residual-in_err-get_str-2.ensures (λ recipe asks. let clash = sym absent ∙ asks.print in cc)

pub returns-in_err-print-clause-none : goal.returns-in_err-print-clause-none
returns-in_err-print-clause-none c =
    let given = row_text (found_of c.args.matches.now) print_name _ c.in_ok-get_str-2.ensures in
    rw c.from_residual-in_err-print.ensures (λ recipe asks.
    let both = sym asks.print ∙ given in c.in_err-print.ensures.none recipe.print (cc))

pub returns-clause-some : goal.returns-clause-some
returns-clause-some c =
    let mix_given = row_text (found_of c.args.matches.now) mix_name _ c.in_ok-get_str.ensures in
    let print_given = row_text (found_of c.args.matches.now) print_name _ c.in_ok-get_str-2.ensures in
    record {
      mix = rw mix_given c.in_ok-mix.ensures.some;
      load = c.in_ok-load.ensures;
      ops = c.in_ok-ops.ensures;
      seed = c.in_ok-seed.ensures;
      print = print_given ∙ ap Some (sym c.in_ok-print.ensures.some);
    }
