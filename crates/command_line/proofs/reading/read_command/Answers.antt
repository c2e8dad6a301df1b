use Rattle.std.proofs.Common.{◌∙◌, ap, sym}
use Rattle.std.proofs.lemmas.Result.{IfOk-weaker}
use Rattle.clap.specs.Words.{App, is_simple, is_simple_and_free, fault_of, matches_of}
use Rattle.command_line.specs.Command.{texts_of}
use Rattle.command_line.proofs.CommandLaws.{keeps_bounds}
use Rattle.command_line.proofs.GrammarLaws.{memory_alone, the_app-is_free, the_app-is_simple}
use Rattle.command_line.proofs.ReadingLaws.{found_command, no_command}
use Rattle.command_line.proofs.reading.read_command.Goals as goal

pub returns-in_err-matches-clause-usage_only_for_no_command : goal.returns-in_err-matches-clause-usage_only_for_no_command
returns-in_err-matches-clause-usage_only_for_no_command c = λ usage command asks.
    let memory = memory_alone (texts_of c.args.words.now) _ c.in_err-matches.field-0.0 c.in_ok-grammar.ensures c.in_err-matches.ensures.kinds asks.0 in
    let cause = rw (usage, memory) at c.from_residual-in_err-matches.ensures.1 in
    cc

pub returns-clause-ok : goal.returns-clause-ok
returns-clause-ok c =
    let words = texts_of c.args.words.now in
    let is = c.in_ok-grammar.ensures in
    let found = (c.in_ok-matches.ensures.matches (ap is_simple is ∙ the_app-is_simple)).0
    ∙ ap (λ (app : App). matches_of app words) is in
    let taken = sym (ap (λ (app : App). fault_of app words) is)
    ∙ c.in_ok-matches.ensures.kinds (ap is_simple_and_free is ∙ the_app-is_free) in
    rw c.ok_or.ensures.value (found_command words _ found _ taken c.command_in.ensures.some)

pub returns-clause-bounds : goal.returns-clause-bounds
returns-clause-bounds c =
    IfOk-weaker c.ok_or.result _ _ (keeps_bounds (texts_of c.args.words.now)) (returns-clause-ok c)

pub returns-clause-usage_only_for_no_command : goal.returns-clause-usage_only_for_no_command
returns-clause-usage_only_for_no_command c = λ usage.
    let words = texts_of c.args.words.now in
    let is = c.in_ok-grammar.ensures in
    let found = (c.in_ok-matches.ensures.matches (ap is_simple is ∙ the_app-is_simple)).0
    ∙ ap (λ (app : App). matches_of app words) is in
    no_command words _ found _ c.command_in.ensures.none (sym c.ok_or.ensures.value ∙ usage)
