use Rattle.std.proofs.Common.{◌∙◌, ap}
use Rattle.clap.specs.Words.{Rule, app_of, with_rule}
use Rattle.command_line.proofs.GrammarLaws.{table_more}
use Rattle.command_line.proofs.grammar.with_options.Goals as goal

pub loop-name-preserved : goal.loop-name-preserved
loop-name-preserved c =
    c.in_ok-command.ensures.shape c.option.ensures.local
    ∙ ap (λ (rule : Rule). with_rule (app_of c.loop-name.command) rule) c.option.ensures.rule
    ∙ table_more _ _ c.args.options.now c.loop-name.name-index _ c.loop-name-test.true c.loop-name.invariant
