use Rattle.std.proofs.Common.{◌≡◌, ◌∙◌, ap, ap₂, true}
use Rattle.std.proofs.lemmas.Result.{IfOk-weaker}
use Rattle.std.specs.Prelude.{fold}
use Rattle.clap.specs.Simple.{app_of_fields}
use Rattle.clap.specs.Words.{App, app_of, with_rule}
use Rattle.command_line.specs.Grammar.{bare_app, mode_app, options, table_of, the_app, with_option}
use Rattle.command_line.proofs.grammar.grammar.Goals as goal

abbrev unnamed : App → App
unnamed app = record app { top = record app.top { no_binary_name = true } }

abbrev helpless : App → App
helpless app = record app { top = record app.top { disable_help_flag = true } }

pub returns : goal.returns
unfolding the_app
returns c =
    let bare : app_of c.disable_help_flag.result ≡ bare_app = ap app_of_fields c.disable_help_flag.ensures
    ∙ ap helpless (ap app_of_fields c.no_binary_name.ensures ∙ ap unnamed c.new.ensures.app) in
    let mode : app_of c.in_ok-command.command ≡ mode_app =
    c.in_ok-command.ensures.shape c.positional.ensures.local ∙ ap₂ with_rule bare c.positional.ensures.rule in
    let table : table_of c.as_slice.result.now ≡ options = ap table_of c.as_slice.ensures in
    IfOk-weaker c.with_options.result _ _ (λ command adds. adds ∙ ap₂ (fold with_option) mode table)
    c.with_options.ensures
