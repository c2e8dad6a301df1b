use Rattle.std.proofs.Common.{◌≡◌, take}
use Rattle.std.specs.Prelude.{fold}
use Rattle.clap.specs.Words.{app_of}
use Rattle.command_line.specs.Grammar.{table_of, with_option}
use Rattle.command_line.proofs.grammar.with_options.Given as goal

-- the command has the options so far
abbrev pub invariant-loop-name : goal.invariant-loop-name
invariant-loop-name l =
    app_of l.command ≡ fold with_option (app_of l.fn.bare) (table_of (take l.name-index l.options))
