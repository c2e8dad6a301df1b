-- Words without a mode, with two modes or with an option given twice are refused.
use Rattle.std.proofs.Common.{◌≡◌, ◌++◌, ◌∙◌, List, [], ◌∷◌, sym}
use Rattle.std.specs.List.{AllByRecursion}
use Rattle.clap.specs.Walk.{Text}
use Rattle.clap.specs.Words.{fault_of}
use Rattle.clap.specs.declared.error.kind.ErrorKind.{ErrorKind}
use Rattle.clap.specs.declared.error.kind.ErrorKind.TheVariants.{ArgumentConflict, MissingRequiredArgument}
use Rattle.command_line.specs.Command.{IsCommand}
use Rattle.command_line.specs.Forms.{EachIsGivenOnce, alone, one_word}
use Rattle.command_line.specs.Grammar.{IsTaken, options, the_app}
use Rattle.command_line.specs.declared.answers.Command.{Command}
use Rattle.command_line.specs.declared.answers.Mode.{Mode}
use Rattle.command_line.proofs.FormTexts.{no_mode, two_modes, two_options}

-- words with a fault are not taken
refused : (words : List Text) (kind : ErrorKind) → fault_of the_app words ≡ kind ∷ [] → IsTaken words → ⊥
refused words kind fault taken = let clash = sym taken ∙ fault in cc

-- words without a mode are refused
abbrev RefusesNone : Text → Text × Text → Type 0
RefusesNone value option = (command : Command) → IsCommand (one_word option.0 value) command → ⊥

none_refused : (value : Text) (table : List (Text × Text))
    → AllByRecursion (λ option. fault_of the_app (one_word option.0 value) ≡ MissingRequiredArgument ∷ []) table
    → AllByRecursion (RefusesNone value) table
none_refused value [] faults = tt
none_refused value (option ∷ table) faults =
    (λ command asks. refused _ _ faults.0 asks.0, none_refused value table faults.1)

none_at_all_values : (table : List (Text × Text)) → ((value : Text) → AllByRecursion (RefusesNone value) table)
    → AllByRecursion (λ option. (value : Text) → RefusesNone value option) table
none_at_all_values [] all = tt
none_at_all_values (option ∷ table) all =
    (λ value. (all value).0, none_at_all_values table (λ value. (all value).1))

-- words that give the option twice are refused
module _ (mode : Mode) where
  abbrev RefusesTwo : Text → Text → Text × Text → Type 0
  RefusesTwo one other option =
      (command : Command) → IsCommand (alone mode ++ one_word option.0 one ++ one_word option.0 other) command → ⊥

  two_refused : (one other : Text) (table : List (Text × Text))
      → AllByRecursion (λ option. fault_of the_app (alone mode ++ one_word option.0 one ++ one_word option.0 other)
      ≡ ArgumentConflict ∷ []) table
      → AllByRecursion (RefusesTwo one other) table
  two_refused one other [] faults = tt
  two_refused one other (option ∷ table) faults =
      (λ command asks. refused _ _ faults.0 asks.0, two_refused one other table faults.1)

  two_at_all_values : (table : List (Text × Text)) → ((one other : Text) → AllByRecursion (RefusesTwo one other) table)
      → AllByRecursion (λ option. (one other : Text) → RefusesTwo one other option) table
  two_at_all_values [] all = tt
  two_at_all_values (option ∷ table) all =
      (λ one other. (all one other).0, two_at_all_values table (λ one other. (all one other).1))

pub given_once : EachIsGivenOnce
given_once = record {
  no_mode = none_at_all_values options (λ value. none_refused value options (no_mode value));
  two_modes = λ one other command asks. refused (alone one ++ alone other) _ (two_modes one other) asks.0;
  two_options = λ mode.
      two_at_all_values mode options (λ one other. two_refused mode one other options (two_options mode one other));
}
