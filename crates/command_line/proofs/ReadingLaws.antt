-- From what was found in the words to the command.
use Rattle.std.proofs.Common.{◌≡◌, ◌∙◌, ℕ, List, Option, Some, None, Err, IfOk, sym, subst}
use Rattle.std.specs.Prelude.{IfNone, IfSome, ok_or}
use Rattle.std.specs.Option.{SomeIff}
use Rattle.clap.proofs.WalkLemmas.{first_value-rows}
use Rattle.clap.specs.Walk.{Text}
use Rattle.clap.specs.Words.{Row, first_of, first_value, matches_of, rows_of}
use Rattle.clap.specs.declared.parser.matches.Found.{Found}
use Rattle.command_line.specs.Asked.{HasNumberAt, IsNumberFrom, number_at}
use Rattle.command_line.specs.Command.{AsksFor, IsCommand}
use Rattle.command_line.specs.Grammar.{IsTaken, the_app}
use Rattle.command_line.specs.declared.answers.Command.{Command}
use Rattle.command_line.specs.declared.answers.CommandError.TheVariants.{Usage}
use Rattle.wire_commands.specs.Numbers.{value_of}

-- what the getter gave for a name is the text of that name's row
pub row_text : (found : Found) (name : Text) (given : Option Text) → given ≡ first_value found name
    → first_of name (rows_of found) ≡ given
row_text found name given is = sym (first_value-rows found name) ∙ sym is

-- no text, and so no number
pub no_number : (least most : ℕ) (found : List Row) (name : Text) (number : Option ℕ) → first_of name found ≡ None
    → number ≡ None → SomeIff number (HasNumberAt least most found name) (number_at found name)
no_number least most found name number absent none = rw (none, absent) (λ impossible. impossible)

-- the number of the text that was found
pub number_of_text : (least most : ℕ) (found : List Row) (name text : Text) (number : Option ℕ)
    → first_of name found ≡ Some text → SomeIff number (IsNumberFrom least most text) (value_of text)
    → SomeIff number (HasNumberAt least most found name) (number_at found name)
number_of_text least most found name text number given is = rw given is

module _ (words : List Text) (found : List Row) (is : found ≡ matches_of the_app words) where
  pub found_command : (asked : Option Command) → IsTaken words → IfSome asked (AsksFor found)
      → IfOk (ok_or asked Usage) (IsCommand words)
  found_command None taken asks = tt
  found_command (Some command) taken asks = (taken, subst (λ (rows : List Row). AsksFor rows command) is asks)

  pub no_command : (asked : Option Command) → IfNone asked ((command : Command) → AsksFor found command → ⊥)
      → ok_or asked Usage ≡ Err Usage → (command : Command) → IsCommand words command → ⊥
  no_command None none usage command asks =
      none command (subst (λ (rows : List Row). AsksFor rows command) (sym is) asks.1)
  no_command (Some other) none usage command asks = cc
