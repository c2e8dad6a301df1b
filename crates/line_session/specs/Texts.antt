-- What was taken of a source, of which a whole text was to be read.
use Rattle.std.specs.Prelude.{◌≡◌, ℕ, ◌<◌, ◌≤◌, List, length}
use Rattle.std.specs.Io.KnownBytes.{prepend_known, IsAtEnd}
use Rattle.line_session.specs.declared.texts.TextError.{TextError}
use Rattle.line_session.specs.declared.texts.TextError.TheVariants.{ReadFault, Limit, Memory}
use Rattle.line_session.specs.Ends.{EndsState}

-- the text was taken, the input ended behind it, and the byte limit was not reached
pub record TakesText (most : ℕ) (old new : EndsState) (text : List ℕ) : Type 0 where
  pub took : old.left ≡ prepend_known text new.left
  pub at_end : IsAtEnd new.left
  pub below : length text < most

-- how many bytes were taken under the byte limit, by why they are no whole text
abbrev pub StopsAt : TextError → ℕ → ℕ → Type 0
StopsAt ReadFault most taken = taken < most
StopsAt Limit most taken = taken ≡ most
StopsAt Memory most taken = taken ≤ most

-- these bytes were taken, and for this cause they are no whole text
pub record TakesPart (most : ℕ) (old new : EndsState) (cause : TextError) : Type 0 where
  pub taken : List ℕ
  pub took : old.left ≡ prepend_known taken new.left
  pub stops : StopsAt cause most (length taken)
