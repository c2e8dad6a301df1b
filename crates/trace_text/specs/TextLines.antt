-- The lines of a text, and what they say, whatever kind of line they are.
use Rattle.std.specs.Prelude.{◌≡◌, ◌≢◌, ℕ, ◌+◌, ◌<◌, ◌⊎◌, Bool, List, [], ◌∷◌, ◌++◌, length}
use Rattle.std.specs.List.{AllByRecursion, AllZip, filter}
use Rattle.wire_commands.specs.Stream.{HasNoNewline}
use Rattle.trace_text.specs.declared.traces.TraceError.{TraceError}
use Rattle.trace_text.specs.declared.traces.TraceError.TheVariants.{BadLine, Memory}

-- the text begins with this line, and this follows it; the last line may lack its newline
pub record CutsLine (text line rest : List ℕ) : Type 0 where
  pub whole : HasNoNewline line
  pub cut : (text ≡ line ++ 10 ∷ rest) ⊎ ((text ≡ line) × (line ≢ []) × (rest ≡ []))

-- these are the lines of the text, from the first to the last
abbrev pub HasLines : List ℕ → List (List ℕ) → Type 0
HasLines text [] = text ≡ []
HasLines text (line ∷ lines) = (rest : List ℕ) × CutsLine text line rest × HasLines rest lines

-- what is left of a text, and how many lines were taken from its front
pub record Left : Type 0 where
  pub rest : List ℕ
  pub number : ℕ

-- one more line was taken
pub record TakesLine (old : Left) (line : List ℕ) (new : Left) : Type 0 where
  pub cuts : CutsLine old.rest line new.rest
  pub counted : new.number ≡ old.number + 1
  pub shorter : length new.rest < length old.rest

-- the lines of the text say this, in their order, without what is not to be told
pub record LinesTell {Said : Type 0} (Says : List ℕ → Said → Type 0) (is_told : Said → Bool)
    (text : List ℕ) (told : List Said) : Type 0 where
  pub lines : List (List ℕ)
  pub cut : HasLines text lines
  pub said : List Said
  pub each : AllZip Says lines said
  pub told_are : told ≡ filter is_told said

-- some line of the text is bad, and the first such line has this number, from 1 over all lines
pub record HasFirstBadLine {Said : Type 0} (Says : List ℕ → Said → Type 0) (text : List ℕ)
    (number : ℕ) : Type 0 where
  pub before : List (List ℕ)
  pub bad : List ℕ
  pub after : List (List ℕ)
  pub cut : HasLines text (before ++ bad ∷ after)
  pub good : AllByRecursion (λ line. (said : Said) × Says line said) before
  pub is_bad : (said : Said) → ¬ (Says bad said)
  pub counted : number ≡ length before + 1

-- why a text is not read as lines that say such things; want of memory has no cause
abbrev pub IsCauseBy : {Said : Type 0} → (List ℕ → Said → Type 0) → List ℕ → TraceError → Type 0
IsCauseBy Says text (BadLine number) = HasFirstBadLine Says text number
IsCauseBy Says text Memory = Unit {0}
