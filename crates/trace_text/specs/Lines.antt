-- What one line of a trace says.
use Rattle.std.specs.Prelude.{◌≡◌, ℕ, ◌<◌, ◌≤◌, ◌⊎◌, List, [], ◌∷◌, length, codes}
use Rattle.wire_commands.specs.declared.request.Request.{Request}
use Rattle.wire_commands.specs.declared.request.Request.TheVariants.{Quit, Bad}
use Rattle.wire_commands.specs.Words.{HasWords}
use Rattle.wire_commands.specs.Numbers.{IsNumber, value_of}
use Rattle.wire_commands.specs.Grammar.{DropsReturn, Reads, longest}
use Rattle.trace_text.specs.declared.lines.Mark.{Mark}
use Rattle.trace_text.specs.declared.lines.Mark.TheVariants as mark
use Rattle.trace_text.specs.declared.lines.Line.{Line}
use Rattle.trace_text.specs.declared.lines.Line.TheVariants.{Skip, Phase, Caller, Call}

-- a whole line, as it stands before its newline, has these words
pub record HasWordsOf (whole : List ℕ) (words : List (List ℕ)) : Type 0 where
  pub line : List ℕ
  pub dropped : DropsReturn whole line
  pub has : HasWords line words

-- the line is a comment, which begins with #, or has no word
abbrev pub IsSkipped : List ℕ → Type 0
IsSkipped whole = ((rest : List ℕ) × (whole ≡ 35 ∷ rest)) ⊎ HasWordsOf whole []

-- the request is a call on the map
abbrev pub IsCall : Request → Type 0
IsCall Quit = ⊥
IsCall (Bad reason) = ⊥
IsCall call = Unit {0}

-- the word is the number of one of so many callers
pub record NamesCaller (callers : ℕ) (word : List ℕ) (caller : ℕ) : Type 0 where
  pub number : IsNumber word
  pub value : value_of word ≡ caller
  pub below : caller < callers

-- the line has one word, which is the number of one of so many callers
abbrev pub HasCaller : ℕ → List ℕ → ℕ → Type 0
HasCaller callers line caller =
    (word : List ℕ) × HasWords line (word ∷ []) × NamesCaller callers word caller

-- the first word of a mark's lines
abbrev pub keyword_of : Mark → List ℕ
keyword_of mark.Phase = codes "phase"
keyword_of mark.Caller = codes "caller"

-- the line is a mark of a phase or of a caller
abbrev pub IsMark : ℕ → List ℕ → Line → Type 0
IsMark callers whole Phase = HasWordsOf whole (keyword_of mark.Phase ∷ [])
IsMark callers whole (Caller caller) =
    (word : List ℕ) × HasWordsOf whole (keyword_of mark.Caller ∷ word ∷ [])
    × NamesCaller callers word caller
IsMark callers whole line = ⊥

-- the line has at most so many bytes as a line may have
abbrev pub Fits : List ℕ → Type 0
Fits whole = (line : List ℕ) → DropsReturn whole line → length line ≤ longest

-- the line of a trace for so many callers says this; only a line that is skipped may have any length
abbrev pub Says : ℕ → List ℕ → Line → Type 0
Says callers whole Skip = IsSkipped whole
Says callers whole (Call request) =
    (¬ (IsSkipped whole)) × Reads whole request × IsCall request
Says callers whole mark = (¬ (IsSkipped whole)) × Fits whole × IsMark callers whole mark

-- what a line of a trace for so many callers may say
abbrev pub IsLineFor : ℕ → Line → Type 0
IsLineFor callers (Caller caller) = caller < callers
IsLineFor callers (Call request) = IsCall request
IsLineFor callers line = Unit {0}

-- what a line of a trace may say, however many callers there are
abbrev pub IsLine : Line → Type 0
IsLine (Call request) = IsCall request
IsLine line = Unit {0}
