-- What holds of all texts and all lines, as statements.
use Rattle.std.specs.Prelude.{◌≡◌, ℕ, ◌^◌, ◌<◌, Bool, List, [], ◌∷◌, ◌++◌, codes}
use Rattle.wire_commands.specs.declared.request.Request.TheVariants.{Get, Put, Remove}
use Rattle.wire_commands.specs.Stream.{HasNoNewline}
use Rattle.trace_text.specs.declared.lines.Line.{Line}
use Rattle.trace_text.specs.declared.lines.Line.TheVariants.{Phase, Caller, Call}
use Rattle.trace_text.specs.declared.plays.Play.{Play}
use Rattle.trace_text.specs.declared.plays.Play.TheVariants.{Ask, Hold, Free, Probes, Layout}
use Rattle.trace_text.specs.Lines.{Says}
use Rattle.trace_text.specs.Plays.{SaysPlay}
use Rattle.trace_text.specs.Text.{behind_caller, number_line, pair_line}
use Rattle.trace_text.specs.TextLines.{HasFirstBadLine, HasLines, LinesTell}

-- each text has its lines, and no others
abbrev pub TextsHaveLines : Type 0
TextsHaveLines =
    (text : List ℕ) → (lines : List (List ℕ)) × HasLines text lines
    × ((others : List (List ℕ)) → HasLines text others → others ≡ lines)

-- no line says two things
abbrev pub SaysOneThing : {Said : Type 0} → (List ℕ → Said → Type 0) → Type 0
SaysOneThing {Said} Says =
    (whole : List ℕ) (said other : Said) → Says whole said → Says whole other → said ≡ other

-- a text is read in one way: its lines tell one list, or one of them is the first bad one
pub record IsReadOnce {Said : Type 0} (Says : List ℕ → Said → Type 0) (is_told : Said → Bool)
    (text : List ℕ) : Type 0 where
  pub one_list : (told other : List Said) → LinesTell Says is_told text told
      → LinesTell Says is_told text other → told ≡ other
  pub one_bad : (number other : ℕ) → HasFirstBadLine Says text number
      → HasFirstBadLine Says text other → number ≡ other
  pub not_both : (told : List Said) (number : ℕ) → LinesTell Says is_told text told
      → ¬ (HasFirstBadLine Says text number)

-- the bytes are one line with its newline, and the line says this
abbrev pub IsWrittenAs : {Said : Type 0} → (List ℕ → Said → Type 0) → List ℕ → Said → Type 0
IsWrittenAs Says bytes said =
    (whole : List ℕ) × HasNoNewline whole × (bytes ≡ whole ++ 10 ∷ []) × Says whole said

-- the bytes are a line of a trace for so many callers, which says this
abbrev pub WritesLine : ℕ → List ℕ → Line → Type 0
WritesLine callers bytes said = IsWrittenAs (Says callers) bytes said

-- the bytes are a line of a replay for so many callers, which says this
abbrev pub WritesPlay : ℕ → List ℕ → Play → Type 0
WritesPlay callers bytes play = IsWrittenAs (SaysPlay callers) bytes play

-- what is written of marks and calls, with numbers of 64 bits, is read as these
pub record WrittenIsRead (callers : ℕ) : Type 0 where
  pub phase : WritesLine callers (codes "phase\n") Phase
  pub caller : (caller : ℕ) → caller < callers → caller < 2 ^ 64
      → WritesLine callers (number_line (codes "caller ") caller) (Caller caller)
  pub get : (key : ℕ) → key < 2 ^ 64
      → WritesLine callers (number_line (codes "get ") key) (Call (Get key))
  pub put : (key value : ℕ) → key < 2 ^ 64 → value < 2 ^ 64
      → WritesLine callers (pair_line (codes "put ") key value) (Call (Put key value))
  pub remove : (key : ℕ) → key < 2 ^ 64
      → WritesLine callers (number_line (codes "remove ") key) (Call (Remove key))

-- what is written of a caller's plays, with numbers of 64 bits, is read as these
pub record WrittenIsPlayed (callers caller : ℕ) : Type 0 where
  pub get : (key : ℕ) → key < 2 ^ 64
      → WritesPlay callers (behind_caller caller (number_line (codes "get ") key))
      (Ask caller (Get key))
  pub put : (key value : ℕ) → key < 2 ^ 64 → value < 2 ^ 64
      → WritesPlay callers (behind_caller caller (pair_line (codes "put ") key value))
      (Ask caller (Put key value))
  pub remove : (key : ℕ) → key < 2 ^ 64
      → WritesPlay callers (behind_caller caller (number_line (codes "remove ") key))
      (Ask caller (Remove key))
  pub hold : WritesPlay callers (behind_caller caller (codes "hold\n")) (Hold caller)
  pub free : WritesPlay callers (behind_caller caller (codes "free\n")) (Free caller)
  pub probes : WritesPlay callers (behind_caller caller (codes "probes\n")) (Probes caller)
  pub layout : WritesPlay callers (codes "layout\n") Layout
