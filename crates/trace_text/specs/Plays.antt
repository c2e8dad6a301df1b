-- What one line of a replay says, and a text as a replay.
use Rattle.std.specs.Prelude.{◌≡◌, ℕ, ◌<◌, ◌≤◌, Bool, true, false, List, [], ◌∷◌, length, codes}
use Rattle.wire_commands.specs.Words.{HasWords}
use Rattle.wire_commands.specs.Grammar.{DropsReturn, longest, Means, Reads}
use Rattle.trace_text.specs.declared.plays.Play.{Play}
use Rattle.trace_text.specs.declared.plays.Play.TheVariants.{Skip, Ask, Hold, Free, Probes, Layout}
use Rattle.trace_text.specs.Lines.{HasWordsOf, IsCall, IsSkipped, NamesCaller}
use Rattle.trace_text.specs.TextLines.{LinesTell}

-- ---- one line ----

-- the words are the number of one of so many callers, and then these others
abbrev pub AreOf : ℕ → List (List ℕ) → ℕ → List (List ℕ) → Type 0
AreOf callers words caller others =
    (word : List ℕ) × (words ≡ word ∷ others) × NamesCaller callers word caller

-- the line with these words is a play of one of so many callers, or of none
abbrev pub IsPlay : ℕ → List ℕ → List (List ℕ) → Play → Type 0
IsPlay callers line words Skip = ⊥
IsPlay callers line words (Ask caller request) =
    (others : List (List ℕ)) × AreOf callers words caller others × Means line others request
    × IsCall request
IsPlay callers line words (Hold caller) = AreOf callers words caller (codes "hold" ∷ [])
IsPlay callers line words (Free caller) = AreOf callers words caller (codes "free" ∷ [])
IsPlay callers line words (Probes caller) = AreOf callers words caller (codes "probes" ∷ [])
IsPlay callers line words Layout = words ≡ codes "layout" ∷ []

-- a whole line, as it stands before its newline, is a play
pub record IsPlayOf (callers : ℕ) (whole : List ℕ) (play : Play) : Type 0 where
  pub line : List ℕ
  pub dropped : DropsReturn whole line
  pub fits : length line ≤ longest
  pub words : List (List ℕ)
  pub has : HasWords line words
  pub is_play : IsPlay callers line words play

-- the line of a replay for so many callers says this; only a line that is skipped may have any length
abbrev pub SaysPlay : ℕ → List ℕ → Play → Type 0
SaysPlay callers whole Skip = IsSkipped whole
SaysPlay callers whole play = (¬ (IsSkipped whole)) × IsPlayOf callers whole play

-- ---- a text ----

-- whether the line is not skipped
abbrev pub is_play : Play → Bool
is_play Skip = false
is_play play = true

-- the text is a replay for so many callers, whose lines are these plays, the skipped ones left out
abbrev pub IsReplay : ℕ → List ℕ → List Play → Type 0
IsReplay callers text plays = LinesTell (SaysPlay callers) is_play text plays

-- what can stand in a replay for so many callers
abbrev pub IsPlayFor : ℕ → Play → Type 0
IsPlayFor callers Skip = ⊥
IsPlayFor callers (Ask caller request) = (caller < callers) × IsCall request
IsPlayFor callers (Hold caller) = caller < callers
IsPlayFor callers (Free caller) = caller < callers
IsPlayFor callers (Probes caller) = caller < callers
IsPlayFor callers Layout = Unit {0}

-- ---- parts of a line ----

-- a word that is all that stands behind this caller's number makes this play
abbrev pub IsDeed : List ℕ → ℕ → Play → Type 0
IsDeed word caller (Hold other) = (other ≡ caller) × (word ≡ codes "hold")
IsDeed word caller (Free other) = (other ≡ caller) × (word ≡ codes "free")
IsDeed word caller (Probes other) = (other ≡ caller) × (word ≡ codes "probes")
IsDeed word caller play = ⊥

-- what stands behind this caller's number makes this play
abbrev pub Does : List ℕ → ℕ → Play → Type 0
Does rest caller (Ask other request) = (other ≡ caller) × Reads rest request × IsCall request
Does rest caller play = (word : List ℕ) × HasWordsOf rest (word ∷ []) × IsDeed word caller play
