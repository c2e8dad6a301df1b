use Rattle.std.specs.Prelude.{◌≡◌, ◌≢◌, ℕ, ◌≤◌, List, ◌∷◌, length}
use Rattle.std.specs.List.{AllByRecursion}
use Rattle.wire_commands.specs.declared.forms.Form.{Form}
use Rattle.wire_commands.specs.declared.request.Request.{Request}
use Rattle.wire_commands.specs.declared.request.Reason.{Reason}
use Rattle.wire_commands.specs.declared.request.Reason.TheVariants.{Count, Number, Range}
use Rattle.wire_commands.specs.Words.{HasWords}
use Rattle.wire_commands.specs.Numbers.{IsNumber}
use Rattle.wire_commands.specs.Grammar.{AreNumbers, AreWithin, keyword_of, longest, Means}

-- the line's words are numbers within these limits, and have these values
abbrev pub HasNumbers : List ℕ → List ℕ → List ℕ → Type 0
HasNumbers line limits values =
    (words : List (List ℕ)) × HasWords line words × AreNumbers limits words values

-- the words are not numbers within these limits, and this is the first reason
abbrev pub FailsFirst : List ℕ → List (List ℕ) → Reason → Type 0
FailsFirst limits words Count = length words ≢ length limits
FailsFirst limits words Number =
    (length words ≡ length limits) × (¬ (AllByRecursion IsNumber words))
FailsFirst limits words Range =
    (length words ≡ length limits) × AllByRecursion IsNumber words
    × (¬ (AreWithin limits words))
FailsFirst limits words _ = ⊥

-- the line's words are not numbers within these limits, and this is the first reason
abbrev pub LacksNumbers : List ℕ → List ℕ → Reason → Type 0
LacksNumbers line limits reason =
    (words : List (List ℕ)) × HasWords line words × FailsFirst limits words reason

-- a line that has the form's keyword before the words of this rest is this request
abbrev pub Completes : Form → List ℕ → Request → Type 0
Completes form rest request =
    (words : List (List ℕ)) × HasWords rest words
    × ((line : List ℕ) → length line ≤ longest → Means line (keyword_of form ∷ words) request)
