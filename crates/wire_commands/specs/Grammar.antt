use Rattle.std.specs.Prelude.{◌≡◌, ◌≢◌, ℕ, ◌^◌, ◌-◌, ◌<◌, ◌≤◌, ◌⊎◌, List, [], ◌∷◌, ◌++◌, length, map, drop, codes}
use Rattle.std.specs.List.{AllByRecursion, AllZip}
use Rattle.wire_commands.specs.declared.forms.Form.{Form}
use Rattle.wire_commands.specs.declared.forms.Form.TheVariants as form
use Rattle.wire_commands.specs.declared.request.Reason.{Reason}
use Rattle.wire_commands.specs.declared.request.Reason.TheVariants.{Long, Empty, Word, Count, Number, Range}
use Rattle.wire_commands.specs.declared.request.Request.{Request}
use Rattle.wire_commands.specs.declared.request.Request.TheVariants.{Get, Put, Remove, Quit, Bad}
use Rattle.wire_commands.specs.Words.{HasWords}
use Rattle.wire_commands.specs.Numbers.{IsNumber, value_of}

-- the first word of a form's lines
abbrev pub keyword_of : Form → List ℕ
keyword_of form.Get = codes "get"
keyword_of form.Put = codes "put"
keyword_of form.Remove = codes "remove"
keyword_of form.Quit = codes "quit"

-- the greatest number that a key or a value of a line may be
abbrev pub greatest_number : ℕ
greatest_number = 2 ^ 64 - 1

-- the numbers that follow a form's keyword, each told by the greatest that it may be
abbrev pub limits_of : Form → List ℕ
limits_of form.Get = greatest_number ∷ []
limits_of form.Put = greatest_number ∷ greatest_number ∷ []
limits_of form.Remove = greatest_number ∷ []
limits_of form.Quit = []

-- there are as many numbers as limits, and none is above its own
abbrev pub AreWithin : List ℕ → List (List ℕ) → Type 0
AreWithin limits numbers = AllZip (λ limit number. value_of number ≤ limit) limits numbers

-- the words are numbers within these limits, and have these values
pub record AreNumbers (limits : List ℕ) (words : List (List ℕ)) (values : List ℕ) : Type 0 where
  pub each : AllByRecursion IsNumber words
  pub within : AreWithin limits words
  pub values_are : map value_of words ≡ values

-- the most bytes that a line may have
abbrev pub longest : ℕ
longest = 80

-- the words are the form's keyword, and then these others
abbrev pub HasKeyword : Form → List (List ℕ) → List (List ℕ) → Type 0
HasKeyword form words others = words ≡ keyword_of form ∷ others

-- the line, of which these are the words, has the form, with numbers of these values
pub record HasForm (form : Form) (line : List ℕ) (words : List (List ℕ)) (values : List ℕ)
    : Type 0 where
  pub fits : length line ≤ longest
  pub others : List (List ℕ)
  pub keyword : HasKeyword form words others
  pub numbers : AreNumbers (limits_of form) others values

-- the reason holds of a line with these words
abbrev pub Holds : Reason → List ℕ → List (List ℕ) → Type 0
Holds Long line words = longest < length line
Holds Empty line words = words ≡ []
Holds Word line words = (form : Form) (others : List (List ℕ)) → ¬ (HasKeyword form words others)
Holds Count line words =
    (form : Form) × (others : List (List ℕ)) × HasKeyword form words others
    × (length others ≢ length (limits_of form))
Holds Number line words = ¬ (AllByRecursion IsNumber (drop 1 words))
Holds Range line words =
    (form : Form) × (others : List (List ℕ)) × HasKeyword form words others
    × (¬ (AreWithin (limits_of form) others))

-- the reasons in the order in which they are tried
abbrev pub reasons : List Reason
reasons = Long ∷ Empty ∷ Word ∷ Count ∷ Number ∷ Range ∷ []

-- the reason is the first that holds
pub record IsFirstReason (reason : Reason) (line : List ℕ) (words : List (List ℕ)) : Type 0 where
  pub before : List Reason
  pub after : List Reason
  pub order : reasons ≡ before ++ reason ∷ after
  pub none_before : AllByRecursion (λ earlier. ¬ (Holds earlier line words)) before
  pub holds : Holds reason line words

-- the line with these words is this request
abbrev pub Means : List ℕ → List (List ℕ) → Request → Type 0
Means line words (Get key) = HasForm form.Get line words (key ∷ [])
Means line words (Put key value) = HasForm form.Put line words (key ∷ value ∷ [])
Means line words (Remove key) = HasForm form.Remove line words (key ∷ [])
Means line words Quit = HasForm form.Quit line words []
Means line words (Bad reason) = IsFirstReason reason line words

-- the line is this request, by its words
abbrev pub IsRequest : List ℕ → Request → Type 0
IsRequest line request = (words : List (List ℕ)) × HasWords line words × Means line words request

-- the line without the carriage return at its end, if it has one
abbrev pub DropsReturn : List ℕ → List ℕ → Type 0
DropsReturn whole line =
    (whole ≡ line ++ 13 ∷ []) ⊎ ((whole ≡ line) × ((front : List ℕ) → whole ≢ front ++ 13 ∷ []))

-- a whole line, as it stands before its newline, reads as this request
pub record Reads (whole : List ℕ) (request : Request) : Type 0 where
  pub line : List ℕ
  pub dropped : DropsReturn whole line
  pub is_request : IsRequest line request
