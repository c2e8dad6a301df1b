-- How a log goes on, as statements.
use Rattle.std.specs.Prelude.{◌≡◌, ◌≢◌, ℕ, ◌≤◌, Option, ◌∷◌, length}
use Rattle.map_model.specs.declared.entries.Change.{Change}
use Rattle.map_model.specs.declared.entries.Entry.TheVariants.{Made, Look}
use Rattle.map_model.specs.Map.{Map, look, key_of}
use Rattle.map_model.specs.History.{History, after, caller_of}
use Rattle.map_model.specs.Logs.{Log, StandsIn, IsLogOf, least_place}

-- the least place that the next entry may have is not behind the end of the history
abbrev pub LogsEndInTheHistory : Type 0
LogsEndInTheHistory =
    (m : Map) (caller : ℕ) (h : History) (log : Log) → IsLogOf m caller h log →
    least_place log ≤ length h

-- a log stays one when others change the map
abbrev pub OthersKeepLogs : Type 0
OthersKeepLogs =
    (m : Map) (caller : ℕ) (h : History) (log : Log) (change : Change) → IsLogOf m caller h log →
    caller_of change ≢ caller → IsLogOf m caller (change ∷ h) log

-- a change of the caller's own goes to the end of its log, with the value that its key had
abbrev pub ChangesEndLogs : Type 0
ChangesEndLogs =
    (m : Map) (caller : ℕ) (h : History) (log : Log) (change : Change) → IsLogOf m caller h log →
    caller_of change ≡ caller →
    IsLogOf m caller (change ∷ h)
    (Made (length h) change (look (after m h) (key_of change)) ∷ log)

-- so does a look that is true at a place behind the others
abbrev pub LooksEndLogs : Type 0
LooksEndLogs =
    (m : Map) (caller : ℕ) (h : History) (log : Log) (place lo hi : ℕ) (found : Option (ℕ × ℕ)) →
    IsLogOf m caller h log → least_place log ≤ place → StandsIn m h (Look place lo hi found) →
    IsLogOf m caller h (Look place lo hi found ∷ log)
