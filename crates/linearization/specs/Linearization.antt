-- The one order of all callers' calls: the changes of a history, and between them the looks of all logs. The newest
-- entry stands first, as the newest change does.
use Rattle.std.specs.Prelude.{◌≡◌, ℕ, ◌<◌, ◌≤◌, ◌+◌, Some, List, [], ◌∷◌, ◌++◌, length, slice_get}
use Rattle.std.specs.Prelude.{cond, ◌==◌}
use Rattle.std.specs.List.{AllByRecursion}
use Rattle.map_model.specs.declared.entries.Entry.{Entry}
use Rattle.map_model.specs.declared.entries.Entry.TheVariants.{Made, Look}
use Rattle.map_model.specs.Map.{Map, look, key_of}
use Rattle.map_model.specs.Entry.{StandsBetween}
use Rattle.map_model.specs.History.{History, after, caller_of}
use Rattle.map_model.specs.Logs.{Log, IsLogOf}

-- ---- the order ----

-- entries of all callers in one order, each with the number of its caller, the newest first
abbrev pub Weave : Type 0
Weave = List (ℕ × Entry)

-- the looks of a caller's log at a place, in the order of the log
abbrev pub looks_at : ℕ → ℕ → Log → Weave
looks_at place caller [] = []
looks_at place caller (Made at change old ∷ es) = looks_at place caller es
looks_at place caller (Look at lo hi found ∷ es) =
    cond (at == place) ((caller, Look at lo hi found) ∷ looks_at place caller es)
    (looks_at place caller es)

-- the looks of all logs at a place, where the first log is this caller's: those of the greatest caller are the newest
abbrev pub all_looks_at : ℕ → ℕ → List Log → Weave
all_looks_at place caller [] = []
all_looks_at place caller (log ∷ logs) =
    all_looks_at place (caller + 1) logs ++ looks_at place caller log

-- each change of the history as an entry of its caller, and behind the last change and before each the looks there
abbrev pub weave : Map → History → List Log → Weave
weave m [] logs = all_looks_at 0 0 logs
weave m (c ∷ older) logs =
    all_looks_at (length (c ∷ older)) 0 logs
    ++ ((caller_of c, Made (length older) c (look (after m older) (key_of c))) ∷ weave m older logs)

-- the entries of one caller in a weave
abbrev pub entries_of : ℕ → Weave → Log
entries_of caller [] = []
entries_of caller (x ∷ w) =
    cond (x.0 == caller) (x.1 ∷ entries_of caller w) (entries_of caller w)

-- ---- what it tells ----

-- the plain map run over a weave, from the first map to the last: each entry is true of the map that those before
-- it leave
abbrev pub Runs : Map → Weave → Map → Type 0
Runs m [] n = n ≡ m
Runs m (x ∷ w) n = (before : Map) × Runs m w before × StandsBetween before x.1 n

-- each log is that of the caller with its number
abbrev pub AreLogsOf : Map → History → List Log → Type 0
AreLogsOf m h logs =
    (caller : ℕ) (log : Log) → slice_get logs caller ≡ Some log → IsLogOf m caller h log

-- ---- the laws ----

-- the plain map run over the weave gives every old value and every found pair, and ends where the history does
abbrev pub WeavesAgree : Type 0
WeavesAgree =
    (m : Map) (h : History) (logs : List Log) → AreLogsOf m h logs →
    Runs m (weave m h logs) (after m h)

-- each log is what its caller has in the weave: its calls stand there in its order, each once
abbrev pub LogsStandInTheWeave : Type 0
LogsStandInTheWeave =
    (m : Map) (h : History) (logs : List Log) → AreLogsOf m h logs →
    (caller : ℕ) (log : Log) → slice_get logs caller ≡ Some log →
    entries_of caller (weave m h logs) ≡ log

-- nothing else stands in it: where each change is of a caller with a log, a number without a log has no entry
abbrev pub OthersHaveNoEntry : Type 0
OthersHaveNoEntry =
    (m : Map) (h : History) (logs : List Log) → AllByRecursion (λ c. caller_of c < length logs) h →
    (caller : ℕ) → length logs ≤ caller → entries_of caller (weave m h logs) ≡ []
