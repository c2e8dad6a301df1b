-- When an entry stands in a history, and what the log of a caller is. The newest entry stands first, as the newest
-- change does.
use Rattle.std.specs.Prelude.{◌≡◌, ℕ, ◌+◌, ◌≤◌, Option, Some, None, List, [], ◌∷◌, length}
use Rattle.std.specs.Prelude.{cond, ◌==◌, nat_lt}
use Rattle.map_model.specs.declared.entries.Change.{Change}
use Rattle.map_model.specs.declared.entries.Entry.{Entry}
use Rattle.map_model.specs.declared.entries.Entry.TheVariants.{Made, Look}
use Rattle.map_model.specs.Map.{Map, map_after}
use Rattle.map_model.specs.Entry.{StandsBetween}
use Rattle.map_model.specs.History.{History, after, changes_by}

-- ---- places in a history ----

-- the changes before a place: the oldest ones, so many
unfoldable pub before_place : ℕ → History → History
before_place place [] = []
before_place place (c ∷ cs) = cond (nat_lt (length cs) place) (c ∷ cs) (before_place place cs)

-- the change at a place, behind which so many older ones stand
unfoldable pub change_at : ℕ → History → Option Change
change_at place [] = None
change_at place (c ∷ cs) = cond (length cs == place) (Some c) (change_at place cs)

-- the map at a place of the history, from an opening map
abbrev pub map_at : Map → History → ℕ → Map
map_at m h place = after m (before_place place h)

-- the entry is true at its place of the history: a change stands there
abbrev pub StandsIn : Map → History → Entry → Type 0
StandsIn m h (Made place change old) =
    (change_at place h ≡ Some change)
    × StandsBetween (map_at m h place) (Made place change old) (map_after change (map_at m h place))
StandsIn m h (Look place lo hi found) =
    (place ≤ length h) × StandsBetween (map_at m h place) (Look place lo hi found) (map_at m h place)

-- ---- logs ----

-- the entries of one caller's answered calls, the newest first
abbrev pub Log : Type 0
Log = List Entry

-- the place of an entry
abbrev pub place_of : Entry → ℕ
place_of (Made place change old) = place
place_of (Look place lo hi found) = place

-- the least place that the entry behind this one may have: what follows a change stands behind it
abbrev pub next_place : Entry → ℕ
next_place (Made place change old) = place + 1
next_place (Look place lo hi found) = place

-- the least place that the next entry of a log may have
abbrev pub least_place : Log → ℕ
least_place [] = 0
least_place (e ∷ es) = next_place e

-- the places of the entries do not fall, and behind a change they are greater
abbrev pub IsOrdered : Log → Type 0
IsOrdered [] = Unit {0}
IsOrdered (e ∷ es) = (least_place es ≤ place_of e) × IsOrdered es

-- each entry is true at its place
abbrev pub AllStandIn : Map → History → Log → Type 0
AllStandIn m h [] = Unit {0}
AllStandIn m h (e ∷ es) = StandsIn m h e × AllStandIn m h es

-- the changes of a log
abbrev pub changes_of : Log → History
changes_of [] = []
changes_of (Made place change old ∷ es) = change ∷ changes_of es
changes_of (Look place lo hi found ∷ es) = changes_of es

-- the log has just the caller's changes in the history, in order, each once
abbrev pub IsComplete : ℕ → History → Log → Type 0
IsComplete caller h log = changes_of log ≡ changes_by caller h

-- the log of a caller that has seen this history, from an opening map
pub record IsLogOf (m : Map) (caller : ℕ) (h : History) (log : Log) : Type 0 where
  pub stand : AllStandIn m h log
  pub ordered : IsOrdered log
  pub complete : IsComplete caller h log
