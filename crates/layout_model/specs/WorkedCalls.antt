-- Replays of calls on one group, worked out by hand: free rows, versions, removed records.
use Rattle.std.specs.Prelude.{[], ◌∷◌, ◌++◌}
use Rattle.layout_model.specs.Line.{Get, Put, Remove, Hold, Free, Probes}
use Rattle.layout_model.specs.Phase as phase
use Rattle.layout_model.specs.Scripts.{Plays, from_version, rebuild, says, shows, small, turns}
use Rattle.layout_model.specs.Told.{AgainFrozen, FreeLine, Freed, Full, GroupLine, Held, New, NoValue, Old}
use Rattle.layout_model.specs.Told.{Value, Worn}
use Rattle.layout_model.specs.Told as told
use Rattle.layout_model.specs.Turn as turn

-- a caller that is held goes on calling, and a row that was removed is revived; no array is searched
abbrev pub HeldCallersCall : Type 0
HeldCallersCall = Plays (small 2 100 4 8)
    (says (Put 0 5 50) New ∷ says (Remove 0 5) (Old 50) ∷ says (Put 0 5 51) New ∷ says (Hold 1) Held
    ∷ says (Get 1 5) (Value 51) ∷ says (Free 1) Freed ∷ says (Probes 0) (told.Probes 0)
    ∷ shows (GroupLine 0 0 0 1 phase.Open ∷ FreeLine 99 3 ∷ []) ∷ [])

-- no row is free until a rebuild gives them back
abbrev pub RowsComeBack : Type 0
RowsComeBack = Plays (small 1 2 4 2)
    ((says (Put 0 1 10) New ∷ says (Put 0 2 20) New ∷ says (Put 0 3 30) Full
    ∷ says (Get 0 1) (Value 10) ∷ says (Put 0 2 21) (Old 20) ∷ rebuild 0 1 2 2 1)
    ++ (says (Put 0 3 30) New ∷ shows (GroupLine 0 2 0 1 phase.Open ∷ FreeLine 1 3 ∷ []) ∷ []))

-- a record of the last version can be read alone, and copying does not help where versions begin at the last
abbrev pub VersionsEnd : Type 0
VersionsEnd = Plays (from_version 1152921504606846975)
    ((says (Put 0 5 50) New ∷ says (Put 0 5 51) Worn ∷ says (Remove 0 5) Worn
    ∷ says (Get 0 5) (Value 50) ∷ rebuild 0 1 1 1 1) ++ (says (Put 0 5 51) Worn ∷ []))

-- copying gives a record the first version again
abbrev pub CopiesRenewVersions : Type 0
CopiesRenewVersions = Plays (from_version 1152921504606846974)
    ((says (Put 0 5 50) New ∷ says (Put 0 5 51) (Old 50) ∷ says (Put 0 5 52) Worn
    ∷ rebuild 0 1 1 1 1) ++ (says (Put 0 5 52) (Old 51) ∷ says (Put 0 5 53) Worn ∷ []))

-- a removed row of the last version is worn for a put, and is no record for a remove
abbrev pub RemovedRowsWear : Type 0
RemovedRowsWear = Plays (from_version 1152921504606846974)
    (says (Put 0 5 50) New ∷ says (Remove 0 5) (Old 50) ∷ says (Put 0 5 51) Worn
    ∷ says (Remove 0 5) NoValue ∷ [])

-- a frozen group refuses a new key before it is seen that no row is free, and revives none; what has a value there
-- is changed and removed
abbrev pub FrozenBeforeFull : Type 0
FrozenBeforeFull = Plays (small 1 2 4 2)
    (says (Put 0 1 10) New ∷ says (Put 0 2 20) New ∷ turns (turn.Frozen 0)
    ∷ says (Put 0 3 30) AgainFrozen ∷ says (Remove 0 2) (Old 20) ∷ says (Put 0 2 21) AgainFrozen
    ∷ says (Put 0 1 11) (Old 10) ∷ [])

-- a removed record of an array is not revived: its key gets a row beside it
abbrev pub ArraysReviveNothing : Type 0
ArraysReviveNothing = Plays (small 1 100 4 1)
    ((says (Put 0 5 50) New ∷ rebuild 0 1 1 1 1)
    ++ (says (Remove 0 5) (Old 50) ∷ says (Put 0 5 51) New ∷ says (Get 0 5) (Value 51)
    ∷ shows (GroupLine 0 1 1 1 phase.Open ∷ FreeLine 99 3 ∷ []) ∷ []))

-- a key whose removed record in the array has the last version gets a new row, whose versions begin anew
abbrev pub WornArraysGetRows : Type 0
WornArraysGetRows = Plays (from_version 1152921504606846974)
    ((says (Put 0 5 50) New ∷ rebuild 0 1 1 1 1)
    ++ (says (Remove 0 5) (Old 50) ∷ says (Put 0 5 51) New ∷ says (Put 0 5 52) (Old 51)
    ∷ says (Put 0 5 53) Worn ∷ says (Get 0 5) (Value 52)
    ∷ shows (GroupLine 0 1 1 1 phase.Open ∷ FreeLine 99 3 ∷ []) ∷ []))

-- a removed row is revived where no row is free, and a key without a row is refused there
abbrev pub RevivalsTakeNoRow : Type 0
RevivalsTakeNoRow = Plays (small 1 2 4 8)
    (says (Put 0 1 10) New ∷ says (Put 0 2 20) New ∷ says (Remove 0 2) (Old 20)
    ∷ says (Put 0 3 30) Full ∷ says (Put 0 2 21) New
    ∷ shows (GroupLine 0 0 0 2 phase.Open ∷ FreeLine 0 3 ∷ []) ∷ [])
