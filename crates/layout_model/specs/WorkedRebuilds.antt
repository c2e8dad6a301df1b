-- Replays of whole rebuilds, worked out by hand.
use Rattle.std.specs.Prelude.{[], ◌∷◌, ◌++◌}
use Rattle.layout_model.specs.Line.{Get, Put, Remove, Hold, Free}
use Rattle.layout_model.specs.Phase as phase
use Rattle.layout_model.specs.Scripts.{Plays, few_slots, from_version, puts, says, shows, small, turns}
use Rattle.layout_model.specs.Scripts.{turns_from_install, turns_to_opened}
use Rattle.layout_model.specs.Told.{AgainFrozen, FreeLine, Freed, GroupLine, Held, New, NoValue, Old, Value, Worn}
use Rattle.layout_model.specs.Turn as turn

-- a frozen group refuses new keys alone, and the rebuild runs to its end
abbrev pub OneRebuild : Type 0
OneRebuild = Plays (small 2 100 4 2)
    (says (Put 0 5 50) New ∷ says (Put 0 7 70) New ∷ turns (turn.Frozen 0)
    ∷ says (Put 0 9 90) AgainFrozen ∷ says (Put 0 5 51) (Old 50) ∷ says (Get 0 9) NoValue
    ∷ turns (turn.Quiet 1) ∷ turns (turn.Opened 1) ∷ says (Put 0 9 90) New
    ∷ turns (turn.Installed 2) ∷ says (Get 0 5) (Value 51) ∷ turns (turn.Quiet 2)
    ∷ turns (turn.Copied 2) ∷ turns (turn.Quiet 3) ∷ turns (turn.Reclaimed 2 1)
    ∷ shows (GroupLine 0 2 0 1 phase.Open ∷ FreeLine 99 3 ∷ []) ∷ turns (turn.Looked 1) ∷ [])

-- records are changed between the install and the copy, and after it
abbrev pub ChangedMeanwhile : Type 0
ChangedMeanwhile = Plays (small 2 100 4 1)
    (says (Put 0 5 50) New ∷ turns (turn.Frozen 0) ∷ turns (turn.Quiet 1) ∷ turns (turn.Opened 1)
    ∷ turns (turn.Installed 1) ∷ says (Put 1 5 51) (Old 50) ∷ says (Get 0 5) (Value 51)
    ∷ turns (turn.Quiet 2) ∷ turns (turn.Copied 1) ∷ says (Put 0 5 52) (Old 51)
    ∷ says (Get 1 5) (Value 52) ∷ turns (turn.Quiet 3) ∷ turns (turn.Reclaimed 1 1)
    ∷ says (Get 0 5) (Value 52) ∷ [])

-- a held caller stalls each barrier until it is freed; held again, it is no longer waited for
abbrev pub HeldCallersStall : Type 0
HeldCallersStall = Plays (small 2 100 4 1)
    (says (Hold 1) Held ∷ says (Put 0 5 50) New ∷ turns (turn.Frozen 0) ∷ turns (turn.Waiting 1)
    ∷ turns (turn.Waiting 1) ∷ says (Get 1 5) (Value 50) ∷ says (Free 1) Freed
    ∷ turns (turn.Quiet 1) ∷ says (Hold 1) Held ∷ turns (turn.Opened 1) ∷ turns (turn.Installed 1)
    ∷ turns (turn.Waiting 1) ∷ says (Free 1) Freed ∷ says (Hold 1) Held ∷ turns (turn.Quiet 2)
    ∷ turns (turn.Copied 1) ∷ turns (turn.Waiting 1) ∷ says (Free 1) Freed ∷ turns (turn.Quiet 3)
    ∷ turns (turn.Reclaimed 1 1) ∷ [])

-- a key is removed and put again while its group is rebuilt, before the install and after it
abbrev pub RemovedMeanwhile : Type 0
RemovedMeanwhile = Plays (small 2 100 4 1)
    ((says (Put 0 5 50) New ∷ turns_to_opened 0 1)
    ++ (says (Remove 0 5) (Old 50) ∷ says (Put 0 5 55) New ∷ says (Get 0 5) (Value 55)
    ∷ turns_from_install 0 1 1)
    ++ (shows (GroupLine 0 0 0 1 phase.Open ∷ FreeLine 99 3 ∷ []) ∷ turns_to_opened 0 1)
    ++ (turns (turn.Installed 1) ∷ says (Remove 0 5) (Old 55) ∷ says (Put 0 5 56) New
    ∷ turns (turn.Quiet 2) ∷ turns (turn.Copied 1) ∷ turns (turn.Quiet 3)
    ∷ turns (turn.Reclaimed 1 1) ∷ shows (GroupLine 0 1 1 1 phase.Open ∷ FreeLine 99 3 ∷ [])
    ∷ says (Get 0 5) (Value 56) ∷ []))

-- too few group rows are free, so the group is thawed, and is due again at once
abbrev pub TooFewGroups : Type 0
TooFewGroups = Plays (few_slots 2 1)
    (puts 10 13
    ++ (turns (turn.Frozen 0) ∷ turns (turn.Quiet 1) ∷ turns (turn.Thawed 3 1)
    ∷ shows (GroupLine 0 0 0 13 phase.Open ∷ FreeLine 87 1 ∷ []) ∷ says (Put 0 140 1400) New
    ∷ turns (turn.Frozen 0) ∷ []))

-- between the install and the copy a record removed at its old place counts as removed in its new group
abbrev pub RemovedThroughForwarding : Type 0
RemovedThroughForwarding = Plays (small 1 100 4 2)
    ((says (Put 0 1 10) New ∷ says (Put 0 2 20) New ∷ turns_to_opened 0 1)
    ++ (turns (turn.Installed 2) ∷ says (Remove 0 1) (Old 10)
    ∷ shows (GroupLine 0 2 1 0 phase.Open ∷ FreeLine 98 2 ∷ []) ∷ turns (turn.Quiet 2)
    ∷ turns (turn.Copied 2) ∷ shows (GroupLine 0 2 1 0 phase.Open ∷ FreeLine 98 2 ∷ [])
    ∷ turns (turn.Quiet 3) ∷ turns (turn.Reclaimed 2 1) ∷ []))

-- at Ready a frozen group refuses new keys alone; at Copying and Reclaiming the new group takes them
abbrev pub ChangedBeforeEachTurn : Type 0
ChangedBeforeEachTurn = Plays (small 1 100 4 1)
    (says (Put 0 1 10) New ∷ says (Put 0 2 20) New ∷ turns (turn.Frozen 0) ∷ turns (turn.Quiet 1)
    ∷ says (Put 0 1 11) (Old 10) ∷ says (Put 0 3 30) AgainFrozen ∷ says (Remove 0 2) (Old 20)
    ∷ says (Put 0 2 21) AgainFrozen ∷ turns (turn.Opened 1) ∷ turns (turn.Installed 1)
    ∷ turns (turn.Quiet 2) ∷ says (Put 0 1 12) (Old 11) ∷ says (Remove 0 1) (Old 12)
    ∷ says (Put 0 1 13) New ∷ shows (GroupLine 0 1 1 1 phase.Open ∷ FreeLine 97 2 ∷ [])
    ∷ turns (turn.Copied 1) ∷ turns (turn.Quiet 3) ∷ says (Put 0 1 14) (Old 13)
    ∷ says (Put 0 4 40) New ∷ says (Get 0 2) NoValue ∷ turns (turn.Reclaimed 2 1)
    ∷ shows (GroupLine 0 1 1 2 phase.Open ∷ FreeLine 98 3 ∷ []) ∷ says (Get 0 1) (Value 14) ∷ [])

-- a record that is worn at Copying can be written once it is copied
abbrev pub WornUntilCopied : Type 0
WornUntilCopied = Plays (from_version 1152921504606846974)
    ((says (Put 0 5 50) New ∷ turns_to_opened 0 1)
    ++ (turns (turn.Installed 1) ∷ turns (turn.Quiet 2) ∷ says (Put 0 5 51) (Old 50)
    ∷ says (Put 0 5 52) Worn ∷ turns (turn.Copied 1) ∷ says (Put 0 5 52) (Old 51)
    ∷ says (Remove 0 5) Worn ∷ []))

-- a barrier names the least of the callers that it waits for, in whichever order they are freed
abbrev pub TheLeastHeldIsNamed : Type 0
TheLeastHeldIsNamed = Plays (small 3 100 4 1)
    (says (Hold 1) Held ∷ says (Hold 2) Held ∷ says (Put 0 5 50) New ∷ turns (turn.Frozen 0)
    ∷ turns (turn.Waiting 1) ∷ says (Free 2) Freed ∷ turns (turn.Waiting 1) ∷ says (Free 1) Freed
    ∷ turns (turn.Quiet 1) ∷ turns (turn.Opened 1) ∷ says (Hold 2) Held ∷ says (Hold 1) Held
    ∷ turns (turn.Installed 1) ∷ turns (turn.Waiting 1) ∷ says (Free 1) Freed
    ∷ turns (turn.Waiting 2) ∷ says (Free 2) Freed ∷ turns (turn.Quiet 2) ∷ [])
