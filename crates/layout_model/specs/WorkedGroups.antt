-- Replays with several groups, worked out by hand: plans, merging, roots and probes.
use Rattle.std.specs.Prelude.{ℕ, zero, suc, ◌+◌, [], ◌∷◌, ◌++◌}
use Rattle.map_model.specs.Map.{Map}
use Rattle.word_layout.specs.Shape.{in_one_part}
use Rattle.layout_model.specs.Line.{Get, Probes, Put}
use Rattle.layout_model.specs.Phase as phase
use Rattle.layout_model.specs.Scripts.{Plays, PlaysFrom, few_slots, puts, rebuild, removes, says, shows}
use Rattle.layout_model.specs.Scripts.{small, turns, turns_to_opened}
use Rattle.layout_model.specs.Told.{FreeLine, GroupLine, New, NoValue, Value}
use Rattle.layout_model.specs.Told as told
use Rattle.layout_model.specs.Turn as turn

-- one group becomes three, and two of them one, with a new root after each install
abbrev pub OneIntoThree : Type 0
OneIntoThree = Plays (few_slots 4 1)
    (puts 10 13 ++ rebuild 0 3 13 13 1
    ++ (shows
    (GroupLine 0 5 0 0 phase.Open ∷ GroupLine 60 5 0 0 phase.Open ∷ GroupLine 110 3 0 0 phase.Open
    ∷ FreeLine 100 1 ∷ [])
    ∷ says (Get 0 60) (Value 600) ∷ says (Probes 0) (told.Probes 1) ∷ says (Get 0 115) NoValue
    ∷ says (Probes 0) (told.Probes 2) ∷ says (Get 0 110) (Value 1100) ∷ turns (turn.RootBuilt 3)
    ∷ removes (70 ∷ 80 ∷ 90 ∷ 100 ∷ 120 ∷ 130 ∷ []))
    ++ rebuild 60 1 2 0 2
    ++ (says (Get 1 110) (Value 1100)
    ∷ shows (GroupLine 0 5 0 0 phase.Open ∷ GroupLine 60 2 0 0 phase.Open ∷ FreeLine 100 2 ∷ [])
    ∷ turns (turn.RootBuilt 2) ∷ []))

-- while no root is due, the three groups are looked at
abbrev pub NoRootYet : Type 0
NoRootYet = Plays (few_slots 4 4096) (puts 10 13 ++ rebuild 0 3 13 13 1 ++ (turns (turn.Looked 3) ∷ []))

-- seven records are too many for one group of eight
abbrev pub OneIntoTwo : Type 0
OneIntoTwo = Plays (small 2 100 4 7) (puts 1 7 ++ turns_to_opened 0 2)

-- so many pairs whose keys are one apart, each key its own value
abbrev pub pairs_from : (key many : ℕ) → Map
pairs_from key zero = []
pairs_from key (suc many) = (key, key) ∷ pairs_from (key + 1) many

-- twelve rows that an index is opened with make two groups, of which the second is found by its pivot
abbrev pub OpenedWithRows : Type 0
OpenedWithRows = PlaysFrom (in_one_part (small 2 100 4 8)) (pairs_from 1 12)
    (shows (GroupLine 0 6 0 0 phase.Open ∷ GroupLine 7 6 0 0 phase.Open ∷ FreeLine 100 2 ∷ [])
    ∷ says (Get 0 7) (Value 7) ∷ says (Get 0 13) NoValue ∷ [])

-- a look begins at the cursor, and goes round the chain to the groups before it
abbrev pub LooksGoRound : Type 0
LooksGoRound = PlaysFrom (in_one_part (small 1 100 8 1)) (pairs_from 10 12)
    ((says (Put 0 1 1) New ∷ rebuild 0 2 7 1 1)
    ++ (says (Put 0 2 2) New ∷ says (Put 0 30 30) New ∷ rebuild 16 2 7 1 1) ++ rebuild 0 1 5 1 1
    ++ (turns (turn.Looked 4) ∷ says (Put 0 3 3) New ∷ turns (turn.Frozen 0) ∷ []))

-- with more groups than slots, a root has a slot for each second group
abbrev pub RootsSkipGroups : Type 0
RootsSkipGroups = Plays (few_slots 8 1)
    (puts 10 25 ++ rebuild 0 5 25 25 1
    ++ (turns (turn.RootBuilt 3) ∷ says (Get 0 160) (Value 1600) ∷ turns (turn.Looked 5) ∷ []))
