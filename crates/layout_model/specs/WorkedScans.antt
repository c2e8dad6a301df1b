-- Replays of scans, worked out by hand: removed records, new buffers, lanes and probes.
use Rattle.std.specs.Prelude.{◌≡◌, [], ◌∷◌, ◌++◌}
use Rattle.map_model.specs.declared.calls.Near.TheVariants.{Gap}
use Rattle.word_layout.specs.Shape.{in_one_part}
use Rattle.layout_model.specs.Line.{Probes, Put, Remove, Scan}
use Rattle.layout_model.specs.Scans.{near_from}
use Rattle.layout_model.specs.Scripts.{Plays, Script, layout_after, puts, rebuild, removes, says, small}
use Rattle.layout_model.specs.Scripts.{turns_from_install, turns_to_opened}
use Rattle.layout_model.specs.Told.{End, New, Old, Row}
use Rattle.layout_model.specs.Told as told

-- scans pass over what was removed, and go on through the new buffer
abbrev pub ScansMeanwhile : Type 0
ScansMeanwhile = Plays (small 2 100 4 2)
    ((says (Scan 0 0 0) (End 0) ∷ says (Scan 0 18446744073709551615 5) (End 0) ∷ puts 10 2)
    ++ rebuild 0 1 2 2 1 ++ puts 30 2 ++ removes (10 ∷ 30 ∷ []) ++ turns_to_opened 0 1 ++ puts 50 2
    ++ removes (50 ∷ [])
    ++ ((Scan 0 0 10, Row 20 200 ∷ Row 40 400 ∷ Row 60 600 ∷ End 3 ∷ [])
    ∷ (Scan 0 20 1, Row 20 200 ∷ End 1 ∷ []) ∷ says (Scan 0 61 5) (End 0) ∷ []))

-- two keys are counted, and one of them is removed before the install: its lane stays
abbrev pub with_a_lane_of_a_removed_key : Script
with_a_lane_of_a_removed_key =
    (says (Put 0 5 50) New ∷ says (Put 0 7 70) New ∷ turns_to_opened 0 1)
    ++ (says (Remove 0 7) (Old 70) ∷ turns_from_install 1 2 1)

-- a gap ends with the lane from which it is sought, and in the last lane at the greatest key
abbrev pub GapsEndWithLanes : Type 0
GapsEndWithLanes =
    let left = layout_after (small 2 100 4 2) with_a_lane_of_a_removed_key in
    Plays (small 2 100 4 2) with_a_lane_of_a_removed_key
    × (near_from (in_one_part (small 2 100 4 2)) left 6 ≡ Gap 6)
    × (near_from (in_one_part (small 2 100 4 2)) left 7 ≡ Gap 18446744073709551615)

-- a scan locates the key of each of its answers: that of each pair, and that of each stretch without pairs
abbrev pub ScansAddProbes : Type 0
ScansAddProbes = Plays (small 1 100 4 2)
    ((says (Put 0 5 50) New ∷ says (Put 0 7 70) New ∷ rebuild 0 1 2 2 1)
    ++ ((Scan 0 0 9, Row 5 50 ∷ Row 7 70 ∷ End 2 ∷ []) ∷ says (Probes 0) (told.Probes 5) ∷ []))

-- so a scan has one answer more where a lane without pairs begins
abbrev pub LanesAddProbes : Type 0
LanesAddProbes = Plays (small 2 100 4 2)
    (with_a_lane_of_a_removed_key
    ++ ((Scan 0 0 9, Row 5 50 ∷ End 1 ∷ []) ∷ says (Probes 0) (told.Probes 4) ∷ []))
