-- Lines without turns keep layouts well-formed, and keep their rows.
use Rattle.std.proofs.Common.{List, [], ◌∷◌}
use Rattle.std.proofs.lemmas.List.Elements.{All-head, All-tail}
use Rattle.std.specs.Prelude.{All}
use Rattle.word_layout.specs.Limits.{KeepsRulesIn}
use Rattle.word_layout.specs.Shape.{Shape}
use Rattle.layout_model.specs.Layout.{Layout}
use Rattle.layout_model.specs.Line.{Line}
use Rattle.layout_model.specs.Line as line
use Rattle.layout_model.specs.Opening.{opening}
use Rattle.layout_model.specs.Replay.{replay, step}
use Rattle.layout_model.specs.ReplayLaws.{IsNoTurn, LinesKeepLayouts, ReplaysKeepLayouts}
use Rattle.layout_model.specs.RowLaws.{IsSound}
use Rattle.layout_model.proofs.OpenedLayouts.{openings_are_sound}
use Rattle.layout_model.proofs.SoundCalls.{frees_keep, gets_keep, holds_keep, puts_keep, removes_keep, scans_keep}

pub lines_keep : LinesKeepLayouts
lines_keep h (line.Get c k) s rules no_turn sound = gets_keep h c k s sound
lines_keep h (line.Put c k v) s rules no_turn sound = puts_keep h c k v s rules sound
lines_keep h (line.Remove c k) s rules no_turn sound = removes_keep h c k s sound
lines_keep h (line.Scan c from count) s rules no_turn sound = scans_keep h c from count s sound
lines_keep h (line.Hold c) s rules no_turn sound = holds_keep h c s sound
lines_keep h (line.Free c) s rules no_turn sound = frees_keep h c s sound
lines_keep h (line.Probes c) s rules no_turn sound = sound
lines_keep h (line.MakeTurn i) s rules no_turn sound = absurd no_turn
lines_keep h line.ShowLayout s rules no_turn sound = sound

replay-keeps : (h : Shape) (s : Layout) (lines : List Line) → KeepsRulesIn h → All IsNoTurn lines →
    IsSound h s → IsSound h (replay h s lines).left
replay-keeps h s [] rules none sound = sound
replay-keeps h s (one ∷ more) rules none sound =
    replay-keeps h (step h s one).left more rules (All-tail IsNoTurn one more none)
    (lines_keep h one s rules (All-head IsNoTurn one more none) sound)

pub replays_keep : ReplaysKeepLayouts
replays_keep h rows lines can none =
    replay-keeps h (opening h rows) lines can.rules none (openings_are_sound h rows can)
