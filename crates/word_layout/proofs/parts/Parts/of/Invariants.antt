use Rattle.std.proofs.Common.{◌≡◌, take}
use Rattle.word_layout.specs.Parts.{AreBounds}
use Rattle.word_layout.proofs.parts.Parts.of.Given as goal

abbrev pub invariant-loop-at : goal.invariant-loop-at
invariant-loop-at l = record { so_far : l.parts ≡ take l.at l.bounds; are_bounds : AreBounds l.parts }
