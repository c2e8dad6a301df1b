use Rattle.std.proofs.Common.{◌≡◌, length}
use Rattle.ycsb_mix.specs.Draws.{generator_of}
use Rattle.ycsb_mix.proofs.DrawLaws.{HasDrawn}
use Rattle.ycsb_mix.proofs.drawing.draw_all.Given as goal

abbrev pub invariant-loop-operation : goal.invariant-loop-operation
invariant-loop-operation l = record {
  drawn : HasDrawn l.mix l.load (generator_of l.seed) l.words l.draws.items;
  count : length l.draws.items ≡ l._operation;
}
