use Rattle.std.proofs.Common.{◌<◌, arith, length}
use Rattle.std.proofs.lemmas.List.{get_or-take}
use Rattle.word_layout.specs.BoundArrays.{kept_bounds}
use Rattle.word_layout.proofs.KeySpace.{first_key-below}
use Rattle.word_layout.proofs.parts.Parts.last_key.Goals as goal

pub overflow_sub-result : goal.overflow_sub-result
overflow_sub-result c =
    let kept = c.self.inside in
    let inner : c.args.part < length (kept_bounds kept) = omega (arith, c.self.invariant.counted) in
    let below = first_key-below (kept_bounds kept) c.args.part c.self.invariant.are_bounds inner in
    omega (arith, below, get_or-take kept.len kept.bounds c.args.part 0 c.if-part-self.true)
