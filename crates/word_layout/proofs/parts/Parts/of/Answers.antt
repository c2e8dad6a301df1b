use Rattle.std.proofs.Common.{arith}
use Rattle.std.proofs.lemmas.Grind.{common_steps}
use Rattle.word_layout.specs.Parts.{IsFirstBadBound}
use Rattle.word_layout.proofs.KeySpace.{bad_bound}
use Rattle.word_layout.proofs.parts.Parts.of.Goals as goal

pub returns-then-at-eq-MOST_BOUNDS-clause-accepts : goal.returns-then-at-eq-MOST_BOUNDS-clause-accepts
returns-then-at-eq-MOST_BOUNDS-clause-accepts c =
    let first : IsFirstBadBound c.args.bounds.now c.loop-at.at = grind (arith, common_steps) in
    (λ no. absurd cc, λ are. absurd (bad_bound c.args.bounds.now c.loop-at.at first.within first.bad are))
