use Rattle.std.proofs.Common.{◌∙◌, ◌-◌, sym}
use Rattle.word_layout.specs.Limits.{KeepsRulesIn}
use Rattle.word_layout.specs.Shape.{shape}
use Rattle.word_layout.proofs.Rules.{none_broken}
use Rattle.word_layout.proofs.limits.Limits.layout_in.Goals as goal

pub returns-in-Some-clause-accepts : goal.returns-in-Some-clause-accepts
returns-in-Some-clause-accepts c = (
  λ ok. absurd cc,
  λ (kept : KeepsRulesIn (shape c.args.self.now c.args.parts)).
      sym c.in-Some.ensures.broken.broken
      ∙ none_broken (shape c.args.self.now c.args.parts) kept (c.in-Some.number - 1),
)
