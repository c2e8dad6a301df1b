use Rattle.std.proofs.Common.{◌≡◌, ◌∙◌, Bool, List, not, subst, sym}
use Rattle.std.specs.Prelude.{None, Some, position}
use Rattle.word_layout.specs.Shape.{shape}
use Rattle.word_layout.proofs.Rules.{all_kept, first_broken}
use Rattle.word_layout.proofs.limits.Limits.first_broken_rule.Goals as goal

pub returns-clause-broken : goal.returns-clause-broken
returns-clause-broken c =
    let FoundAt : List Bool → Type 0 =
    λ tests. position (λ test. not test) tests ≡ Some c.in_ok-at.at
    in
    first_broken (shape c.args.self.now c.args.parts.now) c.in_ok-at.at
    (subst FoundAt c.rules.ensures (sym c.first_false.ensures ∙ c.in_ok-at.was))

pub returns-in_err-at-clause-all_kept : goal.returns-in_err-at-clause-all_kept
returns-in_err-at-clause-all_kept c =
    let FoundNone : List Bool → Type 0 = λ tests. position (λ test. not test) tests ≡ None in
    rw c.from_residual.ensures
    (all_kept (shape c.args.self.now c.args.parts.now)
    (subst FoundNone c.rules.ensures (sym c.first_false.ensures ∙ c.in_err-at.was)))
