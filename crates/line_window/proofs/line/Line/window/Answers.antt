use Rattle.std.proofs.Common.{ap, arith}
use Rattle.line_window.specs.Line.{Parts}
use Rattle.line_window.proofs.Guesses.{guess-within}
use Rattle.line_window.proofs.Windows.{window-holds}
use Rattle.line_window.proofs.line.Line.window.Goals as goal

pub overflow_sub-self-inside : goal.overflow_sub-self-inside
overflow_sub-self-inside c =
    let same = ap (λ (p : Parts). p.len) c.self.view_is in
    let line = c.args.self.now in
    omega (arith, same, guess-within line.len line.first line.last c.args.key)

pub returns-then-self-guess-clause-holds : goal.returns-then-self-guess-clause-holds
returns-then-self-guess-clause-holds c keys rising is =
    let same = ap (λ (p : Parts). p.error) c.self.view_is in
    let law = window-holds c.args.self.now c.args.key keys rising is in
    (omega (arith, same, law.0), omega (arith, same, law.1))

pub returns-else-self-guess-clause-holds : goal.returns-else-self-guess-clause-holds
returns-else-self-guess-clause-holds c keys rising is =
    let same = ap (λ (p : Parts). p.error) c.self.view_is in
    let length_same = ap (λ (p : Parts). p.len) c.self.view_is in
    let law = window-holds c.args.self.now c.args.key keys rising is in
    (omega (arith, same, law.0), omega (arith, length_same, law.1))
