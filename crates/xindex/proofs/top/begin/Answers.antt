-- What each mode came to is what the program did.
use Rattle.std.proofs.Common.{refl, sym, subst}
use Rattle.command_line.specs.declared.answers.Mode.{Mode}
use Rattle.line_session.specs.Ends.{ends_of}
use Rattle.xindex.specs.Outcome.{Does}
use Rattle.xindex.specs.declared.outcome.Outcome.{Outcome}
use Rattle.xindex.proofs.Endings.{made_at_ends}
use Rattle.xindex.proofs.top.begin.Goals as goal

pub returns-in-Run-clause-does : goal.returns-in-Run-clause-does
returns-in-Run-clause-does g c =
    subst
    (λ (z : Mode × Outcome). Does z.0 c.args.command
    (ends_of (g.S.Ends.state c.args.source.now) (g.K.Ends.state c.args.sink.now))
    (ends_of (g.S.Ends.state c.run.new.source) (g.K.Ends.state c.run.new.sink)) z.1)
    (λ j. (sym c.in-Run.is j, sym c.unopened.ensures j)) (c.run.ensures.runs, refl)

pub returns-in-Gen-clause-does : goal.returns-in-Gen-clause-does
returns-in-Gen-clause-does g c =
    subst
    (λ (z : Mode × Outcome). Does z.0 c.args.command
    (ends_of (g.S.Ends.state c.args.source.now) (g.K.Ends.state c.args.sink.now))
    (ends_of (g.S.Ends.state c.args.source.now) (g.K.Ends.state c.generate.new.sink)) z.1)
    (λ j. (sym c.in-Gen.is j, sym c.unopened-in-Gen.ensures j)) (
      made_at_ends c.args.command.limits c.args.command.recipe (g.S.Ends.state c.args.source.now)
          (g.K.Ends.state c.args.sink.now) (g.K.Ends.state c.generate.new.sink) c.generate.result
          c.generate.ensures.generates,
      refl,
      refl,
    )
