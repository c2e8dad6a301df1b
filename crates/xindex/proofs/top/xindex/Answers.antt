use Rattle.std.proofs.Common.{◌≡◌, subst}
use Rattle.command_line.specs.Command.{texts_of}
use Rattle.command_line.specs.declared.answers.Command.{Command}
use Rattle.command_line.specs.declared.answers.Mode.TheVariants.{Run}
use Rattle.command_line.proofs.CommandLaws.{asked_breaks, breaks_asked, keeps_asked, one_command}
use Rattle.line_session.specs.Ends.{ends_of}
use Rattle.xindex.specs.Outcome.{Does}
use Rattle.xindex.proofs.Completing.{completes}
use Rattle.xindex.proofs.top.xindex.Goals as goal

pub returns-in-Ok-clause-does : goal.returns-in-Ok-clause-does
returns-in-Ok-clause-does g c = λ command asks kept.
    let words = texts_of c.args.words.now in
    subst (λ (one : Command). Does one.mode one
    (ends_of (g.S.Ends.state c.args.source.now) (g.K.Ends.state c.args.sink.now))
    (ends_of (g.S.Ends.state c.obey.new.source) (g.K.Ends.state c.obey.new.sink)) c.obey.result)
    (one_command words c.in-Ok.command command c.in-Ok.ensures.ok asks)
    (c.obey.ensures.does (keeps_asked words c.in-Ok.command c.in-Ok.ensures.ok kept))

pub returns-in-Ok-clause-memory_unread : goal.returns-in-Ok-clause-memory_unread
returns-in-Ok-clause-memory_unread g c = λ command asks other none.
    let words = texts_of c.args.words.now in
    (c.obey.ensures.memory none).unread
    (λ is. other (subst (λ (one : Command). one.mode ≡ Run)
    (one_command words c.in-Ok.command command c.in-Ok.ensures.ok asks) is))

pub returns-in-Ok-clause-completes : goal.returns-in-Ok-clause-completes
returns-in-Ok-clause-completes g c = λ command asks kept input.
    let words = texts_of c.args.words.now in
    let does = subst (λ (one : Command). Does one.mode one
    (ends_of (g.S.Ends.state c.args.source.now) (g.K.Ends.state c.args.sink.now))
    (ends_of (g.S.Ends.state c.obey.new.source) (g.K.Ends.state c.obey.new.sink)) c.obey.result)
    (one_command words c.in-Ok.command command c.in-Ok.ensures.ok asks)
    (c.obey.ensures.does (keeps_asked words c.in-Ok.command c.in-Ok.ensures.ok kept)) in
    completes command.mode command
    (ends_of (g.S.Ends.state c.args.source.now) (g.K.Ends.state c.args.sink.now))
    (ends_of (g.S.Ends.state c.obey.new.source) (g.K.Ends.state c.obey.new.sink)) c.obey.result does input

pub returns-in-Ok-clause-limits : goal.returns-in-Ok-clause-limits
returns-in-Ok-clause-limits g c = λ bad.
    let broken = c.obey.ensures.limits bad in (
      broken.0,
      record {
        command = c.in-Ok.command;
        asked = c.in-Ok.ensures.ok;
        first = asked_breaks (texts_of c.args.words.now) c.in-Ok.command broken.0 c.in-Ok.ensures.ok broken.1;
      },
    )

pub returns-in-Ok-clause-limits_refusal : goal.returns-in-Ok-clause-limits_refusal
returns-in-Ok-clause-limits_refusal g c = λ number bad. c.obey.ensures.limits_refusal number
    (breaks_asked (texts_of c.args.words.now) c.in-Ok.command number c.in-Ok.ensures.ok bad.first)
