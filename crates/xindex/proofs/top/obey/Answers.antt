-- Limits that have a layout keep the rules, and others break one rule first.
use Rattle.std.proofs.Common.{ℕ, ◌∙◌, refl, subst, sym}
use Rattle.line_session.specs.Ends.{ends_of}
use Rattle.xindex.proofs.LimitLaws.{none_broken, one_first}
use Rattle.xindex.specs.declared.outcome.Outcome.{Outcome}
use Rattle.xindex.specs.Outcome.{OnlyRefuses, limit_line}
use Rattle.xindex.specs.Telling.{Tells}
use Rattle.xindex.specs.declared.status.Status.TheVariants.{BadLimits}
use Rattle.xindex.proofs.top.obey.Goals as goal

pub returns-in-Ok-clause-limits_refusal : goal.returns-in-Ok-clause-limits_refusal
returns-in-Ok-clause-limits_refusal g c = λ number first.
    absurd (none_broken c.args.command.limits number (c.in-Ok.ensures.accepts.0 refl) first)

pub returns-in-Err-clause-does : goal.returns-in-Err-clause-does
returns-in-Err-clause-does g c = λ kept. absurd (cc (c.in-Err.ensures.accepts.1 kept))

pub returns-in-Err-clause-limits_refusal : goal.returns-in-Err-clause-limits_refusal
returns-in-Err-clause-limits_refusal g c = λ number first.
    let same = one_first c.args.command.limits c.in-Err.bad.number number c.in-Err.ensures.refuses first in
    let told = subst
    (λ (n : ℕ). Tells (limit_line n) BadLimits (g.K.Ends.state c.args.sink.now)
    (g.K.Ends.state c.tell_number.new.sink) c.tell_number.result)
    (c.from-number.ensures ∙ same) c.tell_number.ensures.tells in
    subst
    (λ (o : Outcome). OnlyRefuses (limit_line number) BadLimits
    (ends_of (g.S.Ends.state c.args.source.now) (g.K.Ends.state c.args.sink.now))
    (ends_of (g.S.Ends.state c.args.source.now) (g.K.Ends.state c.tell_number.new.sink)) o)
    (sym c.unopened.ensures) (record { refusal = told; unread = refl; no_index = refl })
