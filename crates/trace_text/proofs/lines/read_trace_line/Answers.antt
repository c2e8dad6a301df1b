use Rattle.std.proofs.Common.{subst}
use Rattle.wire_commands.specs.Grammar.{Reads}
use Rattle.wire_commands.specs.declared.request.Reason.TheVariants.{Word}
use Rattle.wire_commands.specs.declared.request.Request.TheVariants.{Bad, Quit}
use Rattle.trace_text.specs.Lines.{IsSkipped}
use Rattle.trace_text.proofs.LineLaws.{says_as_mark, no_line}
use Rattle.trace_text.proofs.lines.read_trace_line.Goals as goal

pub returns-in-Word : goal.returns-in-Word
returns-in-Word c =
    let told : ¬ (IsSkipped c.args.line.now) = λ skipped. absurd (cc (c.is_skipped.ensures.1 skipped)) in
    let word : Reads c.args.line.now (Bad Word) = subst (λ r. Reads c.args.line.now (Bad r)) c.in-Word.is c.in-Bad.ensures.reads in
    says_as_mark c.args.callers c.args.line.now c.read_mark.result told word c.read_mark.ensures

pub returns-in_default-reason : goal.returns-in_default-reason
returns-in_default-reason c =
    let told : ¬ (IsSkipped c.args.line.now) = λ skipped. absurd (cc (c.is_skipped.ensures.1 skipped)) in
    no_line c.args.callers c.args.line.now (Bad c.in-Bad.reason) told c.in-Bad.ensures.reads (λ call. call) (λ e. c.in_default-reason.not-Word (cc e))

pub returns-in-Quit : goal.returns-in-Quit
returns-in-Quit c =
    let told : ¬ (IsSkipped c.args.line.now) = λ skipped. absurd (cc (c.is_skipped.ensures.1 skipped)) in
    no_line c.args.callers c.args.line.now Quit told c.in-Quit.ensures.reads (λ call. call) (λ e. absurd (cc e))
