use Rattle.std.proofs.Common.{ℕ, List, ap, ◌∙◌}
use Rattle.trace_text.specs.Counts.{lines_with}
use Rattle.trace_text.proofs.CountLaws.{replies_counted}
use Rattle.trace_text.proofs.counting.reply_count.Goals as goal

pub returns : goal.returns
returns c = λ phases is.
    c.line_count.ensures
    ∙ (ap (λ (b : List ℕ). lines_with b c.args.text.now) c.beginning_of.ensures
    ∙ (ap (lines_with _) is ∙ replies_counted c.args.form phases))
