use Rattle.std.proofs.lemmas.Bool.{le-leb}
use Rattle.word_layout.proofs.limits.is_within.Goals as goal

pub returns-then-least-value : goal.returns-then-least-value
returns-then-least-value c = rw (le-leb c.args.least c.args.value c.if-least-value.true)
