use Rattle.word_layout.proofs.limits.Limits.rules.Goals as goal

pub returns : goal.returns
returns c = cc
