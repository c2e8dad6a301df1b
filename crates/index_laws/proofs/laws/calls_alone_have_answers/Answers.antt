use Rattle.index_laws.proofs.AloneAnswers.{calls_have_answers}
use Rattle.index_laws.proofs.laws.calls_alone_have_answers.Goals as goal

pub returns : goal.returns
returns c = calls_have_answers
