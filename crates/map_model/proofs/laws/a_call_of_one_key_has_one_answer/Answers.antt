use Rattle.map_model.proofs.Answering.{one_answer}
use Rattle.map_model.proofs.laws.a_call_of_one_key_has_one_answer.Goals as goal

pub returns : goal.returns
returns c = one_answer
