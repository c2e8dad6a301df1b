use Rattle.trace_text.proofs.OnceLaws.{read_once}
use Rattle.trace_text.proofs.laws.no_text_is_two_traces.Goals as goal

pub returns : goal.returns
returns c = read_once
