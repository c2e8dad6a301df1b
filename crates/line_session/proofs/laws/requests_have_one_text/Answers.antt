use Rattle.line_session.proofs.OneText.{requests_have_one_text}
use Rattle.line_session.proofs.laws.requests_have_one_text.Goals as goal

pub returns : goal.returns
returns c = requests_have_one_text
