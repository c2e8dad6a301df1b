use Rattle.session_laws.proofs.PlainSessions.{sessions_alone_are_plain}
use Rattle.session_laws.proofs.laws.sessions_alone_are_plain.Goals as goal

pub returns : goal.returns
returns c = sessions_alone_are_plain
