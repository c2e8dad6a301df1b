use Rattle.session_laws.proofs.PlainSessions.{plain_sessions_have_the_same_replies}
use Rattle.session_laws.proofs.laws.plain_sessions_have_the_same_replies.Goals as goal

pub returns : goal.returns
returns c = plain_sessions_have_the_same_replies
