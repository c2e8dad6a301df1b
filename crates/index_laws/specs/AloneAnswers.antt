-- That a caller who alone changes an index has answers.
use Rattle.map_model.specs.declared.calls.Call.{Call}
use Rattle.map_model.specs.declared.calls.Answer.{Answer}
use Rattle.map_model.specs.Laws.{IsOfOneKey}
use Rattle.map_model.specs.Logs.{Log}
use Rattle.map_model.specs.Map.{IsRising}
use Rattle.word_layout.specs.declared.limits.Limits.{Limits}
use Rattle.xindex_core.specs.Alone.{AnswersAlone, map_of}

-- a call of one key always has an answer: so a session of any lines is there
abbrev pub CallsAloneHaveAnswers : Type 0
CallsAloneHaveAnswers =
    (l : Limits) (old : Log) (call : Call) → IsOfOneKey call → IsRising (map_of old) →
    (answer : Answer) × (new : Log) × AnswersAlone l old call answer new × IsRising (map_of new)
