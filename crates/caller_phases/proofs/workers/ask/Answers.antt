-- What a waiter does for a request it does for its caller.
use Rattle.std.proofs.Common.{◌≡◌, List}
use Rattle.map_model.specs.declared.calls.Answer.{Answer}
use Rattle.map_model.specs.declared.calls.Call.{Call}
use Rattle.map_model.specs.declared.calls.Call.TheVariants as call
use Rattle.wire_commands.specs.declared.request.Request.{Request}
use Rattle.wire_commands.specs.declared.request.Request.TheVariants as request
use Rattle.wire_commands.specs.declared.reply.Reply.{Reply}
use Rattle.line_session.specs.Session.{Exchange}
use Rattle.xindex_core.specs.Answering.{Answers}
use Rattle.xindex_core.specs.Passes.{caller_with}
use Rattle.xindex_core.specs.Waiting.{AnswersLast}
use Rattle.caller_phases.proofs.workers.ask.Goals as goal

told : {A B : Type 0} (old new : A) (x y : B) (P : A → Call → Answer → A → Type 0) (Q : B → Call → Answer → B → Type 0)
    (r : Request) (replies : List Reply) → Exchange P old r replies new →
    ((made : Call) (answer : Answer) → P old made answer new → Q x made answer y) →
    (new ≡ old → y ≡ x) → Exchange Q x r replies y
told old new x y P Q (request.Get k) replies t tells same = (t.0, t.1, tells (call.Get k) t.0 t.2, t.3, t.4)
told old new x y P Q (request.Put k v) replies t tells same = (t.0, t.1, tells (call.Put k v) t.0 t.2, t.3, t.4)
told old new x y P Q (request.Remove k) replies t tells same = (t.0, t.1, tells (call.Remove k) t.0 t.2, t.3, t.4)
told old new x y P Q request.Quit replies t tells same = (t.0, same t.1)
told old new x y P Q (request.Bad reason) replies t tells same = (t.0, same t.1)

pub returns-clause-exchange : goal.returns-clause-exchange
returns-clause-exchange g c =
    let i = c.args.waiter.now.index.now in
    told c.args.waiter.now c.reply_to.new.answerer (caller_with i c.args.waiter.now.pass)
    (caller_with i c.reply_to.new.answerer.pass)
    (λ old made answer new. (new.index.now ≡ old.index.now) × AnswersLast old.index.now old.pass made answer new.pass
    × Answers (caller_with old.index.now old.pass) made answer (caller_with old.index.now new.pass)) Answers c.args.request _
    c.reply_to.ensures (λ made answer does. does.2) (λ same j. caller_with i (same j).pass)
