use Rattle.std.proofs.Common.{List, [], ◌∷◌, ◌∙◌, ◌≡◌, ◌≤◌, ℕ, arith, length, refl, ap, subst, sym}
use Rattle.wire_commands.specs.declared.reply.Reply.{Reply}
use Rattle.trace_text.specs.declared.lines.Line.{Line}
use Rattle.trace_text.specs.declared.lines.Line.TheVariants.{Call}
use Rattle.line_session.specs.Session.{Exchange, Session}
use Rattle.xindex_core.specs.declared.index.Index.{Index}
use Rattle.xindex_core.specs.Answering.{Answers}
use Rattle.xindex_core.specs.Passes.{caller_with, number_of}
use Rattle.caller_phases.specs.Calls.{calls_in, first_phase}
use Rattle.caller_phases.proofs.Working.{AskedSoFar, next_asked, next_none}
use Rattle.caller_phases.proofs.workers.work.Goals as goal

pub loop-line-init : goal.loop-line-init
loop-line-init g c =
    let number = c.number-caller.ensures ∙ ap number_of c.into_inner-pass.ensures in
    record {
      asked = [];
      left = ap (λ (z : List Line). calls_in c.number-caller.result (first_phase z)) c.again-rest.ensures.lines;
      many = ap length c.requires.ready.none;
      room = subst
          (λ (n : ℕ). length (calls_in n (first_phase c.args.lines.now)) ≤ c.args.worker.replies.room)
          (sym number) c.requires.ready.room;
      index = c.new-waiter.ensures.index;
      session = (c.requires.ready.none, refl);
    }

-- a line without a call
pub loop-line-preserved : goal.loop-line-preserved
loop-line-preserved g c =
    let inv = c.loop-line.invariant in
    let was : AskedSoFar c.args.index.now c.number-caller.result (first_phase c.args.lines.now)
    c.new-waiter.result.pass c.loop-line.present (first_phase c.loop-line.rest) c.loop-line.replies.replies
    c.loop-line.waiter.pass =
    record { asked = inv.asked; left = inv.left; many = inv.many; session = inv.session } in
    let all = next_none c.args.index.now c.number-caller.result (first_phase c.args.lines.now)
    c.new-waiter.result.pass c.loop-line.present (first_phase c.loop-line.rest)
    (first_phase c.next_in_phase.new.lines) c.loop-line.replies.replies c.loop-line.waiter.pass was
    c.in-Some.line c.in-Phase.is c.in-Some.ensures in
    record {
      asked = all.asked;
      left = all.left;
      many = all.many;
      room = inv.room;
      index = inv.index;
      session = all.session;
    }

-- a call of the worker's caller
pub loop-line-preserved-then-present-caller : goal.loop-line-preserved-then-present-caller
loop-line-preserved-then-present-caller g c =
    let i = c.args.index.now in
    let caller = c.number-caller.result in
    let lines = first_phase c.args.lines.now in
    let replies = c.loop-line.replies.replies in
    let inv = c.loop-line.invariant in
    let was : AskedSoFar i caller lines c.new-waiter.result.pass c.loop-line.present
    (first_phase c.loop-line.rest) replies c.loop-line.waiter.pass =
    record { asked = inv.asked; left = inv.left; many = inv.many; session = inv.session } in
    let exchange = subst
    (λ (z : Index). Exchange Answers (caller_with z c.loop-line.waiter.pass) c.in-Call.request
    (c.ask.result ∷ []) (caller_with z c.ask.new.waiter.pass)) inv.index c.ask.ensures.exchange in
    let items = c.push.ensures.replies in
    let is : first_phase c.loop-line.rest ≡ Call c.in-Call.request ∷ first_phase c.next_in_phase.new.lines =
    c.in-Some.ensures ∙ ap (λ (l : Line). l ∷ first_phase c.next_in_phase.new.lines) c.in-Call.is in
    let all = next_asked i caller lines c.new-waiter.result.pass c.loop-line.present
    (first_phase c.loop-line.rest) (first_phase c.next_in_phase.new.lines) replies c.loop-line.waiter.pass was
    c.in-Call.request c.ask.result c.ask.new.waiter.pass is c.if-present-caller.true exchange in
    let same_room = c.push.ensures.room in
    let room = inv.room in
    let long = ap length items in
    let many = all.many in
    record {
      asked = all.asked;
      left = all.left;
      many = omega arith;
      room = omega arith;
      index = c.ask.ensures.index ∙ inv.index;
      session = subst
          (λ (z : List Reply). Session Answers (caller_with i c.new-waiter.result.pass) all.asked z
          (caller_with i c.ask.new.waiter.pass)) (sym items) all.session;
    }
