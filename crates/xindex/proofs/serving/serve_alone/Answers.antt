-- Once the other passes have been told, all changes are known to be those of pass 0.
use Rattle.std.proofs.Common.{◌≡◌, ◌∙◌, ◌<◌, [], length, refl, subst, sym, ap, arith}
use Rattle.map_model.specs.Logs.{Log, changes_of}
use Rattle.index_machine.specs.Execution.{Execution}
use Rattle.index_machine.specs.LivePlaces.{history}
use Rattle.line_session.specs.Ends.{ends_of}
use Rattle.line_session.specs.Served.{Serves}
use Rattle.xindex_core.specs.Alone.{AllByZero, AnswersAlone}
use Rattle.xindex_core.specs.Passes.{caller_with, limits_of_index, log_of}
use Rattle.xindex_core.proofs.AloneSteps.{seen_is}
use Rattle.xindex.proofs.Sessions.{first_made_none, served_alone}
use Rattle.xindex.proofs.serving.serve_alone.Goals as goal

pub returns-clause-opened : goal.returns-clause-opened
returns-clause-opened g c =
    let i = c.args.opened.index in
    let l = limits_of_index i in
    let passes = c.told_all-passes.result.items in
    let now = c.told_all-passes.ensures.many in
    let one = c.remove-first.ensures.len in
    let were = c.requires.new.many in
    let before = c.args.opened.passes.ok.0 in
    let behind = c.remove-first.new.self.ok.0 in
    let own = served_alone i passes c.told_all-passes.ensures.served (omega arith) in
    let until = subst (λ (t : Execution). AllByZero (history t)) c.told_all-passes.ensures.known own in
    let all = seen_is l (caller_with i c.serve_by-ended.result.1) c.serve_by-ended.ensures.alone until in
    record {
      limits = refl;
      parts = c.requires.new.parts;
      empty = c.requires.new.rows_are;
      many = omega arith;
      passes = c.told_all-passes.ensures.served;
      changes = ap changes_of c.told_all-passes.ensures.log
          ∙ (all ∙ ap history (sym c.told_all-passes.ensures.known));
      keeper = c.into_inner-keeper.ensures.of i c.requires.name;
    }

pub returns-clause-session : goal.returns-clause-session
returns-clause-session g c =
    let l = limits_of_index c.args.opened.index in
    let passes = c.told_all-passes.result.items in
    let now = c.told_all-passes.ensures.many in
    let one = c.remove-first.ensures.len in
    let were = c.requires.new.many in
    let before = c.args.opened.passes.ok.0 in
    let behind = c.remove-first.new.self.ok.0 in
    let own = served_alone c.args.opened.index passes c.told_all-passes.ensures.served (omega arith) in
    let until = subst (λ (t : Execution). AllByZero (history t)) c.told_all-passes.ensures.known own in
    let some : 0 < length c.args.opened.passes.items = omega arith in
    let none : log_of c.remove-first.result ≡ [] =
    ap log_of c.remove-first.ensures.value
    ∙ first_made_none c.args.opened.index 0 c.args.opened.passes.items c.remove-first.result
    c.requires.new.passes some in
    subst
    (λ (z : Log × Log). Serves (AnswersAlone l) z.0 z.1
    (ends_of (g.S.Ends.state c.args.source.now) (g.K.Ends.state c.args.sink.now))
    (ends_of (g.S.Ends.state c.serve_by-ended.new.source) (g.K.Ends.state c.serve_by-ended.new.sink)) c.args.most c.serve_by-ended.result.0)
    (λ j. (none j, sym c.told_all-passes.ensures.log j))
    (c.serve_by-ended.ensures.session until)
