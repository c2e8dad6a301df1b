-- Each of the others heeds a note of the first, which stays as it is.
use Rattle.std.proofs.Common.{◌∙◌, arith, subst, sym}
use Rattle.std.specs.Prelude.{slice_index_or}
use Rattle.index_machine.specs.Execution.{Execution}
use Rattle.xindex_core.specs.Notes.{HeedsNews}
use Rattle.xindex_core.specs.Passes.{known_to}
use Rattle.xindex.specs.Served.{AreTold}
use Rattle.xindex.proofs.Sessions.{told_next}
use Rattle.xindex.proofs.serving.told_all.Goals as goal

pub loop-other-preserved : goal.loop-other-preserved
loop-other-preserved c =
    let i = c.loop-other.invariant in
    let index = c.args.index.now in
    let still = c.tell-note.ensures.pass in
    let items = c.loop-other.other-items in
    let at = c.loop-other.other-index in
    let d = c.other-item.result in
    let news = subst
    (λ (t : Execution). HeedsNews index (slice_index_or items at d) t c.heed.new.self)
    c.tell-note.ensures.known c.heed.ensures in
    let next = told_next index (known_to c.loop-other.first) i.told i.new items at d c.heed.new.self
    i.split i.many
    (let below = c.loop-other-test.true in let same = c.loop-other.auto.other-items in omega arith)
    i.are_told i.are_new news in
    record {
      first = still.of;
      number = still.number ∙ i.number;
      known = still.known ∙ i.known;
      log = still.log ∙ i.log;
      told = next.told;
      new = next.new;
      split = next.split;
      many = next.many;
      are_told = subst (λ (t : Execution). AreTold index t 1 next.told) (sym still.known)
          next.are_told;
      are_new = next.are_new;
    }
