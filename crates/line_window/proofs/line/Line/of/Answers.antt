use Rattle.std.proofs.Common.{◌≤◌, ◌∙◌, length, arith}
use Rattle.std.proofs.lemmas.Grind.{common_steps}
use Rattle.line_window.proofs.Rising.{is_line}
use Rattle.line_window.proofs.Guesses.{error_of-within}
use Rattle.line_window.proofs.line.Line.of.Goals as goal

pub from_parts-line-requires : goal.from_parts-line-requires
from_parts-line-requires g c =
    rw (c.key-last.ensures.key, c.key-first.ensures.list, c.key-first.ensures.key, c.len-len.ensures) (is_line (g.K.Keys.list c.args.keys.now) 0 c.requires.rising (omega arith))

pub from_parts-requires-2 : goal.from_parts-requires-2
from_parts-requires-2 g c =
    let within : c.loop-place.error ≤ length (g.K.Keys.list c.args.keys.now) = omega (arith, error_of-within (g.K.Keys.list c.args.keys.now), c.loop-place.invariant.error) in
    rw (c.key-last.ensures.key, c.key-first.ensures.list, c.key-first.ensures.key, c.len-len.ensures) (is_line (g.K.Keys.list c.args.keys.now) c.loop-place.error c.requires.rising within)

pub loop-place-preserved : goal.loop-place-preserved
loop-place-preserved g c = record {
  list = c.key.ensures.list ∙ c.loop-place.invariant.list;
  origin = c.key.ensures.origin ∙ c.loop-place.invariant.origin;
  reads_kept = omega arith;
  leads = g.met.K.Keys.leads_on _ _ _ c.loop-place.invariant.leads c.key.ensures.leads;
  reads_raised = omega arith;
  error = grind (arith, common_steps);
}
