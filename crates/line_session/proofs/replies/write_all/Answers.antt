use Rattle.std.proofs.Common.{ℕ, ◌++◌, List, take, drop, length, sym, ap, ◌∙◌, append_assoc, take-append-drop, arith}
use Rattle.std.proofs.lemmas.Slice.{between_to_end}
use Rattle.line_session.proofs.Known.{append_known-append}
use Rattle.line_session.proofs.replies.write_all.Goals as goal

-- what the sink took moves from the rest to the front
pub loop-rest-preserved : goal.loop-rest-preserved
loop-rest-preserved g c =
    let was = c.loop-rest.invariant in
    let rest = c.loop-rest.rest.now in
    let n = c.in-Bytes.taken in
    let took = c.in-Bytes.ensures.bytes in
    record {
      front = was.front ++ take n rest;
      split = rw (between_to_end rest n (length rest) (omega arith))
          (was.split ∙ ap (λ (l : List ℕ). was.front ++ l) (sym (take-append-drop n rest)) ∙ sym (append_assoc was.front (take n rest) (drop n rest)));
      written = took.2 ∙ rw was.written (sym (append_known-append _ was.front (take n rest)));
      faults = c.in-Bytes.ensures.faults.same (λ failed. cc) ∙ was.faults;
    }
