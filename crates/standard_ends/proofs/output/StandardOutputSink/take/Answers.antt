use Rattle.std.proofs.Common.{◌≡◌, ℕ, List, [], ◌++◌, take, drop, refl, subst, sym, ap, ◌∙◌, arith}
use Rattle.std.proofs.lemmas.List.{drop-append-le}
use Rattle.standard_ends.specs.Real.{Gives}
use Rattle.standard_ends.proofs.Giving.{gives_nothing, gives_all, gives_then}
use Rattle.standard_ends.proofs.output.StandardOutputSink.take.Goals as goal
use Rattle.standard_ends.proofs.output.StandardOutputSink.take.Goals.{else-len-eq-MOST-via-then-len-eq-MOST+else-is_err, else-len-eq-MOST-via-else-len-eq-MOST}

-- the piece comes behind what waits, of which all was given where there was no room
pub returns-clause-stream : goal.returns-clause-stream
returns-clause-stream g c =
    let gathered = c.self-2.inside.gathered.items in
    let came = take c.min-count.result c.args.piece.now in
    let grown : c.extend_from_slice.new.self.items ≡ gathered ++ came =
    rw c.unwrap.ensures at c.extend_from_slice.ensures.items in
    let waits = ap (λ (l : List ℕ). drop c.self-2.inside.given l) grown
    ∙ drop-append-le c.self-2.inside.given gathered came (omega (arith, c.self-2.invariant.given)) in
    let before : Gives [] c.args.self.now c.else-len-eq-MOST.self =
    elim c.else-len-eq-MOST.branch [
      | else-len-eq-MOST-via-then-len-eq-MOST+else-is_err w ↦
          rw w.self-is (gives_all w.flush.result _ _ w.flush.ensures.stream (sym w.is_err.ensures.value ∙ w.if-is_err.false))
      | else-len-eq-MOST-via-else-len-eq-MOST w ↦ rw w.self-is (gives_nothing c.args.self.now)
    ] in
    gives_then c.args.self.now _ _ came (subst (Gives [] c.args.self.now) (sym c.self-2.view_is) before) refl waits
