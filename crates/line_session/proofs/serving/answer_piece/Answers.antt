use Rattle.std.proofs.Common.{◌≡◌, ◌<◌, ℕ, List, [], ◌∷◌, ◌++◌, length, refl, sym, ap, ◌∙◌, append_assoc, arith, length-append}
use Rattle.line_session.proofs.Sessions.{continues-start, continues-on, continues-then, continues-dropping, continues-by_line, continues-by_bytes}
use Rattle.line_session.proofs.Endings.{ends-by_wrote}
use Rattle.line_session.proofs.serving.answer_piece.Goals as goal

-- a line moves from the rest to the front
moved : (front line more : List ℕ) → front ++ (line ++ 10 ∷ more) ≡ (front ++ (line ++ 10 ∷ [])) ++ more
moved front line more =
    sym (append_assoc front (line ++ 10 ∷ []) more ∙ ap (λ (l : List ℕ). front ++ l) (append_assoc line (10 ∷ []) more))

some_before : (front line : List ℕ) → 0 < length (front ++ (line ++ 10 ∷ []))
some_before front line = omega (arith, length-append front (line ++ 10 ∷ []), length-append line (10 ∷ []))

pub loop-request-init : goal.loop-request-init
loop-request-init g c =
    record { front = []; split = refl; part = continues-start g.A.Answerer.answers _ _ _; faults = refl }

-- a line was answered behind those before it
pub loop-request-preserved : goal.loop-request-preserved
loop-request-preserved g c =
    let was = c.loop-request.invariant in
    let line = c.in-Some.ensures.0 in
    let whole = line.front ++ 10 ∷ [] in
    record {
      front = was.front ++ whole;
      split = was.split ∙ ap (λ (l : List ℕ). was.front ++ l) line.cut ∙ moved was.front line.front c.in-Some.more.now;
      part = continues-on g.A.Answerer.answers _ _ _ _ _ _ _ _ _ was.front whole _ refl was.part
          (continues-by_line g.A.Answerer.answers _ _ _ _ c.in-Some.request _ _ _ _ _ line c.in-Some.ensures.1 c.in_default-answer.ensures.one);
      faults = c.in_default-answer.ensures.faults.same (λ failed. cc) ∙ was.faults;
    }

-- the bytes behind it are dropped
pub returns-in-Some-answer-clause-part : goal.returns-in-Some-answer-clause-part
returns-in-Some-answer-clause-part g c =
    let was = c.loop-request.invariant in
    let line = c.in-Some.ensures.0 in
    let one = c.in-Some-answer.ensures.one in
    let whole = line.front ++ 10 ∷ [] in
    let split = was.split ∙ ap (λ (l : List ℕ). was.front ++ l) line.cut ∙ moved was.front line.front c.in-Some.more.now in
    continues-dropping g.A.Answerer.answers _ _ _ _ _ _ (was.front ++ whole) c.in-Some.more.now c.args.piece.now c.in-Some-answer.ended
    (sym split) (some_before was.front line.front) (ends-by_wrote c.in-Some-answer.ended _ _ _ one.wrote)
    (continues-then g.A.Answerer.answers _ _ _ _ _ _ _ _ _ was.front whole (was.front ++ whole) _ refl (some_before [] line.front) was.part
    (continues-by_line g.A.Answerer.answers _ _ _ _ c.in-Some.request _ _ _ _ _ line c.in-Some.ensures.1 one))

-- what is left ends no line
pub returns-clause-part : goal.returns-clause-part
returns-clause-part g c =
    let was = c.loop-request.invariant in
    continues-on g.A.Answerer.answers _ _ _ _ _ _ _ _ _ was.front c.loop-request.rest.now c.args.piece.now (sym was.split) was.part
    (continues-by_bytes g.A.Answerer.answers _ _ _ _ _ c.in_default.ensures)
