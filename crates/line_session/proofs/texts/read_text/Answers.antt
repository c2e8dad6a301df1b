use Rattle.std.proofs.Common.{◌≡◌, ◌++◌, ℕ, List, take, Result, Ok, Err, is_ok, is_err, false, cond, sym, ap, ◌∙◌, arith, length-append, length-take}
use Rattle.std.specs.Io.KnownBytes.{prepend_known}
use Rattle.line_session.proofs.Known.{took-more}
use Rattle.line_session.proofs.texts.read_text.Goals as goal

-- what is not refused is there
not_refused : {E : Type 0} (r : Result (Unit {0}) E) (old more now : List ℕ) → is_err r ≡ false
    → now ≡ cond (is_ok r) more old → now ≡ more
not_refused (Ok done) old more now well is = is
not_refused (Err e) old more now well is = absurd (cc well)

-- a piece moves from the source to the text
pub loop-left-preserved : goal.loop-left-preserved
loop-left-preserved g c =
    let was = c.loop-left.invariant in
    let piece = take c.in-Bytes.count c.read_at_most.new.buffer in
    let text = c.loop-left.text.items in
    let more : c.extend_from_slice.new.self.items ≡ text ++ piece =
    not_refused c.extend_from_slice.result text (text ++ piece) _ (sym c.is_err.ensures.value ∙ c.if-is_err.false) c.extend_from_slice.ensures.items in
    let took = took-more _ _ _ text piece was.took c.in-Bytes.ensures.bytes.2 in
    record {
      took = rw more took;
      limit = rw more (omega (arith, was.limit, c.in-Bytes.ensures.bytes, c.in-Bytes.ensures.limit, length-append text piece, length-take c.in-Bytes.count c.read_at_most.new.buffer));
      faults = c.in-Bytes.ensures.faults.same (λ failed. cc) ∙ was.faults;
    }

-- there was no memory for a piece that was taken
pub returns-then-is_err-clause-reads : goal.returns-then-is_err-clause-reads
returns-then-is_err-clause-reads g c =
    let was = c.loop-left.invariant in
    let piece = take c.in-Bytes.count c.read_at_most.new.buffer in
    let text = c.loop-left.text.items in
    record {
      taken = text ++ piece;
      took = took-more _ _ _ text piece was.took c.in-Bytes.ensures.bytes.2;
      stops = omega (arith, was.limit, c.in-Bytes.ensures.bytes, c.in-Bytes.ensures.limit, length-append text piece, length-take c.in-Bytes.count c.read_at_most.new.buffer);
    }

-- the input ended
pub returns-in-End-clause-reads : goal.returns-in-End-clause-reads
returns-in-End-clause-reads g c =
    let was = c.loop-left.invariant in
    record {
      took = was.took ∙ ap (λ known. prepend_known c.loop-left.text.items known) (sym c.in-End.ensures.bytes.1);
      at_end = rw c.in-End.ensures.bytes.1 c.in-End.ensures.bytes.0;
      below = omega (arith, was.limit);
    }

-- a read failed, or the limit was reached
pub returns-in-Failed-clause-reads : goal.returns-in-Failed-clause-reads
returns-in-Failed-clause-reads g c =
    let was = c.loop-left.invariant in
    record {
      taken = c.loop-left.text.items;
      took = was.took ∙ ap (λ known. prepend_known c.loop-left.text.items known) (sym c.in-Failed.ensures.bytes);
      stops = omega (arith, was.limit);
    }

pub returns-clause-reads : goal.returns-clause-reads
returns-clause-reads g c =
    let was = c.loop-left.invariant in
    record {
      taken = c.loop-left.text.items;
      took = was.took;
      stops = omega (arith, was.limit);
    }
