use Rattle.std.proofs.Common.{◌<◌, ◌≤◌, ◌++◌, length, take, None, inr, refl, sym, ap, ◌∙◌, arith, lit<, length-append, length-take}
use Rattle.std.specs.Io.KnownBytes.{prepend_known}
use Rattle.line_session.specs.declared.ends.Ended.TheVariants as ended
use Rattle.line_session.specs.Asked.{at_end, after_line}
use Rattle.line_session.proofs.Known.{took-more, told-more}
use Rattle.line_session.proofs.Endings.{limit-by_reply, no_end-by_reply, limit-with_input, cut_off, no_read_fault-with_input}
use Rattle.line_session.proofs.Endings.{concludes, limit-handed_on, same-handed_on, none_held, some_held, no_err}
use Rattle.line_session.proofs.serving.serve_one.Goals as goal

-- a piece was taken and answered, and the session goes on
pub loop-preserved : goal.loop-preserved
loop-preserved g c =
    let was = c.loop.invariant in
    let piece = take c.in-Bytes.count c.read_piece.new.buffer in
    let part = c.in_default.ensures.part in
    let well = sym c.is_err.ensures.value ∙ c.if-is_err.false in
    let length_is = length-append was.taken piece in
    record {
      goes = tt;
      ends = tt;
      taken = was.taken ++ piece;
      written = was.written ++ part.added;
      took = took-more _ _ _ was.taken piece was.took c.in-Bytes.ensures.bytes.2;
      told = told-more _ _ _ was.written part.added (c.flush.ensures.written ∙ was.told) part.told;
      limit = omega (arith, was.limit, c.in-Bytes.ensures.bytes, c.in-Bytes.ensures.limit, length-take c.in-Bytes.count c.read_piece.new.buffer);
      so_far = part.part _ was.taken was.written was.so_far;
      read_faults = c.in-Bytes.ensures.faults.same (λ failed. cc) ∙ was.read_faults;
      write_faults = c.in_default.ensures.faults.same (λ failed. cc) ∙ c.flush.ensures.faults.same (no_err c.flush.result well) ∙ was.write_faults;
    }

-- before the next read not all was handed on
pub returns-then-is_err-clause-session : goal.returns-then-is_err-clause-session
returns-then-is_err-clause-session g c =
    let was = c.loop.invariant in
    record {
      taken = was.taken;
      written = was.written;
      took = was.took;
      told = c.flush.ensures.written ∙ was.told;
      limit = omega (arith, was.limit);
      stop = after_line 0;
      stopped = lit< tt;
      ended_with_input = λ is. cc;
      concluded = inr (None, (λ same. cc), (_, was.so_far), some_held c.flush.result _ _ c.flush.ensures.held (sym c.is_err.ensures.value ∙ c.if-is_err.true));
    }

-- a line of the piece ended it
pub returns-in-Some-answer_piece-clause-session : goal.returns-in-Some-answer_piece-clause-session
returns-in-Some-answer_piece-clause-session g c =
    let was = c.loop.invariant in
    let piece = take c.in-Bytes.count c.read_piece.new.buffer in
    let said = c.in-Some-answer_piece.ensures in
    let how = c.in-Some-answer_piece.ended in
    let end = c.hand_on.ensures.end in
    let length_is = length-append was.taken piece in
    let within : length (was.taken ++ piece) ≤ c.args.most =
    omega (arith, was.limit, c.in-Bytes.ensures.bytes, c.in-Bytes.ensures.limit, length-take c.in-Bytes.count c.read_piece.new.buffer) in
    let few : said.part.dropped < 4096 =
    omega (arith, said.part.few_dropped, c.in-Bytes.ensures.bytes, c.read_piece.array_long, length-take c.in-Bytes.count c.read_piece.new.buffer) in
    record {
      taken = was.taken ++ piece;
      written = was.written ++ said.part.added;
      took = took-more _ _ _ was.taken piece was.took c.in-Bytes.ensures.bytes.2;
      told = c.hand_on.ensures.written ∙ told-more _ _ _ was.written said.part.added (c.flush.ensures.written ∙ was.told) said.part.told;
      limit = limit-handed_on how _ _ c.args.most _ end within (limit-by_reply how c.args.most _ said.ends within);
      stop = after_line said.part.dropped;
      stopped = few;
      ended_with_input = λ is. absurd (no_end-by_reply how said.ends (same-handed_on how _ ended.End _ end (λ e. cc) is));
      concluded = concludes g.A.Answerer.answers _ _ _ _ _ _ how _ (said.part.part _ was.taken was.written was.so_far) end;
    }

-- the input ended
pub returns-in-End-clause-session : goal.returns-in-End-clause-session
returns-in-End-clause-session g c =
    let was = c.loop.invariant in
    let said = c.answer_rest-ended.ensures in
    let how = c.answer_rest-ended.result in
    let end = c.hand_on-in-End.ensures.end in
    let within : length was.taken < c.args.most = omega (arith, was.limit) in
    record {
      taken = was.taken;
      written = was.written ++ said.whole.added;
      took = was.took ∙ ap (λ known. prepend_known was.taken known) (sym c.in-End.ensures.bytes.1);
      told = c.hand_on-in-End.ensures.written ∙ told-more _ _ _ was.written said.whole.added (c.flush.ensures.written ∙ was.told) said.whole.told;
      limit = limit-handed_on how _ _ c.args.most _ end (omega (arith, within)) (limit-with_input how c.args.most _ said.ends within);
      stop = at_end;
      stopped = (rw c.in-End.ensures.bytes.1 c.in-End.ensures.bytes.0, within);
      ended_with_input = λ is. refl;
      concluded = concludes g.A.Answerer.answers _ _ _ _ _ _ how _ (said.whole.whole _ was.taken was.written was.so_far) end;
    }

pub returns-in-End-clause-read_faults : goal.returns-in-End-clause-read_faults
returns-in-End-clause-read_faults g c =
    let how = c.answer_rest-ended.result in
    record {
      rose = λ is. absurd (no_read_fault-with_input how c.answer_rest-ended.ensures.ends (same-handed_on how _ ended.ReadFault _ c.hand_on-in-End.ensures.end (λ e. cc) is));
      same = λ other. c.in-End.ensures.faults.same (λ failed. cc) ∙ c.loop.invariant.read_faults;
    }

-- the limit was reached, or a read failed
pub returns-then-left-eq0-clause-session : goal.returns-then-left-eq0-clause-session
returns-then-left-eq0-clause-session g c =
    let was = c.loop.invariant in
    record {
      taken = was.taken;
      written = was.written;
      took = was.took;
      told = c.flush.ensures.written ∙ was.told;
      limit = omega (arith, was.limit);
      stop = after_line 0;
      stopped = lit< tt;
      ended_with_input = λ is. cc;
      concluded = (cut_off g.A.Answerer.answers ended.Limit tt _ _ was.taken was.written _ was.so_far, none_held c.flush.result _ _ c.flush.ensures.held (sym c.is_err.ensures.value ∙ c.if-is_err.false));
    }

pub returns-in-Failed-clause-session : goal.returns-in-Failed-clause-session
returns-in-Failed-clause-session g c =
    let was = c.loop.invariant in
    record {
      taken = was.taken;
      written = was.written;
      took = was.took ∙ ap (λ known. prepend_known was.taken known) (sym c.in-Failed.ensures.bytes);
      told = c.flush.ensures.written ∙ was.told;
      limit = omega (arith, was.limit);
      stop = after_line 0;
      stopped = lit< tt;
      ended_with_input = λ is. cc;
      concluded = (cut_off g.A.Answerer.answers ended.ReadFault tt _ _ was.taken was.written _ was.so_far, none_held c.flush.result _ _ c.flush.ensures.held (sym c.is_err.ensures.value ∙ c.if-is_err.false));
    }
