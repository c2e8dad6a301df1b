-- A caller makes its calls, line by line.
use Rattle.std.proofs.Common.{◌≡◌, ℕ, ◌⊎◌, ⊎_elim, List, [], ◌∷◌, ◌++◌, length}
use Rattle.std.proofs.Common.{refl, sym, ap, ◌∙◌, arith, append_assoc, length-append, eq-eqb}
use Rattle.wire_commands.specs.declared.reply.Reply.{Reply}
use Rattle.wire_commands.specs.declared.request.Request.{Request}
use Rattle.line_session.specs.Session.{Exchange, Session}
use Rattle.trace_text.specs.declared.lines.Line.{Line}
use Rattle.trace_text.specs.declared.lines.Line.TheVariants.{Skip, Phase, Call}
use Rattle.xindex_core.specs.declared.index.Index.{Index}
use Rattle.xindex_core.specs.declared.pass.Pass.{Pass}
use Rattle.xindex_core.specs.Answering.{Answers}
use Rattle.xindex_core.specs.Passes.{caller_with}
use Rattle.caller_phases.specs.Calls.{calls_in, calls_of}
use Rattle.caller_phases.proofs.Replying.{session_snoc}

-- what was asked of the lines so far was replied, and the calls of those that are left are still to come
pub record AskedSoFar (i : Index) (caller : ℕ) (lines : List Line) (first : Pass) (present : ℕ)
    (rest : List Line) (replies : List Reply) (now : Pass) : Type 0 where
  pub asked : List Request
  pub left : asked ++ calls_of caller present rest ≡ calls_in caller lines
  pub many : length replies ≡ length asked
  pub session : Session Answers (caller_with i first) asked replies (caller_with i now)

module _ (i : Index) (caller : ℕ) (lines : List Line) (first : Pass) (present : ℕ) (left rest : List Line)
    (replies : List Reply) (now : Pass) (so_far : AskedSoFar i caller lines first present left replies now)
  where
    -- a line that says nothing of calls
    pub next_none : (line : Line) → (line ≡ Phase) ⊎ (line ≡ Skip) → left ≡ line ∷ rest →
        AskedSoFar i caller lines first present rest replies now
    next_none line which is =
        record {
          asked = so_far.asked;
          left = ap (λ (z : List Request). so_far.asked ++ z) (sym (ap (calls_of caller present) is ∙ none))
              ∙ so_far.left;
          many = so_far.many;
          session = so_far.session;
        }
      where
        none : calls_of caller present (line ∷ rest) ≡ calls_of caller present rest
        none =
            ⊎_elim (λ (phase : line ≡ Phase). ap (λ (l : Line). calls_of caller present (l ∷ rest)) phase)
            (λ (skip : line ≡ Skip). ap (λ (l : Line). calls_of caller present (l ∷ rest)) skip) which

    -- a call of its own, which is asked
    pub next_asked : (request : Request) (reply : Reply) (then : Pass) → left ≡ Call request ∷ rest →
        present ≡ caller →
        Exchange Answers (caller_with i now) request (reply ∷ []) (caller_with i then) →
        AskedSoFar i caller lines first present rest (replies ++ reply ∷ []) then
    next_asked request reply then is own exchange =
        let here : calls_of caller present left ≡ request ∷ calls_of caller present rest =
        ap (calls_of caller present) is ∙ rw (eq-eqb present caller own) refl in
        let many = so_far.many in
        let one = length-append so_far.asked (request ∷ []) in
        let more = length-append replies (reply ∷ []) in
        record {
          asked = so_far.asked ++ request ∷ [];
          left = append_assoc so_far.asked (request ∷ []) (calls_of caller present rest)
              ∙ (ap (λ (z : List Request). so_far.asked ++ z) (sym here) ∙ so_far.left);
          many = omega arith;
          session = session_snoc Answers (caller_with i first) so_far.asked replies (caller_with i now)
              request (reply ∷ []) (caller_with i then) so_far.session exchange;
        }
