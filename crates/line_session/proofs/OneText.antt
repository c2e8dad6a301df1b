-- What a session over a plain map writes is settled by what was asked.
use Rattle.std.proofs.Common.{◌≡◌, ◌⊎◌, ℕ, List, [], ◌∷◌, ◌++◌, Some, inl, inr, refl, sym, ap, subst, ◌∙◌, append_assoc}
use Rattle.std.proofs.lemmas.List.{append-nil}
use Rattle.map_model.specs.declared.calls.Call.{Call}
use Rattle.map_model.specs.declared.calls.Call.TheVariants as call
use Rattle.map_model.specs.PlainMap.{BoundedMap, IsValid, Answers}
use Rattle.map_model.specs.Laws.{IsOfOneKey}
use Rattle.map_model.proofs.Answering.{one_answer, valid_after}
use Rattle.wire_commands.specs.declared.request.Request.{Request}
use Rattle.wire_commands.specs.declared.request.Request.TheVariants as request
use Rattle.wire_commands.specs.declared.reply.Reply.{Reply}
use Rattle.wire_commands.specs.Stream.{Asks, AsksToEnd}
use Rattle.wire_commands.proofs.GrammarLaws.{same_request}
use Rattle.wire_commands.specs.Grammar.{Reads}
use Rattle.wire_commands.proofs.StreamLaws.{same_asks, some_asks}
use Rattle.line_session.specs.declared.ends.Ended.{Ended}
use Rattle.line_session.specs.declared.ends.Ended.TheVariants as ended
use Rattle.line_session.specs.Session.{Tells, Exchange, Session, reply_of, lines_of}
use Rattle.line_session.specs.Asked.{Stop, at_end, after_line, GoesOn, AreAsked, Covers, Wrote}
use Rattle.line_session.specs.Laws.{RequestsHaveOneText, BytesHaveOneText, WroteAll}

-- one step from a valid map, which leaves a valid one, beside another of the same request
record Agrees (replies others : List Reply) (new more : BoundedMap) : Type 0 where
  pub replies_are : replies ≡ others
  pub maps_are : new ≡ more
  pub valid : IsValid new

tells : (old new more : BoundedMap) (asked : Call) (replies others : List Reply)
    → IsValid old → IsOfOneKey asked → Tells Answers old asked replies new → Tells Answers old asked others more
    → Agrees replies others new more
tells old new more asked replies others valid of_one_key (answer, reply, does, told, is) (answer', reply', does', told', is') =
    let one = one_answer old new more asked answer answer' valid of_one_key does does' in
    let same : Some reply ≡ Some reply' =
    sym told ∙ ap (reply_of asked) one.0 ∙ told' in
    record {
      replies_are = cc (is, is', same);
      maps_are = one.1;
      valid = valid_after old new asked answer valid does;
    }

exchanges : (old new more : BoundedMap) (r : Request) (replies others : List Reply)
    → IsValid old → Exchange Answers old r replies new → Exchange Answers old r others more
    → Agrees replies others new more
exchanges old new more (request.Get k) replies others valid a b =
    tells old new more (call.Get k) replies others valid tt a b
exchanges old new more (request.Put k v) replies others valid a b =
    tells old new more (call.Put k v) replies others valid tt a b
exchanges old new more (request.Remove k) replies others valid a b =
    tells old new more (call.Remove k) replies others valid tt a b
exchanges old new more request.Quit replies others valid a b = record {
  replies_are = a.0 ∙ sym b.0;
  maps_are = a.1 ∙ sym b.1;
  valid = subst IsValid (sym a.1) valid;
}
exchanges old new more (request.Bad reason) replies others valid a b = record {
  replies_are = a.0 ∙ sym b.0;
  maps_are = a.1 ∙ sym b.1;
  valid = subst IsValid (sym a.1) valid;
}

pub requests_have_one_text : RequestsHaveOneText
requests_have_one_text old new more [] replies others valid a b = (a.0 ∙ sym b.0, a.1 ∙ sym b.1)
requests_have_one_text old new more (r ∷ rs) replies others valid (mid, first, rest, does, session, is) (mid', first', rest', does', session', is') =
    let step = exchanges old mid mid' r first first' valid does does' in
    let beside = subst (λ m. Session Answers m rs rest' more) (sym step.maps_are) session' in
    let tail = requests_have_one_text mid new more rs rest rest' step.valid session beside in
    (cc (is, is', step.replies_are, tail.0), tail.1)

-- the end of the input leaves one list of requests
same_to_end : (bytes : List ℕ) (requests others : List Request)
    → AsksToEnd bytes requests → AsksToEnd bytes others → requests ≡ others
same_to_end bytes requests others (inl a) (inl b) =
    let same = same_asks bytes requests others [] [] a b in same.0
same_to_end bytes requests others (inl a) (inr (front, last, rest, is, b, some, reads)) =
    let same = same_asks bytes requests front [] rest a b in absurd (some (sym same.1))
same_to_end bytes requests others (inr (front, last, rest, is, a, some, reads)) (inl b) =
    let same = same_asks bytes front others rest [] a b in absurd (some same.1)
same_to_end bytes requests others (inr (front, last, rest, is, a, some, reads)) (inr (front', last', rest', is', b, some', reads')) =
    let same = same_asks bytes front front' rest rest' a b in
    let lasts = same_request rest last last' reads (rw same.1 reads') in
    cc (is, is', same.0, lasts)

asks-append : (front back : List ℕ) (requests more : List Request) (rest : List ℕ)
    → Asks front requests [] → Asks back more rest → Asks (front ++ back) (requests ++ more) rest
asks-append front back [] more rest a b = rw a.0 b
asks-append front back (r ∷ rs) more rest (line, mid, is, whole, reads, asks) b = (
  line,
  mid ++ back,
  ap (λ l. l ++ back) is ∙ append_assoc line (10 ∷ mid) back,
  whole,
  reads,
  asks-append mid back rs more rest asks b,
)

-- the lines of the bytes begin with these requests, or a last line without newline is one more
Begins : List Request → List ℕ → List Request → Type 0
Begins all rest requests =
    ((more : List Request) × (all ≡ requests ++ more))
    ⊎ ((last : Request) × Reads rest last × (requests ≡ all ++ last ∷ []))

begins : (stop : Stop) (bytes : List ℕ) (all : List Request) (rest : List ℕ) (requests : List Request)
    → Asks bytes all rest → AreAsked stop bytes requests → Begins all rest requests
unfolding Begins
begins at_end bytes all rest requests asks (inl a) =
    let same = same_asks bytes all requests rest [] asks a in inl ([], same.0 ∙ sym (append-nil requests))
begins at_end bytes all rest requests asks (inr (front, last, rest', is, a, some, reads)) =
    let same = same_asks bytes all front rest rest' asks a in
    inr (last, rw same.1 reads, is ∙ ap (λ rs. rs ++ last ∷ []) (sym same.0))
begins (after_line dropped) bytes all rest requests asks a =
    let behind = some_asks a.back in
    let whole = asks-append a.front a.back requests behind.0 behind.1 a.asks behind.2 in
    let same = same_asks bytes all (requests ++ behind.0) rest behind.1 asks (rw a.split whole) in
    inl (behind.0, same.0)

-- up to the first quit there is one list of requests
first_quit : (before other more behind : List Request) → GoesOn before → GoesOn other
    → before ++ request.Quit ∷ more ≡ other ++ request.Quit ∷ behind → before ≡ other
first_quit [] [] more behind goes goes' same = refl
first_quit [] (r ∷ rs) more behind goes goes' same = absurd (goes'.0 (cc same))
first_quit (r ∷ rs) [] more behind goes goes' same = absurd (goes.0 (cc same))
first_quit (r ∷ rs) (q ∷ qs) more behind goes goes' same =
    let heads : r ≡ q = cc same in
    let tails : rs ++ request.Quit ∷ more ≡ qs ++ request.Quit ∷ behind = cc same in
    cc (heads, first_quit rs qs more behind goes.1 goes'.1 tails)

-- a quit that a whole line asks for is the one that the last line asks for
same_quit_in_both : (all : List Request) (before other more : List Request) (last : Request)
    → GoesOn before → GoesOn other → all ≡ (before ++ request.Quit ∷ []) ++ more
    → other ++ request.Quit ∷ [] ≡ all ++ last ∷ [] → before ≡ other
same_quit_in_both all before other more last goes goes' is is' =
    first_quit before other (more ++ last ∷ []) [] goes goes'
    (sym (append_assoc before (request.Quit ∷ []) (more ++ last ∷ [])) ∙ sym (append_assoc (before ++ request.Quit ∷ []) more (last ∷ []))
    ∙ ap (λ rs. rs ++ last ∷ []) (sym is) ∙ sym is')

same_quits : (all : List Request) (rest : List ℕ) (before other : List Request) → GoesOn before → GoesOn other
    → Begins all rest (before ++ request.Quit ∷ []) → Begins all rest (other ++ request.Quit ∷ []) → before ≡ other
unfolding Begins
same_quits all rest before other goes goes' (inl (more, is)) (inl (behind, is')) =
    first_quit before other more behind goes goes'
    (sym (append_assoc before (request.Quit ∷ []) more) ∙ sym is ∙ is' ∙ append_assoc other (request.Quit ∷ []) behind)
same_quits all rest before other goes goes' (inl (more, is)) (inr (last, reads, is')) =
    same_quit_in_both all before other more last goes goes' is is'
same_quits all rest before other goes goes' (inr (last, reads, is)) (inl (behind, is')) =
    sym (same_quit_in_both all other before behind last goes' goes is' is)
same_quits all rest before other goes goes' (inr (last, reads, is)) (inr (last', reads', is')) =
    let lasts = same_request rest last last' reads reads' in
    first_quit before other [] [] goes goes' (is ∙ ap (λ q. all ++ q ∷ []) lasts ∙ sym is')

same_asked : (how : Ended) (stop other : Stop) (taken : List ℕ) (requests others : List Request)
    → WroteAll how → Covers how stop taken requests → Covers how other taken others → requests ≡ others
same_asked ended.End stop other taken requests others all a b =
    same_to_end taken requests others a.0 b.0
same_asked ended.Limit stop other taken requests others all ((rest, a), _) ((rest', b), _) =
    let same = same_asks taken requests others rest rest' a b in same.0
same_asked ended.ReadFault stop other taken requests others all ((rest, a), _) ((rest', b), _) =
    let same = same_asks taken requests others rest rest' a b in same.0
same_asked ended.Quit stop other taken requests others all (a, (before, is, goes)) (b, (before', is', goes')) =
    let lines = some_asks taken in
    let one = begins stop taken lines.0 lines.1 requests lines.2 a in
    let two = begins other taken lines.0 lines.1 others lines.2 b in
    let same = same_quits lines.0 lines.1 before before' goes goes' (rw (← is) one) (rw (← is') two) in
    is ∙ ap (λ rs. rs ++ request.Quit ∷ []) same ∙ sym is'
same_asked ended.WriteFault stop other taken requests others all a b = absurd all

wrote_all : (how : Ended) (replies : List Reply) (written : List ℕ)
    → WroteAll how → Wrote how replies written → written ≡ lines_of replies
wrote_all ended.End replies written all is = is
wrote_all ended.Limit replies written all is = is
wrote_all ended.ReadFault replies written all is = is
wrote_all ended.Quit replies written all is = is
wrote_all ended.WriteFault replies written all is = absurd all

pub bytes_have_one_text : BytesHaveOneText
bytes_have_one_text old new more how stop other taken written text valid all a b =
    let asked = same_asked how stop other taken a.requests b.requests all a.covers b.covers in
    let beside = subst (λ rs. Session Answers old rs b.replies more) (sym asked) b.session in
    let same = requests_have_one_text old new more a.requests a.replies b.replies valid a.session beside in
    let wrote = wrote_all how a.replies written all a.wrote in
    let too = wrote_all how b.replies text all b.wrote in
    (wrote ∙ ap lines_of same.0 ∙ sym too, same.1)
