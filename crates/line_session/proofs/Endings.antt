-- How a session ends: cut off between two reads, by a reply, or with the input; and what is handed on at its end.
use Rattle.std.proofs.Common.{◌≡◌, ◌≢◌, ℕ, ◌<◌, ◌≤◌, List, Some, Result, Ok, Err, IsErr, is_err, true, false, inl, inr, sym, subst, ◌∙◌, arith}
use Rattle.map_model.specs.declared.calls.Call.{Call}
use Rattle.map_model.specs.declared.calls.Answer.{Answer}
use Rattle.wire_commands.specs.declared.request.Request.{Request}
use Rattle.line_session.specs.declared.ends.Ended.{Ended}
use Rattle.line_session.specs.declared.ends.Ended.TheVariants as ended
use Rattle.line_session.specs.Ends.{HandsOn}
use Rattle.line_session.specs.Asked.{Stop, after_line, KeepsLimit}
use Rattle.line_session.specs.Served.{SoFar, Conversation, Concludes, EndsByReply, EndsWithInput, HandsOnAtEnd, WroteOne}

-- the ends that come between two reads
abbrev pub IsCutOff : Ended → Type 0
IsCutOff ended.Limit = Unit {0}
IsCutOff ended.ReadFault = Unit {0}
IsCutOff how = ⊥

module _ {A : Type 0} (answers : A → Call → Answer → A → Type 0) where
  -- a session that goes on is cut off between two reads
  pub cut_off : (how : Ended) → IsCutOff how → (first now : A) (taken written kept : List ℕ)
      → SoFar answers first now taken written kept
      → Conversation answers first now how (after_line 0) taken written
  cut_off ended.Limit cut first now taken written kept so_far = record {
    requests = so_far.requests;
    replies = so_far.replies;
    covers = ((so_far.rest, so_far.asks), so_far.goes_on);
    session = so_far.session;
    wrote = so_far.wrote;
  }
  cut_off ended.ReadFault cut first now taken written kept so_far = record {
    requests = so_far.requests;
    replies = so_far.replies;
    covers = ((so_far.rest, so_far.asks), so_far.goes_on);
    session = so_far.session;
    wrote = so_far.wrote;
  }
  cut_off ended.End cut first now taken written kept so_far = absurd cut
  cut_off ended.Quit cut first now taken written kept so_far = absurd cut
  cut_off ended.WriteFault cut first now taken written kept so_far = absurd cut

  -- a session that came to an end, behind which what was held back was handed on, or not
  module _ (old new : A) (stop : Stop) (taken written : List ℕ) (held : ℕ) where
    concludes-so : (how : Ended) → Conversation answers old new how stop taken written
        → (how ≢ ended.WriteFault → held ≡ 0)
        → Concludes answers old new how stop taken written held
    concludes-so ended.WriteFault talk none = inl talk
    concludes-so ended.End talk none = (talk, none (λ is. cc))
    concludes-so ended.Quit talk none = (talk, none (λ is. cc))
    concludes-so ended.ReadFault talk none = (talk, none (λ is. cc))
    concludes-so ended.Limit talk none = (talk, none (λ is. cc))

    pub concludes : (how result : Ended) → Conversation answers old new how stop taken written
        → HandsOnAtEnd how result held
        → Concludes answers old new result stop taken written held
    concludes how result talk (inl (is, none)) =
        subst (λ r. Concludes answers old new r stop taken written held) (sym is) (concludes-so how talk none)
    concludes how result talk (inr (is, other, some)) =
        subst (λ r. Concludes answers old new r stop taken written held) (sym is)
        (inr (Some how, (λ same. other (cc same)), talk, some))

-- what an end by a reply is not, and what it says of the limit
pub limit-by_reply : (how : Ended) (most taken : ℕ) → EndsByReply (Some how) → taken ≤ most
    → KeepsLimit how most taken
limit-by_reply ended.Quit most taken ends le = le
limit-by_reply ended.WriteFault most taken ends le = le
limit-by_reply ended.End most taken ends le = absurd ends
limit-by_reply ended.ReadFault most taken ends le = absurd ends
limit-by_reply ended.Limit most taken ends le = absurd ends

pub no_end-by_reply : (how : Ended) → EndsByReply (Some how) → how ≡ ended.End → ⊥
no_end-by_reply ended.Quit ends is = cc
no_end-by_reply ended.WriteFault ends is = cc
no_end-by_reply ended.End ends is = ends
no_end-by_reply ended.ReadFault ends is = ends
no_end-by_reply ended.Limit ends is = ends

-- what an end with the input is not, and what it says of the limit
pub limit-with_input : (how : Ended) (most taken : ℕ) → EndsWithInput how → taken < most
    → KeepsLimit how most taken
limit-with_input ended.End most taken ends lt = lt
limit-with_input ended.Quit most taken ends lt = omega arith
limit-with_input ended.WriteFault most taken ends lt = omega arith
limit-with_input ended.ReadFault most taken ends lt = absurd ends
limit-with_input ended.Limit most taken ends lt = absurd ends

pub no_read_fault-with_input : (how : Ended) → EndsWithInput how → how ≡ ended.ReadFault → ⊥
no_read_fault-with_input ended.End ends is = cc
no_read_fault-with_input ended.Quit ends is = cc
no_read_fault-with_input ended.WriteFault ends is = cc
no_read_fault-with_input ended.ReadFault ends is = ends
no_read_fault-with_input ended.Limit ends is = ends

-- what holds of the end that a session came to, behind which what was held back was handed on, or not
pub limit-handed_on : (how result : Ended) (held most taken : ℕ) → HandsOnAtEnd how result held → taken ≤ most
    → KeepsLimit how most taken → KeepsLimit result most taken
limit-handed_on how result held most taken (inl (is, none)) le keeps =
    subst (λ r. KeepsLimit r most taken) (sym is) keeps
limit-handed_on how result held most taken (inr (is, other, some)) le keeps =
    subst (λ r. KeepsLimit r most taken) (sym is) le

-- it is no other end than that one, but a fault of the sink
pub same-handed_on : (how result other : Ended) (held : ℕ) → HandsOnAtEnd how result held → other ≢ ended.WriteFault
    → result ≡ other → how ≡ other
same-handed_on how result other held (inl (is, none)) no_fault same = sym is ∙ same
same-handed_on how result other held (inr (is, before, some)) no_fault same =
    absurd (no_fault (sym same ∙ is))

-- a flush that went well left nothing held back, and one that failed left something
pub none_held : {E : Type 0} (r : Result (Unit {0}) E) (old new : ℕ) → HandsOn r old new → is_err r ≡ false → new ≡ 0
none_held (Ok done) old new held well = held
none_held (Err e) old new held well = cc

pub some_held : {E : Type 0} (r : Result (Unit {0}) E) (old new : ℕ) → HandsOn r old new → is_err r ≡ true → 0 < new
some_held (Ok done) old new held failed = cc
some_held (Err e) old new held failed = held.0

pub no_err : {E : Type 0} (r : Result (Unit {0}) E) → is_err r ≡ false → IsErr r → ⊥
no_err (Ok done) well is = cc
no_err (Err e) well is = cc

-- a request that ends the session does so by its reply
pub ends-by_wrote : (how : Ended) (request : Request) (line added : List ℕ)
    → WroteOne (Some how) request line added → EndsByReply (Some how)
ends-by_wrote ended.Quit request line added wrote = tt
ends-by_wrote ended.WriteFault request line added wrote = tt
ends-by_wrote ended.End request line added wrote = wrote
ends-by_wrote ended.ReadFault request line added wrote = wrote
ends-by_wrote ended.Limit request line added wrote = wrote
