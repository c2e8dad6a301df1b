-- A session over an answerer is one over what the answerer stands for.
--
-- Some facts hold of an answerer from its beginning on, and some of its end alone, and so of all before it.
use Rattle.std.proofs.Common.{List, [], ◌∷◌, Option, Some, None, inl, inr, sym, ap, subst}
use Rattle.std.specs.Prelude.{ℕ}
use Rattle.map_model.specs.declared.calls.Call.{Call}
use Rattle.map_model.specs.declared.calls.Call.TheVariants as call
use Rattle.map_model.specs.declared.calls.Answer.{Answer}
use Rattle.wire_commands.specs.declared.reply.Reply.{Reply}
use Rattle.wire_commands.specs.declared.request.Request.{Request}
use Rattle.wire_commands.specs.declared.request.Request.TheVariants as request
use Rattle.line_session.specs.declared.ends.Ended.{Ended}
use Rattle.line_session.specs.declared.ends.Ended.TheVariants as ended
use Rattle.line_session.specs.Ends.{EndsState}
use Rattle.line_session.specs.Session.{Exchange, Session}
use Rattle.line_session.specs.Asked.{Stop}
use Rattle.line_session.specs.Served.{Conversation, Reaches, Concludes, Serves}

module _ {A B : Type 0} (R : A → Call → Answer → A → Type 0) (S : B → Call → Answer → B → Type 0)
    (f : A → B) (Since : A → Type 0) (Until : A → Type 0)
    (on : (old : A) (c : Call) (a : Answer) (new : A) → Since old → R old c a new → Since new)
    (back : (old : A) (c : Call) (a : Answer) (new : A) → R old c a new → Until new → Until old)
    (means : (old : A) (c : Call) (a : Answer) (new : A) → Since old → R old c a new → Until new →
    S (f old) c a (f new)) where
  exchange_on : (old : A) (r : Request) (replies : List Reply) (new : A) → Since old →
      Exchange R old r replies new → Since new
  exchange_on old (request.Get k) replies new since x = on old (call.Get k) x.0 new since x.2
  exchange_on old (request.Put k v) replies new since x = on old (call.Put k v) x.0 new since x.2
  exchange_on old (request.Remove k) replies new since x = on old (call.Remove k) x.0 new since x.2
  exchange_on old request.Quit replies new since x = subst Since (sym x.1) since
  exchange_on old (request.Bad reason) replies new since x = subst Since (sym x.1) since

  exchange_back : (old : A) (r : Request) (replies : List Reply) (new : A) →
      Exchange R old r replies new → Until new → Until old
  exchange_back old (request.Get k) replies new x until = back old (call.Get k) x.0 new x.2 until
  exchange_back old (request.Put k v) replies new x until = back old (call.Put k v) x.0 new x.2 until
  exchange_back old (request.Remove k) replies new x until =
      back old (call.Remove k) x.0 new x.2 until
  exchange_back old request.Quit replies new x until = subst Until x.1 until
  exchange_back old (request.Bad reason) replies new x until = subst Until x.1 until

  exchange_means : (old : A) (r : Request) (replies : List Reply) (new : A) → Since old →
      Exchange R old r replies new → Until new → Exchange S (f old) r replies (f new)
  exchange_means old (request.Get k) replies new since x until =
      (x.0, x.1, means old (call.Get k) x.0 new since x.2 until, x.3, x.4)
  exchange_means old (request.Put k v) replies new since x until =
      (x.0, x.1, means old (call.Put k v) x.0 new since x.2 until, x.3, x.4)
  exchange_means old (request.Remove k) replies new since x until =
      (x.0, x.1, means old (call.Remove k) x.0 new since x.2 until, x.3, x.4)
  exchange_means old request.Quit replies new since x until = (x.0, ap f x.1)
  exchange_means old (request.Bad reason) replies new since x until = (x.0, ap f x.1)

  pub session_on : (old : A) (rs : List Request) (replies : List Reply) (new : A) → Since old →
      Session R old rs replies new → Since new
  session_on old [] replies new since s = subst Since (sym s.1) since
  session_on old (r ∷ rs) replies new since s =
      session_on s.0 rs s.2 new (exchange_on old r s.1 s.0 since s.3) s.4

  session_back : (old : A) (rs : List Request) (replies : List Reply) (new : A) →
      Session R old rs replies new → Until new → Until old
  session_back old [] replies new s until = subst Until s.1 until
  session_back old (r ∷ rs) replies new s until =
      exchange_back old r s.1 s.0 s.3 (session_back s.0 rs s.2 new s.4 until)

  pub session_means : (old : A) (rs : List Request) (replies : List Reply) (new : A) → Since old →
      Session R old rs replies new → Until new → Session S (f old) rs replies (f new)
  session_means old [] replies new since s until = (s.0, ap f s.1)
  session_means old (r ∷ rs) replies new since s until = (
    f s.0,
    s.1,
    s.2,
    exchange_means old r s.1 s.0 since s.3 (session_back s.0 rs s.2 new s.4 until),
    session_means s.0 rs s.2 new (exchange_on old r s.1 s.0 since s.3) s.4 until,
    s.5,
  )

  module _ (old new : A) where
    -- what held at the beginning of a session holds at its end
    talk_on : (how : Ended) (stop : Stop) (taken written : List ℕ) → Since old →
        Conversation R old new how stop taken written → Since new
    talk_on how stop taken written since c = session_on old c.requests c.replies new since c.session

    reached_on : (reached : Option Ended) (stop : Stop) (taken written : List ℕ) → Since old →
        Reaches R old new reached stop taken written → Since new
    reached_on None stop taken written since c =
        session_on old c.1.requests c.1.replies new since c.1.session
    reached_on (Some how) stop taken written since c = talk_on how stop taken written since c

    concluded_on : (how : Ended) (stop : Stop) (taken written : List ℕ) (held : ℕ) → Since old →
        Concludes R old new how stop taken written held → Since new
    concluded_on ended.WriteFault stop taken written held since (inl c) =
        talk_on ended.WriteFault stop taken written since c
    concluded_on ended.WriteFault stop taken written held since (inr (reached, other, c, some)) =
        reached_on reached stop taken written since c
    concluded_on ended.End stop taken written held since c =
        talk_on ended.End stop taken written since c.0
    concluded_on ended.Quit stop taken written held since c =
        talk_on ended.Quit stop taken written since c.0
    concluded_on ended.ReadFault stop taken written held since c =
        talk_on ended.ReadFault stop taken written since c.0
    concluded_on ended.Limit stop taken written held since c =
        talk_on ended.Limit stop taken written since c.0

    -- the session over what the answerer stands for
    talk_means : (how : Ended) (stop : Stop) (taken written : List ℕ) → Since old → Until new →
        Conversation R old new how stop taken written →
        Conversation S (f old) (f new) how stop taken written
    talk_means how stop taken written since until c = record {
      requests = c.requests;
      replies = c.replies;
      covers = c.covers;
      session = session_means old c.requests c.replies new since c.session until;
      wrote = c.wrote;
    }

    reached_means : (reached : Option Ended) (stop : Stop) (taken written : List ℕ) → Since old →
        Until new → Reaches R old new reached stop taken written →
        Reaches S (f old) (f new) reached stop taken written
    reached_means None stop taken written since until (kept, c) = (
      kept,
      record {
        requests = c.requests;
        replies = c.replies;
        rest = c.rest;
        asks = c.asks;
        keeps = c.keeps;
        goes_on = c.goes_on;
        session = session_means old c.requests c.replies new since c.session until;
        wrote = c.wrote;
      },
    )
    reached_means (Some how) stop taken written since until c =
        talk_means how stop taken written since until c

    concluded_means : (how : Ended) (stop : Stop) (taken written : List ℕ) (held : ℕ) → Since old →
        Until new → Concludes R old new how stop taken written held →
        Concludes S (f old) (f new) how stop taken written held
    concluded_means ended.WriteFault stop taken written held since until (inl c) =
        inl (talk_means ended.WriteFault stop taken written since until c)
    concluded_means ended.WriteFault stop taken written held since until
        (inr (reached, other, c, some)) =
        inr (reached, other, reached_means reached stop taken written since until c, some)
    concluded_means ended.End stop taken written held since until c =
        (talk_means ended.End stop taken written since until c.0, c.1)
    concluded_means ended.Quit stop taken written held since until c =
        (talk_means ended.Quit stop taken written since until c.0, c.1)
    concluded_means ended.ReadFault stop taken written held since until c =
        (talk_means ended.ReadFault stop taken written since until c.0, c.1)
    concluded_means ended.Limit stop taken written held since until c =
        (talk_means ended.Limit stop taken written since until c.0, c.1)

  module _ (old new : A) (ends_old ends_new : EndsState) (most : ℕ) (how : Ended)
      (serves : Serves R old new ends_old ends_new most how) where
    -- what held at the beginning holds at the end
    pub serves_on : Since old → Since new
    serves_on since =
        concluded_on old new how serves.stop serves.taken serves.written ends_new.held since serves.concluded

    -- the session over what the answerer stands for
    pub serves_means : Since old → Until new →
        Serves S (f old) (f new) ends_old ends_new most how
    serves_means since until = record {
      taken = serves.taken;
      written = serves.written;
      took = serves.took;
      told = serves.told;
      limit = serves.limit;
      stop = serves.stop;
      stopped = serves.stopped;
      ended_with_input = serves.ended_with_input;
      concluded =
          concluded_means old new how serves.stop serves.taken serves.written ends_new.held since until serves.concluded;
    }
