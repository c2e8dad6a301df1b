-- A session goes on by one request, and ends by one.
use Rattle.std.proofs.Common.{◌≡◌, ◌≢◌, ◌⊎◌, ◌↔◌, ℕ, ◌+◌, ◌<◌, ◌≤◌, List, [], ◌∷◌, ◌++◌, length, take, Option, Some, None, unwrap_or, inl, inr, refl, sym, ap, subst, ◌∙◌, append_assoc, arith, length-append, length-take}
use Rattle.std.specs.List.{AllByRecursion}
use Rattle.std.proofs.lemmas.List.{append-nil}
use Rattle.std.proofs.lemmas.List.Concat.{flat_map-append}
use Rattle.map_model.specs.declared.calls.Call.{Call}
use Rattle.map_model.specs.declared.calls.Answer.{Answer}
use Rattle.wire_commands.specs.declared.request.Request.{Request}
use Rattle.wire_commands.specs.declared.request.Request.TheVariants.{Quit}
use Rattle.wire_commands.specs.declared.reply.Reply.{Reply}
use Rattle.wire_commands.specs.Grammar.{Reads}
use Rattle.wire_commands.specs.Replies.{line_of}
use Rattle.wire_commands.specs.Stream.{Asks, AsksToEnd, HasNoNewline}
use Rattle.wire_commands.specs.Feed.{room, EndsLine, Lengthens, StandsFor, TakesEnd}
use Rattle.wire_commands.proofs.StreamLaws.{asks_bytes, asks_newline}
use Rattle.line_session.specs.declared.ends.Ended.{Ended}
use Rattle.line_session.specs.declared.ends.Ended.TheVariants as ended
use Rattle.line_session.specs.Ends.{EndsState}
use Rattle.line_session.specs.Session.{Exchange, Session, lines_of}
use Rattle.line_session.specs.Asked.{at_end, StopsAtLast, AreFirstLines, LacksOfLast}
use Rattle.line_session.specs.Served.{SoFar, Conversation, ComesTo, AnswersOne, Continues, EndsByReply}
use Rattle.line_session.proofs.Known.{append_known-nil, append_known-append, told-more}

all-push : {X : Type 0} (P : X → Type 0) (xs : List X) (x : X) → AllByRecursion P xs → P x
    → AllByRecursion P (xs ++ x ∷ [])
all-push P [] x all this = (this, tt)
all-push P (y ∷ ys) x all this = (all.0, all-push P ys x all.1 this)

cases_nil : (xs : List ℕ) → (xs ≡ []) ⊎ (xs ≢ [])
cases_nil [] = inl refl
cases_nil (x ∷ xs) = inr (λ none. cc)

length-nil : (xs : List ℕ) → length xs ≤ 0 → xs ≡ []
length-nil [] le = refl
length-nil (x ∷ xs) le = absurd (omega arith)

lines_of-push : (replies : List Reply) (reply : Reply)
    → lines_of (replies ++ reply ∷ []) ≡ lines_of replies ++ line_of reply
lines_of-push replies reply =
    flat_map-append line_of replies (reply ∷ [])
    ∙ ap (λ (l : List ℕ). lines_of replies ++ l) (append-nil (line_of reply))

-- the first lines stay the first ones, and more bytes follow them
first_lines-more : (bytes more : List ℕ) (requests : List Request) (dropped : ℕ)
    → AreFirstLines bytes requests dropped
    → AreFirstLines (bytes ++ more) requests (dropped + length more)
first_lines-more bytes more requests dropped first = record {
  front = first.front;
  back = first.back ++ more;
  split = ap (λ (l : List ℕ). l ++ more) first.split ∙ append_assoc first.front first.back more;
  asks = first.asks;
  length_is = omega (arith, length-append first.back more, first.length_is);
}

-- the lines of bytes that end with a newline are the first ones
first_lines-all : (bytes : List ℕ) (requests : List Request) → Asks bytes requests []
    → AreFirstLines bytes requests 0
first_lines-all bytes requests asks =
    record { front = bytes; back = []; split = sym (append-nil bytes); asks = asks; length_is = refl }

module _ {A : Type 0} (answers : A → Call → Answer → A → Type 0) where
  session-push : (old mid new : A) (requests : List Request) (replies : List Reply)
      (request : Request) (reply : Reply)
      → Session answers old requests replies mid → Exchange answers mid request (reply ∷ []) new
      → Session answers old (requests ++ request ∷ []) (replies ++ reply ∷ []) new
  session-push old mid new [] replies request reply session exchange = (
    new,
    reply ∷ [],
    [],
    subst (λ a. Exchange answers a request (reply ∷ []) new) session.1 exchange,
    (refl, refl),
    ap (λ (l : List Reply). l ++ reply ∷ []) session.0,
  )
  session-push old mid new (r ∷ rs) replies request reply
      (next, first, rest, exchanged, after, is) exchange = (
        next,
        first,
        rest ++ reply ∷ [],
        exchanged,
        session-push next mid new rs rest request reply after exchange,
        ap (λ (l : List Reply). l ++ reply ∷ []) is ∙ append_assoc first rest (reply ∷ []),
      )

  module _ (first old new : A) (taken written kept : List ℕ)
      (so_far : SoFar answers first old taken written kept) where
    module _ (request : Request) (ends_old ends_new : EndsState) where
      abbrev One : Option Ended → Type 0
      One result = AnswersOne answers old new request ends_old ends_new result

      session-one : (result : Option Ended) (one : One result)
          → Session answers first (so_far.requests ++ request ∷ []) (so_far.replies ++ one.reply ∷ []) new
      session-one result one =
          session-push first old new so_far.requests so_far.replies request one.reply so_far.session one.exchange

      written-one : (reply : Reply) (added : List ℕ) → added ≡ line_of reply
          → written ++ added ≡ lines_of (so_far.replies ++ reply ∷ [])
      written-one reply added is =
          (λ i. so_far.wrote i ++ is i) ∙ sym (lines_of-push so_far.replies reply)

      lacks-last : (one : One (Some ended.WriteFault))
          → LacksOfLast (so_far.replies ++ one.reply ∷ []) (written ++ one.added)
      lacks-last one = record {
        before = so_far.replies;
        last = one.reply;
        replies_are = refl;
        part = one.added;
        lost = one.wrote.0;
        line_is = one.wrote.1;
        some_lost = one.wrote.2;
        written_is = ap (λ (l : List ℕ). l ++ one.added) so_far.wrote;
      }

      stops-at_last : StopsAtLast (so_far.requests ++ request ∷ [])
      stops-at_last = (so_far.requests, request, refl, so_far.goes_on)

      -- a newline completed the line
      pub comes-by_newline : (result : Option Ended) → Reads so_far.rest request → (one : One result)
          → (kept_new : List ℕ) → kept_new ≡ []
          → ComesTo answers first new (taken ++ 10 ∷ []) (written ++ one.added) kept_new 0 result
      comes-by_newline None reads one kept_new cleared = record {
        requests = so_far.requests ++ request ∷ [];
        replies = so_far.replies ++ one.reply ∷ [];
        rest = [];
        asks = asks_newline taken so_far.requests so_far.rest request so_far.asks reads;
        keeps = cleared;
        goes_on = all-push (λ r. r ≢ Quit) so_far.requests request so_far.goes_on one.wrote.1;
        session = session-one None one;
        wrote = written-one one.reply one.added one.wrote.0;
      }
      comes-by_newline (Some ended.Quit) reads one kept_new cleared = record {
        requests = so_far.requests ++ request ∷ [];
        replies = so_far.replies ++ one.reply ∷ [];
        covers = (
          first_lines-all _ _ (asks_newline taken so_far.requests so_far.rest request so_far.asks reads),
          (so_far.requests, (λ i. so_far.requests ++ one.wrote.1 i ∷ []), so_far.goes_on),
        );
        session = session-one _ one;
        wrote = written-one one.reply one.added one.wrote.0;
      }
      comes-by_newline (Some ended.WriteFault) reads one kept_new cleared = record {
        requests = so_far.requests ++ request ∷ [];
        replies = so_far.replies ++ one.reply ∷ [];
        covers = (
          first_lines-all _ _ (asks_newline taken so_far.requests so_far.rest request so_far.asks reads),
          stops-at_last,
        );
        session = session-one _ one;
        wrote = lacks-last one;
      }
      comes-by_newline (Some ended.End) reads one kept_new cleared = absurd one.wrote
      comes-by_newline (Some ended.ReadFault) reads one kept_new cleared = absurd one.wrote
      comes-by_newline (Some ended.Limit) reads one kept_new cleared = absurd one.wrote

      -- the end of the input completed it
      asks-last : so_far.rest ≢ [] → Reads so_far.rest request
          → AsksToEnd taken (so_far.requests ++ request ∷ [])
      asks-last some reads =
          inr (so_far.requests, request, so_far.rest, refl, so_far.asks, some, reads)

      ends-by_last : (result : Option Ended) → so_far.rest ≢ [] → Reads so_far.rest request
          → (one : One result)
          → Conversation answers first new (unwrap_or result ended.End) at_end taken (written ++ one.added)
      ends-by_last None some reads one = record {
        requests = so_far.requests ++ request ∷ [];
        replies = so_far.replies ++ one.reply ∷ [];
        covers = (
          asks-last some reads,
          all-push (λ r. r ≢ Quit) so_far.requests request so_far.goes_on one.wrote.1,
        );
        session = session-one _ one;
        wrote = written-one one.reply one.added one.wrote.0;
      }
      ends-by_last (Some ended.Quit) some reads one = record {
        requests = so_far.requests ++ request ∷ [];
        replies = so_far.replies ++ one.reply ∷ [];
        covers = (
          asks-last some reads,
          (so_far.requests, (λ i. so_far.requests ++ one.wrote.1 i ∷ []), so_far.goes_on),
        );
        session = session-one _ one;
        wrote = written-one one.reply one.added one.wrote.0;
      }
      ends-by_last (Some ended.WriteFault) some reads one = record {
        requests = so_far.requests ++ request ∷ [];
        replies = so_far.replies ++ one.reply ∷ [];
        covers = (asks-last some reads, stops-at_last);
        session = session-one _ one;
        wrote = lacks-last one;
      }
      ends-by_last (Some ended.End) some reads one = absurd one.wrote
      ends-by_last (Some ended.ReadFault) some reads one = absurd one.wrote
      ends-by_last (Some ended.Limit) some reads one = absurd one.wrote

    -- bytes came that end no line
    pub comes-by_bytes : (bytes kept_new : List ℕ) → Lengthens kept bytes kept_new
        → SoFar answers first old (taken ++ bytes) (written ++ []) kept_new
    comes-by_bytes bytes kept_new longer = record {
      requests = so_far.requests;
      replies = so_far.replies;
      rest = so_far.rest ++ bytes;
      asks = asks_bytes taken so_far.requests so_far.rest bytes so_far.asks longer.whole;
      keeps = longer.grows so_far.rest so_far.keeps;
      goes_on = so_far.goes_on;
      session = so_far.session;
      wrote = append-nil written ∙ so_far.wrote;
    }

    -- the bytes of a line came, but for its newline
    pub comes-by_front : (front : List ℕ) → HasNoNewline front
        → SoFar answers first old (taken ++ front) written (take room (so_far.rest ++ front))
    comes-by_front front whole = record {
      requests = so_far.requests;
      replies = so_far.replies;
      rest = so_far.rest ++ front;
      asks = asks_bytes taken so_far.requests so_far.rest front so_far.asks whole;
      keeps = refl;
      goes_on = so_far.goes_on;
      session = so_far.session;
      wrote = so_far.wrote;
    }

    -- a feed that keeps nothing stands for no line, and for no other
    kept-nothing : (rest : List ℕ) → StandsFor kept rest → (kept ≡ []) ↔ (rest ≡ [])
    kept-nothing rest keeps = (
      λ none. length-nil rest (omega (arith, ap length keeps, ap length none, length-take room rest)),
      λ none. length-nil kept (omega (arith, ap length keeps, ap length none, length-take room rest)),
    )

    -- a feed gave nothing at the end
    pub ends-with_nothing : (kept_new : List ℕ) → TakesEnd kept None kept_new
        → Conversation answers first old ended.End at_end taken (written ++ [])
    ends-with_nothing kept_new takes =
        let none : so_far.rest ≡ [] = elim (cases_nil kept) [
          | inl none ↦ (kept-nothing so_far.rest so_far.keeps).0 none
          | inr some ↦ absurd (takes.reads some)
        ] in
        record {
          requests = so_far.requests;
          replies = so_far.replies;
          covers = (inl (subst (λ rest. Asks taken so_far.requests rest) none so_far.asks), so_far.goes_on);
          session = so_far.session;
          wrote = append-nil written ∙ so_far.wrote;
        }

    -- a feed gave the last line at the end
    pub ends-with_line : (request : Request) (ends_old ends_new : EndsState)
        (kept_new : List ℕ) (result : Option Ended) → TakesEnd kept (Some request) kept_new
        → (one : One request ends_old ends_new result)
        → Conversation answers first new (unwrap_or result ended.End) at_end taken (written ++ one.added)
    ends-with_line request ends_old ends_new kept_new result takes one =
        let keeps_some : kept ≢ [] = λ none. let nothing = takes.nothing none in cc in
        let some : so_far.rest ≢ [] =
        λ none. keeps_some ((kept-nothing so_far.rest so_far.keeps).1 none) in
        ends-by_last request ends_old ends_new result some
        (takes.reads keeps_some so_far.rest so_far.keeps) one

  -- no bytes yet
  pub continues-start : (old : A) (kept : List ℕ) (ends : EndsState)
      → Continues answers old old kept kept ends ends [] None
  continues-start old kept ends = record {
    added = [];
    told = sym (append_known-nil ends.written);
    dropped = 0;
    few_dropped = λ some. some;
    part = λ first taken written so_far. rw (append-nil taken, append-nil written) so_far;
  }

  -- a line came, and its request was answered
  pub continues-by_line : (old new : A) (kept bytes : List ℕ) (request : Request) (rest : List ℕ)
      (ends_old ends_new : EndsState) (kept_new : List ℕ) (result : Option Ended)
      (line : EndsLine kept bytes request rest) → kept_new ≡ []
      → AnswersOne answers old new request ends_old ends_new result
      → Continues answers old new kept kept_new ends_old ends_new (line.front ++ 10 ∷ []) result
  unfolding comes-by_front
  continues-by_line old new kept bytes request rest ends_old ends_new kept_new result line begins one = record {
    added = one.added;
    told = one.told;
    dropped = 0;
    few_dropped = λ some. some;
    part = λ first taken written so_far.
        subst (λ t. ComesTo answers first new t (written ++ one.added) kept_new 0 result)
        (append_assoc taken line.front (10 ∷ []))
        (comes-by_newline first old new (taken ++ line.front) written _
        (comes-by_front first old new taken written kept so_far line.front line.whole)
        request ends_old ends_new result (line.reads so_far.rest so_far.keeps) one kept_new begins);
  }

  -- bytes came that end no line
  pub continues-by_bytes : (old : A) (kept bytes kept_new : List ℕ) (ends : EndsState)
      → Lengthens kept bytes kept_new
      → Continues answers old old kept kept_new ends ends bytes None
  continues-by_bytes old kept bytes kept_new ends longer = record {
    added = [];
    told = sym (append_known-nil ends.written);
    dropped = 0;
    few_dropped = λ some. some;
    part = λ first taken written so_far.
        comes-by_bytes first old old taken written kept so_far bytes kept_new longer;
  }

  -- one part after another, and the session goes on
  pub continues-on : (old mid new : A) (kept_old kept_mid kept_new : List ℕ)
      (ends_old ends_mid ends_new : EndsState) (before bytes all : List ℕ) → before ++ bytes ≡ all
      → Continues answers old mid kept_old kept_mid ends_old ends_mid before None
      → Continues answers mid new kept_mid kept_new ends_mid ends_new bytes None
      → Continues answers old new kept_old kept_new ends_old ends_new all None
  continues-on old mid new kept_old kept_mid kept_new ends_old ends_mid ends_new before bytes all is one two = record {
    added = one.added ++ two.added;
    told = told-more _ _ _ one.added two.added one.told two.told;
    dropped = 0;
    few_dropped = λ some. some;
    part = λ first taken written so_far.
        subst (λ t. SoFar answers first new t (written ++ (one.added ++ two.added)) kept_new)
        (append_assoc taken before bytes ∙ ap (λ (l : List ℕ). taken ++ l) is)
        (subst (λ w. SoFar answers first new ((taken ++ before) ++ bytes) w kept_new)
        (append_assoc written one.added two.added)
        (two.part first (taken ++ before) (written ++ one.added) (one.part first taken written so_far)));
  }

  -- one part after another
  pub continues-then : (old mid new : A) (kept_old kept_mid kept_new : List ℕ)
      (ends_old ends_mid ends_new : EndsState) (before bytes all : List ℕ)
      (result : Option Ended) → before ++ bytes ≡ all → 0 < length bytes
      → Continues answers old mid kept_old kept_mid ends_old ends_mid before None
      → Continues answers mid new kept_mid kept_new ends_mid ends_new bytes result
      → Continues answers old new kept_old kept_new ends_old ends_new all result
  continues-then old mid new kept_old kept_mid kept_new ends_old ends_mid ends_new before bytes all
      result is some one two = record {
        added = one.added ++ two.added;
        told = two.told ∙ rw one.told (sym (append_known-append ends_old.written one.added two.added));
        dropped = two.dropped;
        few_dropped = λ more. omega (arith, two.few_dropped some, length-append before bytes, ap length is);
        part = λ first taken written so_far.
            subst (λ t. ComesTo answers first new t (written ++ (one.added ++ two.added)) kept_new two.dropped result)
            (append_assoc taken before bytes ∙ ap (λ (l : List ℕ). taken ++ l) is)
            (subst (λ w. ComesTo answers first new ((taken ++ before) ++ bytes) w kept_new two.dropped result)
            (append_assoc written one.added two.added)
            (two.part first (taken ++ before) (written ++ one.added) (one.part first taken written so_far)));
      }

  -- what was taken behind the end is dropped
  drops-more : (first new : A) (taken written kept : List ℕ) (dropped : ℕ) (ended : Ended)
      (more : List ℕ) → EndsByReply (Some ended)
      → ComesTo answers first new taken written kept dropped (Some ended)
      → ComesTo answers first new (taken ++ more) written kept (dropped + length more) (Some ended)
  drops-more first new taken written kept dropped ended.Quit more ends talk = record {
    requests = talk.requests;
    replies = talk.replies;
    covers = (first_lines-more taken more talk.requests dropped talk.covers.0, talk.covers.1);
    session = talk.session;
    wrote = talk.wrote;
  }
  drops-more first new taken written kept dropped ended.WriteFault more ends talk = record {
    requests = talk.requests;
    replies = talk.replies;
    covers = (first_lines-more taken more talk.requests dropped talk.covers.0, talk.covers.1);
    session = talk.session;
    wrote = talk.wrote;
  }
  drops-more first new taken written kept dropped ended.End more ends talk = absurd ends
  drops-more first new taken written kept dropped ended.ReadFault more ends talk = absurd ends
  drops-more first new taken written kept dropped ended.Limit more ends talk = absurd ends

  pub continues-dropping : (old new : A) (kept_old kept_new : List ℕ)
      (ends_old ends_new : EndsState) (bytes more all : List ℕ) (how : Ended)
      → bytes ++ more ≡ all → 0 < length bytes → EndsByReply (Some how)
      → Continues answers old new kept_old kept_new ends_old ends_new bytes (Some how)
      → Continues answers old new kept_old kept_new ends_old ends_new all (Some how)
  continues-dropping old new kept_old kept_new ends_old ends_new bytes more all how is some ends one = record {
    added = one.added;
    told = one.told;
    dropped = one.dropped + length more;
    few_dropped = λ any. omega (arith, one.few_dropped some, length-append bytes more, ap length is);
    part = λ first taken written so_far.
        subst (λ t. ComesTo answers first new t (written ++ one.added) kept_new (one.dropped + length more) (Some how))
        (append_assoc taken bytes more ∙ ap (λ (l : List ℕ). taken ++ l) is)
        (drops-more first new (taken ++ bytes) (written ++ one.added) kept_new one.dropped how more ends
        (one.part first taken written so_far));
  }
