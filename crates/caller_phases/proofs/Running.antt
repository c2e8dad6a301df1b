-- A phase, and all phases one after another.
use Rattle.std.proofs.Common.{◌≡◌, ℕ, zero, suc, ◌+◌, ◌<◌, List, [], ◌∷◌, ◌++◌, length, get_or, map, replicate}
use Rattle.std.proofs.Common.{refl, sym, ap, ◌∙◌, subst, arith, zero-add, length-append}
use Rattle.std.specs.List.{AllByRecursion}
use Rattle.std.proofs.lemmas.List.{get_or-map, length-map}
use Rattle.map_model.specs.History.{History, IsLegal}
use Rattle.map_model.specs.Logs.{Log}
use Rattle.map_model.specs.Map.{Map}
use Rattle.word_layout.specs.declared.limits.Limits.{Limits}
use Rattle.wire_commands.specs.declared.reply.Reply.{Reply}
use Rattle.line_session.specs.Session.{Session}
use Rattle.trace_text.specs.declared.lines.Line.{Line}
use Rattle.trace_text.specs.Transcripts.{AddsPhase, phases_text}
use Rattle.index_machine.specs.Execution.{Continues, Execution}
use Rattle.index_machine.specs.LivePlaces.{history}
use Rattle.index_machine.specs.Openings.{opening_map}
use Rattle.index_machine.specs.declared.opening.Opening.{Opening}
use Rattle.machine_places.specs.Agreement.{AreByCallers}
use Rattle.index_machine.proofs.Executions.{continues_same, continues_trans}
use Rattle.index_rule.proofs.Moments.{history_on}
use Rattle.xindex_core.specs.declared.index.Index.{Index}
use Rattle.xindex_core.specs.declared.pass.Pass.{Pass}
use Rattle.xindex_core.specs.Answering.{Answers}
use Rattle.xindex_core.specs.Closing.{ArePassesFrom}
use Rattle.xindex_core.specs.OneOrder.{AllKnow, IsPassOfCaller, logs_of}
use Rattle.xindex_core.specs.Passes.{IsPassOf, caller_with, known_to, limits_of_index, log_of, number_of, opening_with}
use Rattle.xindex_core.specs.Passes.{AreNewPasses}
use Rattle.xindex_core.proofs.OneOrder.{below, one_order}
use Rattle.caller_phases.specs.declared.workers.Worker.{Worker}
use Rattle.caller_phases.specs.Calls.{calls_in, phases_of}
use Rattle.caller_phases.specs.Explained.{AnswersWithin, ArePhases, IsPhase}
use Rattle.caller_phases.specs.Ran.{AreExplained, HasRunPhase}
use Rattle.caller_phases.specs.Telling.{AllHear, AreEachOf}
use Rattle.caller_phases.specs.Workers.{HasWorked, IsReadyFor, pass_of, replies_of}
use Rattle.caller_phases.proofs.Replying.{IsSince, replied_within, stays}

-- ---- passes by their places ----

-- what is known of the pass at each place is known of all
pub all_know : (i : Index) (t : Execution) (first : ℕ) (passes : List Pass) →
    ((k : ℕ) (d : Pass) → k < length passes →
    IsPassOfCaller i (first + k) (get_or passes k d) × (known_to (get_or passes k d) ≡ t)) →
    AllKnow i t first passes
all_know i t first [] each = tt
all_know i t first (p ∷ ps) each =
    let here = each 0 p (omega arith) in (
      record { of = here.0.of; number = here.0.number ∙ omega arith },
      here.1,
      all_know i t (first + 1) ps
          (λ k d lt. let there = each (suc k) d (omega arith) in
          (record { of = there.0.of; number = there.0.number ∙ omega arith }, there.1)),
    )

pub known_at : (i : Index) (t : Execution) (first : ℕ) (passes : List Pass) → AllKnow i t first passes →
    (k : ℕ) (d : Pass) → k < length passes →
    IsPassOfCaller i (first + k) (get_or passes k d) × (known_to (get_or passes k d) ≡ t)
known_at i t first [] know k d lt = absurd (omega arith)
known_at i t first (p ∷ ps) know zero d lt =
    (record { of = know.0.of; number = know.0.number ∙ omega arith }, know.1)
known_at i t first (p ∷ ps) know (suc k) d lt =
    let there = known_at i t (first + 1) ps know.2 k d (omega arith) in
    (record { of = there.0.of; number = there.0.number ∙ omega arith }, there.1)

-- new passes know nothing yet, and have empty logs
pub new_know : (i : Index) (first : ℕ) (passes : List Pass) → AreNewPasses i first passes →
    AllKnow i [] first passes
new_know i first [] new = tt
new_know i first (p ∷ ps) new =
    (record { of = new.0; number = new.1 }, new.2, new_know i (first + 1) ps new.5)

pub new_logs : (i : Index) (first : ℕ) (passes : List Pass) → AreNewPasses i first passes →
    logs_of passes ≡ replicate (length passes) []
new_logs i first [] new = refl
new_logs i first (p ∷ ps) new =
    let rest = new_logs i (first + 1) ps new.5 in
    (λ j. new.3 j ∷ rest j)

-- ---- one phase ----

-- one caller, in a phase that ends where all know this
module _ (i : Index) (t u : Execution) (lines : List Line) (k : ℕ) (p q : Pass) (replies : List Reply)
    (own : IsPassOfCaller i k p) (known : known_to p ≡ t)
    (session : Session Answers (caller_with i p) (calls_in (number_of p) lines) replies (caller_with i q))
  where
    since : IsSince (opening_with i) t u k (caller_with i p)
    since =
        record {
          opening = refl;
          number = own.number;
          began = subst (λ (z : Execution). Continues t z) (sym known) (continues_same t);
        }

    pub since_then : IsSince (opening_with i) t u k (caller_with i q)
    since_then =
        stays (opening_with i) t u k (caller_with i p) (calls_in (number_of p) lines) replies
        (caller_with i q) since session

    pub explained : Continues (known_to q) u →
        Session (AnswersWithin (limits_of_index i) (opening_map (opening_with i)) (history t) (history u) k)
        (log_of p) (calls_in k lines) replies (log_of q)
    explained until =
        let m = opening_map (opening_with i) in
        subst
        (λ (n : ℕ). Session (AnswersWithin (limits_of_index i) m (history t) (history u) k)
        (log_of p) (calls_in n lines) replies (log_of q))
        own.number
        (replied_within (opening_with i) t u k (caller_with i p) (calls_in (number_of p) lines) replies
        (caller_with i q) since session until)

-- all callers
module _ (i : Index) (t : Execution) (lines : List Line) (workers done : List Worker) (news : List Pass)
    (know : AllKnow i t 0 (map pass_of workers)) (many : length done ≡ length workers)
    (callers : length workers ≡ (limits_of_index i).callers)
    (work : (k : ℕ) (w d : Worker) → k < length workers →
    HasWorked i lines (get_or workers k w) (get_or done k d))
    (hear : AllHear i (map pass_of done) news) (w d : Worker) where
  module _ (k : ℕ) (low : k < length workers) where
    mapped : length (map pass_of workers) ≡ length workers
    mapped = length-map workers pass_of

    came : length (map pass_of done) ≡ length done
    came = length-map done pass_of

    before_is : get_or (map pass_of workers) k (pass_of w) ≡ pass_of (get_or workers k w)
    before_is = get_or-map pass_of workers k w (pass_of w) low

    after_is : get_or (map pass_of done) k (pass_of d) ≡ pass_of (get_or done k d)
    after_is = get_or-map pass_of done k d (pass_of d) (omega (arith, many))

    was : IsPassOfCaller i (0 + k) (pass_of (get_or workers k w))
        × (known_to (pass_of (get_or workers k w)) ≡ t)
    was =
        subst (λ (z : Pass). IsPassOfCaller i (0 + k) z × (known_to z ≡ t)) before_is
        (known_at i t 0 (map pass_of workers) know k (pass_of w) (omega (arith, mapped)))

    own : IsPassOfCaller i k (pass_of (get_or workers k w))
    own = record { of = was.0.of; number = was.0.number ∙ zero-add k }

    then : IsSince (opening_with i) t hear.longest k (caller_with i (pass_of (get_or done k d)))
    then =
        since_then i t hear.longest lines k (pass_of (get_or workers k w)) (pass_of (get_or done k d))
        (replies_of (get_or done k d)) own was.1 (work k w d low).session

    until : Continues (known_to (pass_of (get_or done k d))) hear.longest
    until =
        subst (λ (z : Pass). Continues (known_to z) hear.longest) after_is
        (hear.is.behind k (pass_of d) (omega (arith, many, came)))

    pub begins : Continues t hear.longest
    begins =
        continues_trans t (known_to (pass_of (get_or done k d))) hear.longest then.began until

    pub news_are : (e : Pass) → IsPassOfCaller i (0 + k) (get_or news k e)
        × (known_to (get_or news k e) ≡ hear.longest)
    news_are e =
        let heard = hear.each k e (omega (arith, many, came)) in
        let same : get_or (map pass_of done) k e ≡ pass_of (get_or done k d) =
        get_or-map pass_of done k d e (omega (arith, many)) in (
          record {
            of = heard.of;
            number = heard.number ∙ (ap number_of same ∙ (then.number ∙ sym (zero-add k)));
          },
          heard.known,
        )

    pub each : Session
        (AnswersWithin (limits_of_index i) (opening_map (opening_with i)) (history t)
        (history hear.longest) k) (get_or (logs_of (map pass_of workers)) k []) (calls_in k lines)
        (get_or (map replies_of done) k []) (get_or (logs_of news) k [])
    each =
        let heard = hear.each k (pass_of d) (omega (arith, many, came)) in
        let old : log_of (pass_of (get_or workers k w)) ≡ get_or (logs_of (map pass_of workers)) k [] =
        sym (get_or-map log_of (map pass_of workers) k (pass_of w) [] (omega (arith, mapped)) ∙ ap log_of before_is) in
        let replies : replies_of (get_or done k d) ≡ get_or (map replies_of done) k [] =
        sym (get_or-map replies_of done k d [] (omega (arith, many))) in
        let new : log_of (pass_of (get_or done k d)) ≡ get_or (logs_of news) k [] =
        sym (get_or-map log_of news k (pass_of d) [] (omega (arith, hear.many, many, came))
        ∙ (heard.log ∙ ap log_of after_is)) in
        subst
        (λ (z : Log × List Reply × Log). Session
        (AnswersWithin (limits_of_index i) (opening_map (opening_with i)) (history t)
        (history hear.longest) k) z.0 (calls_in k lines) z.1 z.2)
        (λ j. (old j, replies j, new j))
        (explained i t hear.longest lines k (pass_of (get_or workers k w)) (pass_of (get_or done k d))
        (replies_of (get_or done k d)) own was.1 (work k w d low).session until)

  run : 0 < length workers → HasRunPhase i t lines (map pass_of workers) (map replies_of done) news
  run some =
      let on = begins 0 some in
      let more = history_on on.0 t in
      let passes = length-map done pass_of in
      let replied = length-map done replies_of in
      let logged = length-map news log_of in
      let as_many = hear.many in
      record {
        behind = hear.longest;
        know = all_know i hear.longest 0 news (λ k e low. news_are k (omega arith) e);
        phase = record {
          goes_on = (more.0, more.1 ∙ ap history on.1);
          replied = omega arith;
          logged = omega arith;
          each = λ k low. each k (omega arith);
        };
      }

-- the same of lists that are equal to these
pub has_run : (i : Index) (t : Execution) (lines : List Line) (old : List Pass) (workers done : List Worker)
    (passes : List Pass) (replies : List (List Reply)) (news : List Pass) → AllKnow i t 0 old →
    0 < length old → length old ≡ (limits_of_index i).callers → map pass_of workers ≡ old →
    length done ≡ length workers →
    ((k : ℕ) (w d : Worker) → k < length workers →
    HasWorked i lines (get_or workers k w) (get_or done k d)) →
    passes ≡ map pass_of done → replies ≡ map replies_of done → AllHear i passes news →
    HasRunPhase i t lines old replies news
has_run i t lines old [] done passes replies news know some many same as_many work after told hear =
    let long = ap (λ (z : List Pass). length z) same in absurd (omega arith)
has_run i t lines old (w ∷ ws) [] passes replies news know some many same as_many work after told hear =
    absurd (omega arith)
has_run i t lines old (w ∷ ws) (d ∷ ds) passes replies news know some many same as_many work after told hear =
    let long = ap (λ (z : List Pass). length z) same in
    let mapped = length-map (w ∷ ws) pass_of in
    subst (λ (z : List Pass × List (List Reply)). HasRunPhase i t lines z.0 z.1 news)
    (λ j. (same j, sym told j))
    (run i t lines (w ∷ ws) (d ∷ ds) news (subst (AllKnow i t 0) (sym same) know) as_many
    (omega arith) work (subst (λ (z : List Pass). AllHear i z news) after hear) w d (omega arith))

-- ---- all phases ----

module _ (l : Limits) (m : Map) where
  -- one more phase
  pub phases_more : (earlier : History) (phases : List (List Line)) (old : List Log)
      (replies : List (List (List Reply))) (cut : History) (logs : List Log) (own : List Line)
      (first : List (List Reply)) (later : History) (new : List Log) →
      ArePhases l m earlier phases old replies cut logs → IsPhase l m cut later own logs first new →
      ArePhases l m earlier (phases ++ own ∷ []) old (replies ++ first ∷ []) later new
  phases_more earlier [] old replies cut logs own first later new before phase = (
    later,
    new,
    first,
    [],
    subst (λ (z : History × List Log). IsPhase l m z.0 later own z.1 first new)
        (λ j. (before.2 j, before.1 j)) phase,
    (refl, refl, refl),
    ap (λ (z : List (List (List Reply))). z ++ first ∷ []) before.0,
  )
  phases_more earlier (p ∷ phases) old replies cut logs own first later new before phase = (
    before.0,
    before.1,
    before.2,
    before.3 ++ first ∷ [],
    before.4,
    phases_more before.0 phases before.1 before.3 cut logs own first later new before.5 phase,
    ap (λ (z : List (List (List Reply))). z ++ first ∷ []) before.6,
  )

-- the changes are a legal history of the index's callers
pub record IsTruthfulOf (o : Opening) (h : History) : Type 0 where
  pub legal : IsLegal (opening_map o) h
  pub by_callers : AreByCallers o h

-- these phases were run, which is told in the text
pub record HaveRun (i : Index) (done : List (List Line)) (first : List Log) (number : ℕ)
    (passes : List Pass) (text : List ℕ) : Type 0 where
  pub execution : Execution
  pub know : AllKnow i execution 0 passes
  pub many : length passes ≡ (limits_of_index i).callers
  pub replies : List (List (List Reply))
  pub text_is : text ≡ phases_text replies
  pub counted : length replies ≡ number
  pub phases : ArePhases (limits_of_index i) (opening_map (opening_with i)) [] done first replies
      (history execution) (logs_of passes)

-- so was one more
pub one_more_run : (i : Index) (done : List (List Line)) (first : List Log) (number : ℕ) (passes : List Pass)
    (text : List ℕ) (own : List Line) (replies : List (List Reply)) (news : List Pass) (more : List ℕ) →
    HaveRun i done first number passes text →
    ((t : Execution) → AllKnow i t 0 passes → HasRunPhase i t own passes replies news) →
    AddsPhase number replies text more →
    HaveRun i (done ++ own ∷ []) first (number + 1) news more
one_more_run i done first number passes text own replies news more run phase adds =
    let next = phase run.execution run.know in
    let long = length-append run.replies (replies ∷ []) in
    let counted = run.counted in
    record {
      execution = next.behind;
      know = next.know;
      many = sym (length-map news log_of) ∙ next.phase.logged;
      replies = run.replies ++ replies ∷ [];
      text_is = adds run.replies run.counted run.text_is;
      counted = omega arith;
      phases = phases_more (limits_of_index i) (opening_map (opening_with i)) [] done first run.replies
          (history run.execution) (logs_of passes) own replies (history next.behind) (logs_of news)
          run.phases next.phase;
    }

-- new passes ran none
pub none_run : (i : Index) (passes : List Pass) → AreNewPasses i 0 passes →
    length passes ≡ (limits_of_index i).callers →
    HaveRun i [] (replicate (limits_of_index i).callers []) 0 passes []
none_run i passes new many =
    record {
      execution = [];
      know = new_know i 0 passes new;
      many = many;
      replies = [];
      text_is = refl;
      counted = refl;
      phases = (
        refl,
        subst (λ (n : ℕ). logs_of passes ≡ replicate n []) many (new_logs i 0 passes new),
        refl,
      );
    }

-- all phases of the lines were run
pub all_run : (i : Index) (lines : List Line) (number : ℕ) (passes : List Pass) (text : List ℕ) →
    0 < length passes →
    HaveRun i (phases_of lines) (replicate (limits_of_index i).callers []) number passes text →
    AreExplained i lines passes text
all_run i lines number passes text some run =
    record {
      many = run.many;
      execution = run.execution;
      know = run.know;
      explained = record {
        replies = run.replies;
        text_is = run.text_is;
        phases = run.phases;
        legal = truthful.legal;
        by_callers = below (opening_with i) (limits_of_index i).callers (history run.execution) refl
            truthful.by_callers;
        complete = (one_order i run.execution passes run.know).logs;
      };
    }
  where
    first_truthful : (ps : List Pass) → 0 < length ps → AllKnow i run.execution 0 ps →
        IsTruthfulOf (opening_with i) (history run.execution)
    first_truthful [] none know = absurd (omega arith)
    first_truthful (p ∷ ps) one know =
        subst (λ (z : Execution). IsTruthfulOf (opening_with i) (history z)) know.1
        (record { legal = know.0.of.truthful.legal; by_callers = know.0.of.truthful.by_callers })

    truthful : IsTruthfulOf (opening_with i) (history run.execution)
    truthful = first_truthful passes some run.know

-- ---- passes in order ----

pub passes_from : (i : Index) (t : Execution) (first : ℕ) (passes : List Pass) → AllKnow i t first passes →
    ArePassesFrom i first passes
passes_from i t first [] know = tt
passes_from i t first (p ∷ ps) know = (know.0, passes_from i t (first + 1) ps know.2)

pub pass_at : (i : Index) (first : ℕ) (passes : List Pass) → ArePassesFrom i first passes →
    (k : ℕ) (d : Pass) → k < length passes → IsPassOf i (get_or passes k d)
pass_at i first [] are k d low = absurd (omega arith)
pass_at i first (p ∷ ps) are zero d low = are.0.of
pass_at i first (p ∷ ps) are (suc k) d low = pass_at i (first + 1) ps are.1 k d (omega arith)

-- what holds of all workers holds of each
pub ready_at : (lines : List Line) (workers : List Worker) → AllByRecursion (IsReadyFor lines) workers →
    (k : ℕ) (d : Worker) → k < length workers → IsReadyFor lines (get_or workers k d)
ready_at lines [] all k d low = absurd (omega arith)
ready_at lines (w ∷ ws) all zero d low = all.0
ready_at lines (w ∷ ws) all (suc k) d low = ready_at lines ws all.1 k d (omega arith)

-- each worker may be run
pub may_work : (i : Index) (lines : List Line) (workers : List Worker) (passes : List Pass) →
    map pass_of workers ≡ passes → ArePassesFrom i 0 passes →
    AllByRecursion (IsReadyFor lines) workers → (k : ℕ) (w : Worker) → k < length workers →
    w ≡ get_or workers k w → IsPassOf i (pass_of w) × IsReadyFor lines w
may_work i lines workers passes same are ready k w low is =
    let mapped = length-map workers pass_of in
    let pass : get_or (map pass_of workers) k (pass_of w) ≡ pass_of w =
    get_or-map pass_of workers k w (pass_of w) low ∙ ap pass_of (sym is) in (
      subst (IsPassOf i) pass
          (pass_at i 0 (map pass_of workers) (subst (ArePassesFrom i 0) (sym same) are) k (pass_of w) (omega arith)),
      subst (IsReadyFor lines) (sym is) (ready_at lines workers ready k w low),
    )

-- each pass that comes back is one of the index
pub back_of : (i : Index) (lines : List Line) (workers done : List Worker) (passes : List Pass) →
    length done ≡ length workers →
    ((k : ℕ) (w d : Worker) → k < length workers →
    HasWorked i lines (get_or workers k w) (get_or done k d)) →
    passes ≡ map pass_of done → AreEachOf i passes
back_of i lines workers [] passes many work are k d low =
    let none = ap (λ (z : List Pass). length z) are in absurd (omega arith)
back_of i lines [] (e ∷ done) passes many work are k d low = absurd (omega arith)
back_of i lines (w ∷ ws) (e ∷ done) passes many work are k d low =
    let mapped = length-map (e ∷ done) pass_of in
    let long = ap (λ (z : List Pass). length z) are in
    let pass : get_or passes k d ≡ pass_of (get_or (e ∷ done) k e) =
    ap (λ (z : List Pass). get_or z k d) are ∙ get_or-map pass_of (e ∷ done) k e d (omega arith) in
    subst (IsPassOf i) (sym pass) (work k w e (omega arith)).of
