-- All passes and all keepers are all hands of the table, and at the end nobody holds a version lock.
use Rattle.std.proofs.Common.{◌≡◌, inl, inr, ⊎_elim, ℕ, zero, suc, ◌+◌, ◌-◌, ◌++◌, ◌<◌, ◌≤◌, ◌%◌, Bool}
use Rattle.std.proofs.Common.{true, false, ◌==◌, cond, Some, List, [], ◌∷◌, length, slice_get, refl, sym}
use Rattle.std.proofs.Common.{ap, ◌∙◌, subst, arith, zero-add}
use Rattle.std.proofs.Math.Logic.{∥∥₁_elim}
use Rattle.std.proofs.Props.{props}
use Rattle.std.proofs.lemmas.Bool.{eqb-true}
use Rattle.map_model.specs.History.{History}
use Rattle.map_model.specs.Logs.{IsLogOf, Log}
use Rattle.map_model.specs.Map.{IsRising, Map}
use Rattle.map_model.proofs.Logging.{rising-after}
use Rattle.linearization.proofs.Agreeing.{weaves-agree}
use Rattle.linearization.proofs.OwnEntries.{others-have-none}
use Rattle.linearization.proofs.WholeLogs.{logs-stand}
use Rattle.word_layout.specs.declared.layout.Layout.{Layout}
use Rattle.index_machine.specs.declared.events.Action.{Action}
use Rattle.index_machine.specs.declared.events.Action.TheVariants.{Close, Enter, Leave, Lock}
use Rattle.index_machine.specs.declared.opening.Opening.{Opening}
use Rattle.index_machine.specs.Conditions.{Allowed, Valid}
use Rattle.index_machine.specs.Execution.{ContinuesWithout, Execution, Without}
use Rattle.index_machine.specs.Lists.{In}
use Rattle.index_machine.specs.LivePlaces.{history}
use Rattle.index_machine.specs.Openings.{opening_map}
use Rattle.index_machine.specs.RecordConditions.{HoldsNoLock}
use Rattle.index_machine.specs.Sections.{IsCaller, IsOutside, crossings}
use Rattle.index_machine.specs.Keepers.{IsKeeper, IsPartKeeper}
use Rattle.index_machine.specs.Sections.{crossings_after}
use Rattle.index_machine.specs.Words.{limits}
use Rattle.index_machine.proofs.Executions.{crossings_on, without_append}
use Rattle.index_machine.proofs.Holders.{TakesLock, holds_no_lock_after, holds_no_lock_first}
use Rattle.index_machine.proofs.Holders.{outside_holds_none}
use Rattle.machine_buffers.proofs.NextRows.{less_or_not}
use Rattle.machine_places.proofs.FromOpening.{legal}
use Rattle.index_rule.specs.declared.board.Board.{Board}
use Rattle.index_rule.specs.declared.hand.Hand.{Hand}
use Rattle.resting_table.specs.NoRebuild.{HasNoRebuild, IsNoRebuild}
use Rattle.index_rule.specs.Ended.{AreAllHands, AreOutside, EndsFor, Leaves, numbers_of}
use Rattle.index_rule.specs.Hands.{IsHandOf, known, opening_of, view}
use Rattle.index_rule.specs.Rule.{Follows}
use Rattle.index_rule.proofs.Logging.{log_on}
use Rattle.resting_table.specs.Resting.{LeaveAtRest}
use Rattle.xindex_core.specs.declared.index.Index.{Index}
use Rattle.xindex_core.specs.declared.keeper.Keeper.{Keeper}
use Rattle.xindex_core.specs.declared.pass.Pass.{Pass}
use Rattle.xindex_core.specs.Closing.{AreAllKeepers, AreAllLogsIn, AreAllPasses, AreGivenBack, AreKeepersOf}
use Rattle.xindex_core.specs.Closing.{KeepersAreIdle}
use Rattle.xindex_core.specs.Closing.{ArePassesFrom, ArePassesOf, ClosedLogsHaveOneOrder, EndsForAll}
use Rattle.xindex_core.specs.Closing.{IsClosedWith, IsReadBack, PassesInOrderAreAll, caller_numbers}
use Rattle.xindex_core.specs.Closing.{calling_hands, keeping_hands, parts_kept}
use Rattle.xindex_core.specs.OneOrder.{logs_of}
use Rattle.xindex_core.specs.Passes.{IsKeeperOf, bounds_of_index, known_to, log_of, number_of}
use Rattle.xindex_core.specs.Passes.{opening_with, part_kept_by}
use Rattle.xindex_core.proofs.Idle.{nothing_rebuilt}
use Rattle.xindex_core.proofs.OneOrder.{as_many, below, log_at}

-- ---- keepers are outside ----

never_crosses : (o : Opening) (t : Execution) (b : ℕ) (d : Action) (hand before : ℕ) →
    Allowed o t b d → IsKeeper o hand → before ≡ 0 → crossings_after (b == hand) d before ≡ 0
never_crosses o t b (Enter n) hand before may keeper none = by_test (b == hand) refl
  where
    by_test : (mine : Bool) → (b == hand) ≡ mine → cond mine (before + 1) before ≡ 0
    by_test true own =
        let same : b ≡ hand = eqb-true b hand own in
        let caller = may.0.caller in
        absurd (omega arith)
    by_test false other = none
never_crosses o t b (Leave n) hand before may keeper none = by_test (b == hand) refl
  where
    by_test : (mine : Bool) → (b == hand) ≡ mine → cond mine (before + 1) before ≡ 0
    by_test true own =
        let same : b ≡ hand = eqb-true b hand own in
        let caller = may.0.caller in
        absurd (omega arith)
    by_test false other = none
never_crosses o t b d hand before may keeper none = none

none_crossed : (o : Opening) (t : Execution) → Valid o t → (hand : ℕ) → IsKeeper o hand →
    crossings hand t ≡ 0
none_crossed o [] valid hand keeper = refl
none_crossed o (e ∷ t) valid hand keeper =
    never_crosses o t e.by e.action hand (crossings hand t) valid.0 keeper
    (none_crossed o t valid.1 hand keeper)

keeper_outside : (b : Board) (h : Hand) → IsHandOf b h → IsKeeper (opening_of b) h.number →
    IsOutside h.number (known h)
keeper_outside b h of keeper =
    ∥∥₁_elim (h.following (opening_of b) of.opened) (Prim.hlevel props)
    (λ (follows : Follows (opening_of b) (view h)).
    ap (λ (z : ℕ). z % 2) (none_crossed (opening_of b) (known h) follows.valid h.number keeper))

keepers_outside : (i : Index) (keepers : List Keeper) → AreKeepersOf i keepers →
    AreOutside i.board (keeping_hands keepers)
keepers_outside i [] of = tt
keepers_outside i (k ∷ ks) of = (
  of.0.of,
  keeper_outside i.board k.hand of.0.of (let number = of.0.number in omega arith),
  keepers_outside i ks of.1,
)

-- ---- all hands ----

hand_in : (passes : List Pass) (behind : List Hand) (n : ℕ) → In n (caller_numbers passes) →
    In n (numbers_of (calling_hands passes ++ behind))
hand_in [] behind n there = absurd there
hand_in (p ∷ ps) behind n there =
    ⊎_elim (λ (z : n ≡ number_of p). inl z)
    (λ (z : In n (caller_numbers ps)). inr (hand_in ps behind n z)) there

in_behind : (passes : List Pass) (behind : List Hand) (n : ℕ) → In n (numbers_of behind) →
    In n (numbers_of (calling_hands passes ++ behind))
in_behind [] behind n there = there
in_behind (p ∷ ps) behind n there = inr (in_behind ps behind n there)

keeper_in : (i : Index) (keepers : List Keeper) (part n : ℕ) → AreKeepersOf i keepers →
    IsPartKeeper (opening_with i) n part → In part (parts_kept keepers) →
    In n (numbers_of (keeping_hands keepers))
keeper_in i [] part n of is there = absurd there
keeper_in i (k ∷ ks) part n of is there =
    ⊎_elim
    (λ (z : part ≡ part_kept_by k). let number = of.0.number in inl (omega arith))
    (λ (z : In part (parts_kept ks)). inr (keeper_in i ks part n of.1 is z)) there

all_outside : (i : Index) (passes : List Pass) (behind : List Hand) → ArePassesOf i passes →
    AreOutside i.board behind → AreOutside i.board (calling_hands passes ++ behind)
all_outside i [] behind of rest = rest
all_outside i (p ∷ ps) behind of rest =
    (of.0.of, of.0.rests.outside, all_outside i ps behind of.1 rest)

all_there : (i : Index) (passes : List Pass) (keepers : List Keeper) → AreAllPasses i passes →
    AreAllKeepers i keepers → AreAllHands i.board (calling_hands passes ++ keeping_hands keepers)
all_there i passes keepers all are =
    let callers = (limits (opening_with i)).callers in
    record {
      outside = all_outside i passes (keeping_hands keepers) all.of (keepers_outside i keepers are.of);
      each = λ n hand. ⊎_elim
          (λ (caller : n < callers). hand_in passes (keeping_hands keepers) n (all.each n caller))
          (λ (above : callers ≤ n).
          in_behind passes (keeping_hands keepers) n
          (keeper_in i keepers (n - callers) n are.of (omega arith)
          (are.each (n - callers) (omega arith))))
          (less_or_not n callers);
    }

-- the keepers among them made no step
keepers_idle : (i : Index) (keepers : List Keeper) → AreKeepersOf i keepers →
    KeepersAreIdle (opening_with i) (keeping_hands keepers)
keepers_idle i [] of = tt
keepers_idle i (k ∷ ks) of = ((λ _. of.0.idle), keepers_idle i ks of.1)

all_idle : (i : Index) (passes : List Pass) (behind : List Hand) → ArePassesOf i passes →
    KeepersAreIdle (opening_with i) behind →
    KeepersAreIdle (opening_with i) (calling_hands passes ++ behind)
all_idle i [] behind of rest = rest
all_idle i (p ∷ ps) behind of rest = (
  (λ (keeper : IsKeeper (opening_with i) (number_of p)).
      let caller = of.0.rests.caller in absurd (omega arith)),
  all_idle i ps behind of.1 rest,
)

pub given_back : (i : Index) (passes : List Pass) (keepers : List Keeper) → AreAllPasses i passes →
    AreAllKeepers i keepers → AreGivenBack i (calling_hands passes ++ keeping_hands keepers)
given_back i passes keepers all are =
    record {
      all = all_there i passes keepers all are;
      idle = all_idle i passes (keeping_hands keepers) all.of (keepers_idle i keepers are.of);
    }

-- where there is one part, its keeper is all of them
pub one_keeper : (i : Index) (keeper : Keeper) → bounds_of_index i ≡ [] → IsKeeperOf i keeper →
    AreAllKeepers i (keeper ∷ [])
one_keeper i keeper one is =
    let none = ap (λ (z : List ℕ). length z) one in
    let kept = is.is_part in
    record {
      of = (is, tt);
      each = λ part is_part. inl (omega arith);
    }

-- ---- nobody holds a lock ----

taker : (o : Opening) (t : Execution) (b : ℕ) (d : Action) → Allowed o t b d → IsNoRebuild d →
    TakesLock d → IsCaller o b
taker o t b (Lock place expected) may none_rebuilt takes = may.reading.caller
taker o t b (Close place expected) may none_rebuilt takes = absurd none_rebuilt
taker o t b d may none_rebuilt takes = absurd takes

-- callers alone take locks
no_caller_none : (o : Opening) (t : Execution) → Valid o t → HasNoRebuild t → (hand : ℕ) →
    (IsCaller o hand → ⊥) → HoldsNoLock o hand t
no_caller_none o [] valid none_rebuilt hand other = holds_no_lock_first o hand
no_caller_none o (e ∷ t) valid none_rebuilt hand other =
    holds_no_lock_after o hand e.by e.action t
    (λ takes same. other
    (subst (IsCaller o) same (taker o t e.by e.action valid.0 none_rebuilt.0 takes)))
    (no_caller_none o t valid.1 none_rebuilt.1 hand other)

outside_on : (hand : ℕ) (earlier later : Execution) → ContinuesWithout hand earlier later →
    IsOutside hand earlier → IsOutside hand later
outside_on hand earlier later on outside =
    subst (IsOutside hand) on.1
    (ap (λ (z : ℕ). z % 2) (crossings_on hand on.0 earlier on.2) ∙ outside)

ended_outside : (b : Board) (hands : List Hand) (t : Execution) (n : ℕ) → AreOutside b hands →
    EndsFor hands t → In n (numbers_of hands) → IsOutside n t
ended_outside b [] t n outside ends there = absurd there
ended_outside b (h ∷ hs) t n outside ends there =
    ⊎_elim
    (λ (z : n ≡ h.number).
    subst (λ (m : ℕ). IsOutside m t) (sym z)
    (outside_on h.number (known h) t ends.0 outside.1))
    (λ (z : In n (numbers_of hs)). ended_outside b hs t n outside.2 ends.1 z) there

-- at the end a keeper made no step still
ended_idle : (o : Opening) (hands : List Hand) (t : Execution) (n : ℕ) → KeepersAreIdle o hands →
    EndsFor hands t → IsKeeper o n → In n (numbers_of hands) → Without n t
ended_idle o [] t n idle ends keeper there = absurd there
ended_idle o (h ∷ hs) t n idle ends keeper there =
    ⊎_elim
    (λ (z : n ≡ h.number).
    let on = ends.0 in
    subst (λ (m : ℕ). Without m t) (sym z)
    (subst (Without h.number) on.1
    (without_append h.number on.0 (known h) on.2 (idle.0 (subst (IsKeeper o) z keeper)))))
    (λ (z : In n (numbers_of hs)). ended_idle o hs t n idle.1 ends.1 keeper z) there

-- once all hands are given back the words are at rest
pub at_rest : (i : Index) (l : Layout) (hands : List Hand) (words : List ℕ) →
    l ≡ (opening_with i).layout → AreGivenBack i hands →
    (leaves : Leaves (opening_with i) hands words) →
    LeaveAtRest l words (opening_with i) leaves.execution
at_rest i l hands words layout given leaves =
    let o = opening_with i in
    let t = leaves.execution in
    let all = given.all in
    let none_rebuilt = nothing_rebuilt o t leaves.valid
    (λ part is_part.
    ended_idle o hands t ((limits o).callers + part) given.idle leaves.ends (omega arith)
    (all.each ((limits o).callers + part) (omega arith))) in
    record {
      layout = sym layout;
      valid = leaves.valid;
      none_rebuilt = none_rebuilt;
      stand_for = leaves.left;
      unlocked = λ hand. ⊎_elim
          (λ (caller : hand < (limits o).callers).
          outside_holds_none o t leaves.valid hand caller
          (ended_outside i.board hands t hand all.outside leaves.ends
          (all.each hand (omega arith))))
          (λ (above : (limits o).callers ≤ hand).
          no_caller_none o t leaves.valid none_rebuilt hand
          (λ (caller : IsCaller o hand). omega arith))
          (less_or_not hand (limits o).callers);
    }

-- ---- logs ----

ends_for : (passes : List Pass) (behind : List Hand) (t : Execution) →
    EndsFor (calling_hands passes ++ behind) t → EndsForAll passes t
ends_for [] behind t ends = tt
ends_for (p ∷ ps) behind t ends = (ends.0, ends_for ps behind t ends.1)

all_logged : (i : Index) (passes : List Pass) (t : Execution) → Valid (opening_with i) t →
    ArePassesOf i passes → EndsForAll passes t → AreAllLogsIn i (history t) passes
all_logged i [] t valid of ends = tt
all_logged i (p ∷ ps) t valid of ends =
    let o = opening_with i in
    let on = ends.0 in (
      subst (λ (z : Execution). IsLogOf (opening_map o) (number_of p) (history z) (log_of p)) on.1
          (log_on o (number_of p) on.0 (known_to p) (log_of p) (subst (Valid o) (sym on.1) valid)
          on.2 of.0.truthful.logged),
      all_logged i ps t valid of.1 ends.1,
    )

-- what was read of the words is what the history of the logs leaves
pub closed : (i : Index) (passes : List Pass) (keepers : List Keeper) (pairs : Map) →
    AreAllPasses i passes → AreAllKeepers i keepers →
    IsReadBack i (calling_hands passes ++ keeping_hands keepers) pairs → IsClosedWith i passes pairs
closed i passes keepers pairs all are read =
    let o = opening_with i in
    let hands = calling_hands passes ++ keeping_hands keepers in
    let t = read.leaves.execution in
    let ends = ends_for passes (keeping_hands keepers) t read.leaves.ends in
    let lawful = legal o t read.leaves.valid in
    let left = read.tells o t
    (at_rest i o.layout hands read.words refl (given_back i passes keepers all are) read.leaves) in
    record {
      execution = t;
      ends = ends;
      logs = all_logged i passes t read.leaves.valid all.of ends;
      by_callers = lawful.1;
      legal = lawful.0;
      left = left;
      rising = subst IsRising (sym left) (rising-after (opening_map o) (history t) o.rising);
    }

-- ---- passes in order ----

in_order : (i : Index) (first : ℕ) (passes : List Pass) → ArePassesFrom i first passes → (n : ℕ) →
    n < length passes → In (first + n) (caller_numbers passes)
in_order i first [] all n lt = absurd (omega arith)
in_order i first (p ∷ ps) all zero lt = let number = all.0.number in inl (omega arith)
in_order i first (p ∷ ps) all (suc n) lt =
    inr (subst (λ (z : ℕ). In z (caller_numbers ps)) (omega arith)
    (in_order i (first + 1) ps all.1 n (omega arith)))

each_of : (i : Index) (first : ℕ) (passes : List Pass) → ArePassesFrom i first passes →
    ArePassesOf i passes
each_of i first [] all = tt
each_of i first (p ∷ ps) all = (all.0.of, each_of i (first + 1) ps all.1)

pub passes_are_all : PassesInOrderAreAll
passes_are_all i passes all many =
    record {
      of = each_of i 0 passes all;
      each = λ caller is. subst (λ (z : ℕ). In z (caller_numbers passes)) (zero-add caller)
          (in_order i 0 passes all caller (omega arith));
    }

log_in : (i : Index) (h : History) (first caller : ℕ) (passes : List Pass) (log : Log) →
    ArePassesFrom i first passes → AreAllLogsIn i h passes →
    slice_get (logs_of passes) caller ≡ Some log →
    IsLogOf (opening_map (opening_with i)) (first + caller) h log
log_in i h first caller [] log all logs at = let none = at in cc
log_in i h first zero (p ∷ ps) log all logs at =
    let same : log_of p ≡ log = let e = at in cc in
    let number : number_of p ≡ first + 0 = let n = all.0.number in omega arith in
    subst (λ (z : ℕ × Log). IsLogOf (opening_map (opening_with i)) z.0 h z.1)
    (λ k. (number k, same k)) logs.0
log_in i h first (suc caller) (p ∷ ps) log all logs at =
    subst (λ (n : ℕ). IsLogOf (opening_map (opening_with i)) n h log) (omega arith)
    (log_in i h (first + 1) caller ps log all.1 logs.1 at)

pub closed_order : ClosedLogsHaveOneOrder
closed_order i passes pairs all closed =
    let m = opening_map (opening_with i) in
    let h = history closed.execution in
    let logs = λ (caller : ℕ) (log : Log) (at : slice_get (logs_of passes) caller ≡ Some log).
    subst (λ (n : ℕ). IsLogOf m n h log) (zero-add caller)
    (log_in i h 0 caller passes log all closed.logs at) in
    record {
      logs = logs;
      runs = weaves-agree m h (logs_of passes) logs;
      own = λ caller p at. logs-stand m h (logs_of passes) logs caller (log_of p)
          (log_at passes caller p at);
      others = λ some many caller le. others-have-none m h (logs_of passes)
          (below (opening_with i) (length (logs_of passes)) h (as_many passes ∙ many)
          closed.by_callers)
          caller (let same = as_many passes in omega arith);
    }
