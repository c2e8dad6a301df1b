-- How a call comes to the groups of a key: its steps on the way enter nothing, leave nothing and try no exchange.
use Rattle.std.proofs.Common.{◌≡◌, ℕ, zero, suc, ◌+◌, ⊎_elim, ◌<◌, ◌≤◌, List, [], ◌∷◌, refl, sym, ap, subst, arith}
use Rattle.word_layout.specs.declared.headers.HeaderWord.TheVariants.{Pivot}
use Rattle.index_machine.specs.declared.events.Action.{Action}
use Rattle.index_machine.specs.declared.events.Action.TheVariants.{LoadHeader, LoadNext, LoadRoot}
use Rattle.index_machine.specs.declared.events.Action.TheVariants.{LoadSlotGroup}
use Rattle.index_rule.specs.declared.board.Board.{Board}
use Rattle.index_rule.specs.declared.hand.Hand.{Hand}
use Rattle.index_machine.specs.Execution.{Continues}
use Rattle.index_machine.proofs.Executions.{continues_trans}
use Rattle.index_rule.specs.Hands.{IsHandOf, MakesAll, known}
use Rattle.root_table.specs.declared.slots.Slots.{Slots}
use Rattle.root_table.specs.Finding.{ArePivotLoads, FindsGroup}
use Rattle.root_table.specs.Slots.{root_word_of}
use Rattle.root_table.specs.Walks.{HasGoneTo, LooksAhead, WalksTo}
use Rattle.point_calls.specs.Exchanges.{MakesFewExchanges, no_exchange}
use Rattle.point_calls.proofs.BufferWay.{all_forward}
use Rattle.point_calls.proofs.Exchanging.{few_behind, none_made}
use Rattle.point_calls.proofs.Knowing.{AreKept, IsIn, in_all, in_first, in_step}

-- ---- a walk ----

looks_in : (b : Board) (start h : Hand) (g next pivot : ℕ) (k : Hand) → IsIn b start h →
    LooksAhead b g next pivot h k → IsIn b start k
looks_in b start h g next pivot k i all =
    in_all b start h (LoadHeader next Pivot pivot ∷ LoadNext g (next + 1) ∷ []) k (tt, tt, (tt, tt, tt)) all i

looks_none : (b : Board) (h : Hand) (g next pivot : ℕ) (k : Hand) → IsHandOf b h →
    LooksAhead b g next pivot h k → MakesFewExchanges no_exchange h k
looks_none b h g next pivot k of all =
    none_made b h (LoadHeader next Pivot pivot ∷ LoadNext g (next + 1) ∷ []) k of all refl refl refl

gone_of : (b : Board) (from key : ℕ) (h : Hand) (steps to : ℕ) (k : Hand) → IsHandOf b h →
    HasGoneTo b from key h steps to k → IsHandOf b k
gone_of b from key h zero to k of gone = subst (IsHandOf b) (sym gone.1) of
gone_of b from key h (suc steps) to k of gone = gone.3.2.2.of

gone_in : (b : Board) (start : Hand) (from key : ℕ) (h : Hand) (steps to : ℕ) (k : Hand) → IsIn b start h →
    HasGoneTo b from key h steps to k → IsIn b start k
gone_in b start from key h zero to k i gone = subst (IsIn b start) (sym gone.1) i
gone_in b start from key h (suc steps) to k i gone =
    looks_in b start gone.1 gone.0 to gone.3.0 k
    (gone_in b start from key h steps gone.0 gone.1 i gone.2) gone.3.2

-- a hand that did nothing tried none
pub same_none : (h k : Hand) → k ≡ h → MakesFewExchanges no_exchange h k
same_none h k same =
    subst (λ (z : Hand). MakesFewExchanges no_exchange h z) (sym same)
    (record { locks = as_many _; heads = as_many _; links = as_many _ })
  where
    as_many : (x : ℕ) → x ≤ x + 0
    as_many x = omega arith

gone_none : (b : Board) (from key : ℕ) (h : Hand) (steps to : ℕ) (k : Hand) → IsHandOf b h →
    HasGoneTo b from key h steps to k → MakesFewExchanges no_exchange h k
gone_none b from key h zero to k of gone = same_none h k gone.1
gone_none b from key h (suc steps) to k of gone =
    few_behind no_exchange h gone.1 k (gone_none b from key h steps gone.0 gone.1 of gone.2)
    (looks_none b gone.1 gone.0 to gone.3.0 k (gone_of b from key h steps gone.0 gone.1 of gone.2) gone.3.2)

pub walk_in : (b : Board) (start : Hand) (from key : ℕ) (h : Hand) (to : ℕ) (k : Hand) → IsIn b start h →
    WalksTo b from key h to k → IsIn b start k
walk_in b start from key h to k i walks =
    let m : Hand = walks.1 in
    let im = gone_in b start from key h walks.0 to m i walks.2 in
    ⊎_elim
    (λ (last : MakesAll b m (LoadNext to 0 ∷ []) k).
    in_all b start m (LoadNext to 0 ∷ []) k (tt, tt, tt) last im)
    (λ (ahead : (next : ℕ) × (pivot : ℕ) × (key < pivot) × LooksAhead b to next pivot m k).
    looks_in b start m to ahead.0 ahead.1 k im ahead.3) walks.3

pub walk_none : (b : Board) (from key : ℕ) (h : Hand) (to : ℕ) (k : Hand) → IsHandOf b h →
    WalksTo b from key h to k → MakesFewExchanges no_exchange h k
walk_none b from key h to k of walks =
    let m : Hand = walks.1 in
    let at : IsHandOf b m = gone_of b from key h walks.0 to m of walks.2 in
    few_behind no_exchange h m k (gone_none b from key h walks.0 to m of walks.2)
    (⊎_elim
    (λ (last : MakesAll b m (LoadNext to 0 ∷ []) k).
    none_made b m (LoadNext to 0 ∷ []) k at last refl refl refl)
    (λ (ahead : (next : ℕ) × (pivot : ℕ) × (key < pivot) × LooksAhead b to next pivot m k).
    looks_none b m to ahead.0 ahead.1 k at ahead.3) walks.3)

gone_forward : (b : Board) (from key : ℕ) (h : Hand) (steps to : ℕ) (k : Hand) → IsHandOf b h →
    HasGoneTo b from key h steps to k → Continues (known h) (known k)
gone_forward b from key h zero to k of gone = ([], ap known (sym gone.1))
gone_forward b from key h (suc steps) to k of gone =
    let m : Hand = gone.1 in
    continues_trans (known h) (known m) (known k) (gone_forward b from key h steps gone.0 m of gone.2)
    (all_forward b m (LoadHeader to Pivot gone.3.0 ∷ LoadNext gone.0 (to + 1) ∷ []) k
    (gone_of b from key h steps gone.0 m of gone.2) gone.3.2)

-- what the hand knows goes on over a walk
pub walk_forward : (b : Board) (from key : ℕ) (h : Hand) (to : ℕ) (k : Hand) → IsHandOf b h →
    WalksTo b from key h to k → Continues (known h) (known k)
walk_forward b from key h to k of walks =
    let m : Hand = walks.1 in
    let at = gone_of b from key h walks.0 to m of walks.2 in
    continues_trans (known h) (known m) (known k) (gone_forward b from key h walks.0 to m of walks.2)
    (⊎_elim
    (λ (last : MakesAll b m (LoadNext to 0 ∷ []) k). all_forward b m (LoadNext to 0 ∷ []) k at last)
    (λ (ahead : (next : ℕ) × (pivot : ℕ) × (key < pivot) × LooksAhead b to next pivot m k).
    all_forward b m (LoadHeader ahead.0 Pivot ahead.1 ∷ LoadNext to (ahead.0 + 1) ∷ []) k at ahead.3) walks.3)

-- ---- the way from the root ----

pivots_kept : (slots : Slots) (actions : List Action) → ArePivotLoads slots actions → AreKept actions
pivots_kept slots [] are = tt
pivots_kept slots (d ∷ actions) are =
    let rest = pivots_kept slots actions are.1 in
    subst (λ (z : Action). AreKept (z ∷ actions)) (sym are.0.2) (tt, tt, rest)

pub found_in : (b : Board) (key : ℕ) (h : Hand) (group : ℕ) (k : Hand) → IsHandOf b h →
    FindsGroup b key h group k → IsIn b h k
found_in b key h group k of finds =
    let slots = finds.slots in
    let one = in_first b h finds.rooted (LoadRoot slots.part (root_word_of slots)) tt tt of finds.root in
    let two = in_all b h finds.rooted finds.pivots.0 finds.chosen
    (pivots_kept slots finds.pivots.0 finds.pivots.1) finds.pivots.3 one in
    let three = in_step b h finds.chosen finds.entered
    (LoadSlotGroup slots.part slots.side finds.slot finds.from) tt tt finds.entry two in
    walk_in b h finds.from key finds.entered group k three finds.walk
