-- What the steps of a call come to in exchanges, of itself and of its parts.
use Rattle.std.proofs.Common.{◌≡◌, ℕ, ◌+◌, ◌≤◌, Bool, true, false, cond, List, [], ◌∷◌, ◌++◌}
use Rattle.std.proofs.Common.{refl, sym, ap, ◌∙◌, subst, arith}
use Rattle.index_machine.specs.declared.events.Action.{Action}
use Rattle.index_machine.proofs.Executions.{own_on, own_step}
use Rattle.index_rule.specs.declared.board.Board.{Board}
use Rattle.index_rule.specs.declared.hand.Hand.{Hand}
use Rattle.index_rule.specs.Hands.{IsHandOf, Makes, MakesAll, known}
use Rattle.index_rule.proofs.Stepping.{known_is, others_only}
use Rattle.point_calls.specs.Exchanges.{ExchangeCounts, MakesFewExchanges, count_after}
use Rattle.point_calls.specs.Exchanges.{exchanges_head, exchanges_link, exchanges_lock}
use Rattle.point_calls.specs.Exchanges.{no_exchange, own_count}

-- ---- counts ----

-- one for an action of this kind, and none for another one
abbrev pub count_of : (Action → Bool) → Action → ℕ
count_of kind action = cond (kind action) 1 0

-- how many of the actions are of this kind
abbrev pub count_in : (Action → Bool) → List Action → ℕ
count_in kind [] = 0
count_in kind (action ∷ actions) = count_of kind action + count_in kind actions

one_more : (is : Bool) (count : ℕ) → cond is (count + 1) count ≡ count + cond is 1 0
one_more true count = refl
one_more false count = omega arith

-- what was counted before, and one more or none
behind : (x y z i j : ℕ) → x ≡ y + i → y ≡ z + j → x ≡ z + (i + j)
behind x y z i j is was = omega arith

module _ (kind : Action → Bool) (b : Board) where
  step_count : (h k : Hand) (d : Action) → IsHandOf b h → Makes b h d k →
      own_count kind k.number (known k) ≡ own_count kind h.number (known h) + count_of kind d
  step_count h k d of m =
      ap (λ (z : ℕ). own_count kind z (known k)) m.number
      ∙ (ap (own_count kind h.number) (known_is b h k d of m)
      ∙ (own_step (count_after kind) 0 h.number d (m.acts.0 ++ known h)
      ∙ (ap (count_after kind true d)
      (own_on (count_after kind) 0 (λ action count. refl) h.number m.acts.0 (known h)
      (others_only b h k d of m))
      ∙ one_more (kind d) (own_count kind h.number (known h)))))

  hand_behind : (h : Hand) (actions : List Action) (k : Hand) → IsHandOf b h →
      MakesAll b h actions k → IsHandOf b k
  hand_behind h [] k of all = subst (IsHandOf b) (sym all) of
  hand_behind h (d ∷ actions) k of all = all.2.of

  steps_count : (h : Hand) (actions : List Action) (k : Hand) → IsHandOf b h →
      MakesAll b h actions k →
      own_count kind k.number (known k) ≡ own_count kind h.number (known h) + count_in kind actions
  steps_count h [] k of all = ap (λ (z : Hand). own_count kind z.number (known z)) all ∙ plus_none _
    where
      plus_none : (n : ℕ) → n ≡ n + 0
      plus_none n = omega arith
  steps_count h (d ∷ actions) k of all =
      let m : Hand = all.0 in
      behind (own_count kind k.number (known k)) (own_count kind m.number (known m))
      (own_count kind h.number (known h)) (count_of kind d) (count_in kind actions)
      (step_count m k d (hand_behind h actions m of all.1) all.2) (steps_count h actions m of all.1)

-- ---- few exchanges ----

within_most : (x y i most : ℕ) → x ≡ y + i → i ≤ most → x ≤ y + most
within_most x y i most is few = omega arith

-- as few as there are among the steps
pub few_steps : (b : Board) (most : ExchangeCounts) (h : Hand) (actions : List Action) (k : Hand) →
    IsHandOf b h → MakesAll b h actions k → count_in exchanges_lock actions ≤ most.locks →
    count_in exchanges_head actions ≤ most.heads → count_in exchanges_link actions ≤ most.links →
    MakesFewExchanges most h k
few_steps b most h actions k of all locks heads links =
    record {
      locks = within_most _ _ (count_in exchanges_lock actions) most.locks
          (steps_count exchanges_lock b h actions k of all) locks;
      heads = within_most _ _ (count_in exchanges_head actions) most.heads
          (steps_count exchanges_head b h actions k of all) heads;
      links = within_most _ _ (count_in exchanges_link actions) most.links
          (steps_count exchanges_link b h actions k of all) links;
    }

pub none_yet : (n : ℕ) → 0 ≤ n
none_yet n = omega arith

pub just_one : 1 ≤ 1
just_one = omega arith

-- where no step is an exchange
pub none_made : (b : Board) (h : Hand) (actions : List Action) (k : Hand) → IsHandOf b h →
    MakesAll b h actions k → count_in exchanges_lock actions ≡ 0 →
    count_in exchanges_head actions ≡ 0 → count_in exchanges_link actions ≡ 0 →
    MakesFewExchanges no_exchange h k
none_made b h actions k of all locks heads links =
    few_steps b no_exchange h actions k of all (none_are locks) (none_are heads) (none_are links)
  where
    none_are : {n : ℕ} → n ≡ 0 → n ≤ 0
    none_are is = omega arith

-- one step that is none
pub none_by : (b : Board) (h : Hand) (d : Action) (k : Hand) → IsHandOf b h → Makes b h d k →
    exchanges_lock d ≡ false → exchanges_head d ≡ false → exchanges_link d ≡ false →
    MakesFewExchanges no_exchange h k
none_by b h d k of m locks heads links =
    none_made b h (d ∷ []) k of (h, refl, m) (counts_none locks) (counts_none heads) (counts_none links)
  where
    counts_none : {is : Bool} → is ≡ false → cond is 1 0 + 0 ≡ 0
    counts_none is = ap (λ (z : Bool). cond z 1 0 + 0) is

-- ---- parts of a call ----

both_parts : (x y z i j most : ℕ) → y ≤ x + i → z ≤ y + j → i + j ≤ most → z ≤ x + most
both_parts x y z i j most first then few = omega arith

-- the exchanges of two parts of a call
pub few_then : (first then most : ExchangeCounts) (h m k : Hand) → MakesFewExchanges first h m →
    MakesFewExchanges then m k → first.locks + then.locks ≤ most.locks →
    first.heads + then.heads ≤ most.heads → first.links + then.links ≤ most.links →
    MakesFewExchanges most h k
few_then first then most h m k one two locks heads links =
    record {
      locks = both_parts _ _ _ first.locks then.locks most.locks one.locks two.locks locks;
      heads = both_parts _ _ _ first.heads then.heads most.heads one.heads two.heads heads;
      links = both_parts _ _ _ first.links then.links most.links one.links two.links links;
    }

plus_none : (n : ℕ) → n + 0 ≤ n
plus_none n = omega arith

none_plus : (n : ℕ) → 0 + n ≤ n
none_plus n = omega arith

-- behind a part without an exchange
pub few_behind : (most : ExchangeCounts) (h m k : Hand) → MakesFewExchanges no_exchange h m →
    MakesFewExchanges most m k → MakesFewExchanges most h k
few_behind most h m k one two =
    few_then no_exchange most most h m k one two (none_plus most.locks) (none_plus most.heads)
    (none_plus most.links)

-- and before one
pub few_before : (most : ExchangeCounts) (h m k : Hand) → MakesFewExchanges most h m →
    MakesFewExchanges no_exchange m k → MakesFewExchanges most h k
few_before most h m k one two =
    few_then most no_exchange most h m k one two (plus_none most.locks) (plus_none most.heads)
    (plus_none most.links)

-- a part that may make some makes no more than the whole may
pub fewer : (less most : ExchangeCounts) (h k : Hand) → less.locks ≤ most.locks →
    less.heads ≤ most.heads → less.links ≤ most.links → MakesFewExchanges less h k →
    MakesFewExchanges most h k
fewer less most h k locks heads links few =
    record {
      locks = more _ _ less.locks most.locks few.locks locks;
      heads = more _ _ less.heads most.heads few.heads heads;
      links = more _ _ less.links most.links few.links links;
    }
  where
    more : (x y i most : ℕ) → x ≤ y + i → i ≤ most → x ≤ y + most
    more x y i most is few = omega arith
