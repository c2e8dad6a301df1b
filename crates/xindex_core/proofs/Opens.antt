-- Each hand of a new board becomes a new pass or a new keeper.
use Rattle.std.proofs.Common.{◌≡◌, ℕ, ◌+◌, List, None, [], ◌∷◌, ◌++◌, length, refl, sym, ap}
use Rattle.std.proofs.Common.{◌∙◌, ◌≤◌, ◌⊎◌, ⊎_elim, subst, arith}
use Rattle.line_window.specs.declared.probes.Probes.{Probes}
use Rattle.index_rule.specs.declared.hand.Hand.{Hand}
use Rattle.index_rule.specs.declared.view.View.{View}
use Rattle.index_rule.specs.Hands.{IsHandOf, known, view}
use Rattle.index_rule.specs.Seats.{new_hand}
use Rattle.index_machine.specs.Execution.{Without}
use Rattle.index_machine.specs.Keepers.{IsPart, IsPartKeeper}
use Rattle.index_machine.specs.Sections.{IsCaller, IsOutside}
use Rattle.index_rule.proofs.NewHands.{none_first}
use Rattle.xindex_core.specs.declared.index.Index.{Index}
use Rattle.xindex_core.specs.declared.keeper.Keeper.{Keeper}
use Rattle.xindex_core.specs.declared.pass.Pass.{Pass}
use Rattle.xindex_core.specs.Callers.{IsTruthful}
use Rattle.xindex_core.specs.Passes.{AreNewKeepers, AreNewPasses, IsKeeperOf, IsPassOf, known_to}
use Rattle.xindex_core.specs.Passes.{known_to_keeper, log_of, number_of, opening_with, part_kept_by, probes_of}

-- a hand that made no step is a pass between two calls
pub new_pass : (i : Index) (h : Hand) (n : ℕ) (probes : Probes) → IsHandOf i.board h → h.number ≡ n →
    view h ≡ new_hand (opening_with i) n → IsCaller (opening_with i) n →
    IsPassOf i (record { hand = h; spare = None; probes = probes })
new_pass i h n probes of number is caller =
    let first : known h ≡ [] = ap (λ (v : View). v.known) is in
    record {
      of = of;
      rests = record {
        caller = subst (IsCaller (opening_with i)) (sym number) caller;
        outside = subst (IsOutside h.number) (sym first) refl;
      };
      spare = none_first (opening_with i) h.number (known h) first;
      truthful = subst
          (λ (v : View).
          IsTruthful
          (record {
            opening = opening_with i;
            number = h.number;
            known = v.known;
            log = v.log;
          }))
          (sym is) nothing_told;
    }
  where
    -- who knows nothing has told nothing
    nothing_told : IsTruthful (record {
      opening = opening_with i;
      number = h.number;
      known = [];
      log = [];
    })
    nothing_told = record {
      logged = record { stand = tt; ordered = tt; complete = refl };
      legal = tt;
      by_callers = tt;
    }

-- one more of them
pub passes_push : (i : Index) (n : ℕ) (ps : List Pass) (p : Pass) → AreNewPasses i n ps →
    IsPassOf i p → number_of p ≡ n + length ps → known_to p ≡ [] → log_of p ≡ [] → probes_of p ≡ 0 →
    AreNewPasses i n (ps ++ p ∷ [])
passes_push i n [] p new of number first none probes = (of, number ∙ omega arith, first, none, probes, tt)
passes_push i n (q ∷ ps) p new of number first none probes = (
  new.0,
  new.1,
  new.2,
  new.3,
  new.4,
  passes_push i (n + 1) ps p new.5 of (number ∙ omega arith) first none probes,
)

-- a hand behind those of the callers is the keeper of a part
pub new_keeper : (i : Index) (h : Hand) (n part : ℕ) → IsHandOf i.board h → h.number ≡ n →
    known h ≡ [] → IsPart (opening_with i) part → IsPartKeeper (opening_with i) n part →
    IsKeeperOf i (record { hand = h; part = part })
new_keeper i h n part of number first is_part keeper =
    record {
      of = of;
      is_part = is_part;
      number = number ∙ keeper;
      idle = subst (Without h.number) (sym first) tt;
    }

-- one more keeper
pub keepers_push : (i : Index) (part : ℕ) (ks : List Keeper) (k : Keeper) → AreNewKeepers i part ks →
    IsKeeperOf i k → part_kept_by k ≡ part + length ks → known_to_keeper k ≡ [] →
    AreNewKeepers i part (ks ++ k ∷ [])
keepers_push i part [] k new of number first = (of, number ∙ omega arith, first, tt)
keepers_push i part (q ∷ ks) k new of number first =
    (new.0, new.1, new.2, keepers_push i (part + 1) ks k new.3 of (number ∙ omega arith) first)

-- the last keeper of some
pub last_keeper : (i : Index) (part : ℕ) (ks : List Keeper) (k : Keeper) →
    AreNewKeepers i part (ks ++ k ∷ []) → IsKeeperOf i k × (known_to_keeper k ≡ [])
last_keeper i part [] k new = (new.0, new.2)
last_keeper i part (q ∷ ks) k new = last_keeper i (part + 1) ks k new.3

-- once all hands are shared out, the callers have a pass each, and the parts a keeper each
pub all_shared : (callers parts passes keepers : ℕ) → 1 ≤ parts →
    passes + keepers ≡ callers + parts → passes ≤ callers → (keepers ≡ 0) ⊎ (passes ≡ callers) →
    (passes ≡ callers) × (keepers ≡ parts)
all_shared callers parts passes keepers some many few in_order =
    ⊎_elim (λ none. absurd (omega arith)) (λ full. (full, omega arith)) in_order
