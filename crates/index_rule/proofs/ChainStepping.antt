-- What a hand knows of the way to a group, and of the words of the group, after it loaded one of them.
use Rattle.std.proofs.Common.{◌≡◌, ℕ, ◌<◌, ◌≤◌, inr, Bool, true, false, cond, Some, None, [], ◌∷◌, ◌++◌}
use Rattle.std.proofs.Common.{refl, sym, ap, ◌∙◌, subst, arith, eq-eqb}
use Rattle.std.specs.Prelude.{◌==◌}
use Rattle.word_layout.specs.declared.headers.HeaderWord.{HeaderWord}
use Rattle.word_layout.specs.declared.headers.HeaderWord.TheVariants as header
use Rattle.word_layout.specs.Root.{word_of_root}
use Rattle.word_layout.specs.Words.{Header}
use Rattle.index_machine.specs.declared.events.Action.{Action}
use Rattle.index_machine.specs.declared.events.Action.TheVariants.{LoadHeader, LoadNext, LoadRoot}
use Rattle.index_machine.specs.declared.events.Action.TheVariants.{LoadSlotGroup, LoadSlotPivot, StoreRoot}
use Rattle.index_machine.specs.declared.opening.Opening.{Opening}
use Rattle.index_machine.specs.Conditions.{Allowed, Valid}
use Rattle.index_machine.specs.Execution.{Execution, Without, event}
use Rattle.index_machine.specs.Groups.{root}
use Rattle.index_machine.specs.Keepers.{IsPart}
use Rattle.index_machine.specs.OpeningRoots.{opening_slots}
use Rattle.index_machine.specs.Reaching.{SeesSlot, root_seen, root_seen_after}
use Rattle.index_machine.specs.Sections.{IsCaller, IsNoCrossing, IsReading}
use Rattle.index_machine.specs.Words.{limits, word}
use Rattle.index_machine.proofs.Executions.{own_step}
use Rattle.index_machine.proofs.OpeningGroups.{opening_slots-few, opening_slots-some}
use Rattle.machine_arrays.proofs.Sizes.{of_keys, where_standing}
use Rattle.machine_chain.proofs.Rising.{slots_behind}
use Rattle.machine_chain.proofs.SlotLoads.{seen_while}
use Rattle.machine_chain.proofs.Slots.{slots_lead}
use Rattle.machine_chain.proofs.Walking.{answers_while, lead_on, least_keys}
use Rattle.machine_chain.specs.Chain.{pivot_of}
use Rattle.machine_chain.specs.Laws.{KeepsRoot}
use Rattle.machine_chain.specs.Walks.{AnswersFor, BeginsInPart, slot_pivot}
use Rattle.index_rule.specs.declared.board.Board.{Board}
use Rattle.index_rule.specs.declared.hand.Hand.{Hand}
use Rattle.index_rule.specs.Chains.{StandsForKey, TellsHeader, TellsNext, TellsRoot, TellsSlotGroup, TellsSlotPivot}
use Rattle.index_rule.specs.Hands.{IsHandOf, Makes, known, opening_of}
use Rattle.index_rule.proofs.RecordStepping.{goes_on_inside, now, since, still_stands}
use Rattle.index_rule.proofs.RootStepping.{stands_after_slot}
use Rattle.index_rule.proofs.Stepping.{known_is, others_only, valid_after, valid_known}

-- ---- standing for a key ----

-- the caller goes on to stand in the group, which goes on to answer for the key, or to have done
pub stands_for_on : (b : Board) (h k : Hand) (d : Action) (of : IsHandOf b h) (m : Makes b h d k) →
    IsNoCrossing d → (g j : ℕ) → StandsForKey (opening_of b) h.number g j (known h) →
    StandsForKey (opening_of b) k.number g j (known k)
stands_for_on b h k d of m none g j s =
    record {
      caller = subst (IsCaller (opening_of b)) (sym m.number) s.caller;
      stands = still_stands b h k d of m none g s.stands;
      is_key = s.is_key;
      answers = now b h k d of m (λ c t. AnswersFor (opening_of b) j g t)
          (answers_while (opening_of b) h.number g j s.caller (since b h k d of m) (known h)
          (valid_after b h k d of m) (goes_on_inside b h k d of m none) s.stands s.answers);
    }

-- ---- the root ----

-- the word names so many slots of a side, one at least and no more than the table has
abbrev NamesSlots : Opening → ℕ → Type 0
NamesSlots o found =
    (count : ℕ) × (side : ℕ) × (found ≡ word_of_root count side) × (side < 2) × (1 ≤ count)
    × (count ≤ (limits o).slots)

root_step : (o : Opening) (part : ℕ) (t : Execution) (b : ℕ) (d : Action) → Allowed o t b d →
    NamesSlots o (root o part t) → NamesSlots o (root o part (event b d ∷ t))
root_step o part t b (StoreRoot p stored) may old = chosen (p == part)
  where
    chosen : (same : Bool) → NamesSlots o (cond same stored (root o part t))
    chosen true = (may.many, may.named, may.stored_word, may.is_side, may.ready.some, may.ready.few)
    chosen false = old
root_step o part t b d may old = old

roots_name_slots : (o : Opening) (part : ℕ) (t : Execution) → Valid o t → NamesSlots o (root o part t)
roots_name_slots o part [] valid =
    (opening_slots o part, 0, refl, omega arith, opening_slots-some o part, opening_slots-few o part)
roots_name_slots o part (e ∷ t) valid =
    root_step o part t e.by e.action valid.0 (roots_name_slots o part t valid.1)

pub root_told : (b : Board) (h k : Hand) (part found : ℕ) → IsHandOf b h →
    Makes b h (LoadRoot part found) k → TellsRoot (opening_of b) k.number part found (known k)
root_told b h k part found of m =
    let valid = valid_after b h k (LoadRoot part found) of m in
    let names = subst (NamesSlots (opening_of b)) valid.0.says
    (roots_name_slots (opening_of b) part (m.acts.0 ++ known h) valid.1) in
    let seen : root_seen k.number part (known k) ≡ Some found =
    now b h k (LoadRoot part found) of m (λ z t. root_seen z part t ≡ Some found)
    (own_step (root_seen_after part) None h.number (LoadRoot part found) (m.acts.0 ++ known h)
    ∙ ap (λ (z : Bool). cond z (Some found) (root_seen h.number part (m.acts.0 ++ known h)))
    (eq-eqb part part refl)) in
    record {
      count = names.0;
      side = names.1;
      is = names.2;
      is_side = names.3;
      some = names.4;
      few = names.5;
      sees = λ i lt. (found, seen, (names.0, names.2, names.3, lt));
    }

-- ---- slots ----

-- other hands load no root for this one
keeps_root : (c : ℕ) (n : Execution) → Without c n → KeepsRoot c n
keeps_root c [] out = tt
keeps_root c (e ∷ n) out = ((λ own. absurd (out.0 own)), keeps_root c n out.1)

module _ (b : Board) (h k : Hand) (part side i found : ℕ) (of : IsHandOf b h)
    (reading : IsReading (opening_of b) h.number (known h))
    (sees : SeesSlot h.number part side i (known h)) where
  pub slot_pivot_told : Makes b h (LoadSlotPivot part side i found) k →
      TellsSlotPivot (opening_of b) part side i found (known h) (known k)
  slot_pivot_told m =
      let d = LoadSlotPivot part side i found in
      let whole = known_is b h k d of m in
      let told : slot_pivot (opening_of b) part side i (known k) ≡ found =
      ap (slot_pivot (opening_of b) part side i) whole ∙ (valid_after b h k d of m).0.found_word in
      let stays = (seen_while (opening_of b) h.number part side i reading.caller m.acts.0 (known h)
      (valid_after b h k d of m).1 (keeps_root h.number m.acts.0 (others_only b h k d of m)) sees).1 in
      (sym stays ∙ (valid_after b h k d of m).0.found_word, told)

  pub slot_group_told : IsPart (opening_of b) part → Makes b h (LoadSlotGroup part side i found) k →
      TellsSlotGroup (opening_of b) k.number part side i found (known h) (known k)
  slot_group_told is_part m =
      let o = opening_of b in
      let d = LoadSlotGroup part side i found in
      let valid = valid_after b h k d of m in
      let t = m.acts.0 ++ known h in
      let stays = seen_while o h.number part side i reading.caller m.acts.0 (known h) valid.1
      (keeps_root h.number m.acts.0 (others_only b h k d of m)) sees in
      let readable = inr (h.number, reading.caller, stays.0) in
      let leads = subst (λ (g : ℕ). BeginsInPart o part (slot_pivot o part side i t) g t) valid.0.says
      ((slots_lead o t valid.1).leads part side i is_part readable) in
      let behind = subst (λ (g : ℕ). pivot_of o g t ≤ slot_pivot o part side i t) valid.0.says
      (slots_behind o t valid.1 part side i is_part readable) in
      record {
        stands = stands_after_slot b h k part side i found of m;
        begins = now b h k d of m
            (λ c z. BeginsInPart o part (slot_pivot o part side i z) found z) leads;
        behind = now b h k d of m (λ c z. pivot_of o found z ≤ slot_pivot o part side i z) behind;
        same_pivot = ap (slot_pivot o part side i) (known_is b h k d of m) ∙ stays.1;
      }

-- ---- groups ----

pub next_told : (b : Board) (h k : Hand) (g found : ℕ) → IsHandOf b h → Makes b h (LoadNext g found) k →
    TellsNext (opening_of b) k.number g found (known h) (known k)
next_told b h k g found of m =
    let o = opening_of b in
    let d = LoadNext g found in
    record {
      word = ap (λ (t : Execution). word o t (Header g header.Next)) (known_is b h k d of m)
          ∙ (valid_after b h k d of m).0.found_word;
      leads = λ j s.
          let on = stands_for_on b h k d of m tt g j
          (subst (λ (c : ℕ). StandsForKey o c g j (known h)) m.number s) in
          lead_on o (known k) (valid_known b h k d of m) k.number g j on.caller on.stands on.is_key on.answers;
    }

pub header_says : (b : Board) (h k : Hand) (g found : ℕ) (which : HeaderWord) → IsHandOf b h →
    Makes b h (LoadHeader g which found) k →
    TellsHeader (opening_of b) k.number g which found (known k)
header_says b h k g found which of m = go which (known_word b h k g found which of m)
  where
    known_word : (b : Board) (h k : Hand) (g found : ℕ) (which : HeaderWord) → IsHandOf b h →
        Makes b h (LoadHeader g which found) k → word (opening_of b) (known k) (Header g which) ≡ found
    known_word b h k g found which of m =
        ap (λ (t : Execution). word (opening_of b) t (Header g which))
        (known_is b h k (LoadHeader g which found) of m)
        ∙ (valid_after b h k (LoadHeader g which found) of m).0.found_word

    valid : Valid (opening_of b) (known k)
    valid = valid_known b h k (LoadHeader g which found) of m

    go : (w : HeaderWord) → word (opening_of b) (known k) (Header g w) ≡ found →
        TellsHeader (opening_of b) k.number g w found (known k)
    go header.Pivot is = (
      is,
      λ j s. least_keys (opening_of b) (known k) valid k.number g j s.caller s.stands s.is_key s.answers,
    )
    go header.Size is = λ j s.
        sym is ∙ ((of_keys (opening_of b) (known k) valid g).0
        (where_standing (opening_of b) (known k) valid k.number g j s.caller s.stands s.answers)).0
    go header.LineError is = λ j s.
        sym is ∙ ((of_keys (opening_of b) (known k) valid g).0
        (where_standing (opening_of b) (known k) valid k.number g j s.caller s.stands s.answers)).1
    go header.Lanes is = tt
    go (header.Cut lane) is = tt
    go (header.Head lane) is = tt
    go header.Phase is = tt
    go header.Next is = tt
    go header.FirstSpare is = tt
    go header.SecondSpare is = tt
