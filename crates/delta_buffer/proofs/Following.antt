-- Which buffers the keeper of their group's part can follow, and what a hand that follows links knows after
-- each load, be it a caller's or this keeper's.
use Rattle.std.proofs.Common.{◌≡◌, ℕ, ◌+◌, ◌<◌, ◌^◌, inl, inr, ⊎_elim, Some, true, []}
use Rattle.std.proofs.Common.{◌∷◌, ◌++◌, refl, sym, ◌∙◌, subst}
use Rattle.std.proofs.Math.Logic.{∥∥₁_elim}
use Rattle.std.proofs.Props.{props}
use Rattle.word_layout.specs.declared.headers.HeaderWord.{HeaderWord}
use Rattle.word_layout.specs.declared.headers.HeaderWord.TheVariants.{Lanes}
use Rattle.index_machine.specs.declared.events.Action.{Action}
use Rattle.index_machine.specs.declared.events.Action.TheVariants.{Retire, StoreHeader}
use Rattle.index_machine.specs.declared.opening.Opening.{Opening}
use Rattle.index_machine.specs.Conditions.{Allowed, Valid}
use Rattle.index_machine.specs.Execution.{Execution}
use Rattle.index_machine.specs.KeyRanges.{predecessor}
use Rattle.index_machine.specs.Lanes.{HasLane, lanes}
use Rattle.index_machine.specs.Permissions.{IsReplaced}
use Rattle.index_machine.specs.Reaching.{stands_in}
use Rattle.index_machine.specs.RecordConditions.{IsLinkInto}
use Rattle.index_machine.specs.Rows.{InBuffer, role}
use Rattle.index_machine.specs.Sections.{IsCaller, IsReading, StaysInside}
use Rattle.index_machine.specs.Keepers.{IsGroupKeeper, part_of}
use Rattle.index_machine.specs.Words.{limits, link_behind, word}
use Rattle.index_machine.proofs.Executions.{valid_before}
use Rattle.machine_barriers.proofs.Reaches.{may_as}
use Rattle.machine_buffers.specs.Groups.{IsOfAKey}
use Rattle.machine_buffers.specs.Walks.{IsLaneWord, IsLeftWhole, IsLinkBefore, IsWalkable, TakesApart}
use Rattle.machine_buffers.proofs.BegunLanes.{has_same}
use Rattle.machine_buffers.proofs.LinkingRows.{all_listed}
use Rattle.machine_buffers.proofs.Walks.{into_buffer, of_keeper, of_keys, rows_until, walkable_until}
use Rattle.machine_readers.specs.Buffers.{rows}
use Rattle.machine_readers.proofs.ReadSections.{place_on}
use Rattle.index_rule.specs.declared.board.Board.{Board}
use Rattle.index_rule.specs.declared.hand.Hand.{Hand}
use Rattle.index_rule.specs.Hands.{Makes, known, opening_of}
use Rattle.index_rule.proofs.Lanes.{begins_never}
use Rattle.index_rule.proofs.RecordStepping.{goes_on_inside, now, since}
use Rattle.index_rule.proofs.Standing.{same_keeper}
use Rattle.index_rule.proofs.Stepping.{others_only, valid_after, valid_known}
use Rattle.sorted_group.specs.Standing.{CanFollow}
use Rattle.sorted_group.proofs.BufferLoads.{IsBufferLoad, lanes_still, load_begins_none, no_crossing}
use Rattle.sorted_group.proofs.BufferLoads.{still_walkable}
use Rattle.delta_buffer.specs.Counting.{AllAmong}
use Rattle.delta_buffer.specs.Following.{BuffersStayWalkableForKeepers, HasWholeBuffer}
use Rattle.delta_buffer.specs.Following.{KeepersCanFollow, KeepsWhole}
use Rattle.delta_buffer.specs.Walks.{FollowsLink, load_of_link}
use Rattle.delta_buffer.proofs.Links.{link_below, link_is_load, link_says}

-- ---- what only the keeper of the group's part does ----

takes_keeper : (o : Opening) (t : Execution) (b g : ℕ) (d : Action) → Allowed o t b d →
    TakesApart o g d t → IsGroupKeeper o b g
takes_keeper o t b g d may takes =
    ⊎_elim
    (λ (z : (k : ℕ) × (place : ℕ) × (next : ℕ) × (d ≡ Retire place next)
    × (role o place t ≡ InBuffer g k)).
    same_keeper o ((limits o).callers + part_of o g) b g z.0 z.1 t refl (inr z.4)
    (may_as o t b d (Retire z.1 z.2) z.3 may).keeper)
    (λ (z : (which : HeaderWord) × (value : ℕ) × (d ≡ StoreHeader g which value)
    × IsLaneWord which).
    (may_as o t b d (StoreHeader g z.0 z.1) z.2 may).keeper) takes

whole_while : (o : Opening) (c g : ℕ) → IsGroupKeeper o c g → (n t : Execution) → Valid o (n ++ t) →
    KeepsWhole o c g n t → IsLeftWhole o g n t
whole_while o c g keeper [] t valid keeps = tt
whole_while o c g keeper (e ∷ n) t valid keeps = (
  λ takes. keeps.0
      (takes_keeper o (n ++ t) e.by g e.action valid.0 takes ∙ sym keeper) takes,
  whole_while o c g keeper n t valid.1 keeps.1,
)

pub stays_walkable : BuffersStayWalkableForKeepers
stays_walkable o c g keeper n t valid keeps w =
    walkable_until o g n t valid (whole_while o c g keeper n t valid keeps) w

-- ---- which buffers it can follow ----

walkable_of : (o : Opening) (t : Execution) (g : ℕ) → Valid o t → HasWholeBuffer o g t →
    IsWalkable o g t
walkable_of o t g valid whole =
    ⊎_elim (λ (z : IsOfAKey o g t). of_keys o t valid g z)
    (λ (z : ((k : ℕ) × (predecessor o k t ≡ Some g)) × (IsReplaced o g t → ⊥)).
    ⊎_elim (λ (w : IsWalkable o g t). w) (λ (gone : IsReplaced o g t). absurd (z.1 gone))
    (of_keeper o t valid g z.0.0 z.0.1)) whole

pub keepers_follow : KeepersCanFollow
keepers_follow b h g of keeper there whole =
    record {
      of = of;
      may_walk = inr keeper;
      walkable = ∥∥₁_elim (h.following (opening_of b) of.opened) (hlevel props)
          (λ follows. walkable_of (opening_of b) (known h) g follows.valid whole);
      in_table = there;
    }

-- ---- rows stay ----

rows_while : (o : Opening) (c g : ℕ) → IsCaller o c → (n t : Execution) → Valid o (n ++ t) →
    StaysInside c n → stands_in c g t ≡ true → IsWalkable o g t →
    AllAmong (rows g t) (rows g (n ++ t))
rows_while o c g is n t valid stay s w k q e =
    let there = w.standing k q e in
    all_listed o (n ++ t) valid g k q
    (place_on o c g is q k n t valid stay s (inr there) ∙ there)

module _ (b : Board) (g : ℕ) (h k : Hand) (d : Action) (is : IsBufferLoad g d)
    (m : Makes b h d k) (can : CanFollow b g h) where
  stays : StaysInside h.number (since b h k d can.of m)
  stays = goes_on_inside b h k d can.of m (no_crossing g d is)

  -- the rows that were linked are so still
  pub rows_on : AllAmong (rows g (known h)) (rows g (known k))
  rows_on =
      let o = opening_of b in
      let valid = valid_after b h k d can.of m in
      now b h k d can.of m (λ z t. AllAmong (rows g (known h)) (rows g t))
      (⊎_elim
      (λ (z : IsReading o h.number (known h) × (stands_in h.number g (known h) ≡ true)).
      rows_while o h.number g z.0.caller (since b h k d can.of m) (known h) valid stays z.1
      can.walkable)
      (λ (z : IsGroupKeeper o h.number g) j q e.
      rows_until o g j q (since b h k d can.of m) (known h) valid (
        λ begins. load_begins_none g d is begins,
        begins_never o h.number g m.acts.0 (known h) z valid.1 (others_only b h k d can.of m),
      ) e)
      can.may_walk)

  -- so a row stays where it is
  row_on : (j p : ℕ) → role (opening_of b) p (known h) ≡ InBuffer g j →
      role (opening_of b) p (known k) ≡ InBuffer g j
  row_on j p e =
      let o = opening_of b in
      let first = valid_before o m.acts.0 (known h) (valid_after b h k d can.of m).1 in
      (still_walkable b g h k d is m can).standing j p
      (rows_on j p (all_listed o (known h) first g j p e))

  -- a key stays in its lane
  pub in_lane_on : (lane j : ℕ) → HasLane (opening_of b) g lane j (known h) →
      HasLane (opening_of b) g lane j (known k)
  in_lane_on lane j has =
      has_same (opening_of b) g lane j (known h) (known k) (lanes_still b g h k d is m can) has

  -- and a link into a lane stays one
  pub into_on : (lane p : ℕ) → IsLinkInto (opening_of b) g lane p (known h) →
      IsLinkInto (opening_of b) g lane p (known k)
  into_on lane p into =
      ⊎_elim (λ (z : p ≡ 0). inl z)
      (λ (z : (j : ℕ) × (role (opening_of b) p (known h) ≡ InBuffer g j)
      × HasLane (opening_of b) g lane j (known h)).
      inr (z.0, row_on z.0 p z.1, in_lane_on lane z.0 z.2)) into

  pub before_on : (lane key p : ℕ) → IsLinkBefore (opening_of b) g lane key p (known h) →
      IsLinkBefore (opening_of b) g lane key p (known k)
  before_on lane key p before =
      ⊎_elim (λ (z : p ≡ 0). inl z)
      (λ (z : (j : ℕ) × (role (opening_of b) p (known h) ≡ InBuffer g j)
      × HasLane (opening_of b) g lane j (known h) × (j < key)).
      inr (z.0, row_on z.0 p z.1, in_lane_on lane z.0 z.2, z.3)) before

  -- the buffer has the lane still
  pub is_lane_on : (lane : ℕ) → lane < lanes (opening_of b) g (known h) →
      lane < lanes (opening_of b) g (known k)
  is_lane_on lane is_lane =
      subst (λ (y : ℕ). lane < y) (sym (lanes_still b g h k d is m can Lanes)) is_lane

-- ---- a link ----

module _ (b : Board) (g lane before next : ℕ) (h k : Hand) (can : CanFollow b g h)
    (is_lane : lane < lanes (opening_of b) g (known h))
    (into : IsLinkInto (opening_of b) g lane before (known h))
    (follows : FollowsLink b h g lane before next k) where
  abbrev d : Action
  d = load_of_link g lane before next

  is : IsBufferLoad g d
  is = link_is_load g lane before next

  -- the word is there still
  pub leads_there : word (opening_of b) (known k) (link_behind g lane before) ≡ next
  leads_there =
      let o = opening_of b in
      now b h k d can.of follows (λ z t. word o t (link_behind g lane before) ≡ next)
      (link_says o h.number g lane before next (follows.acts.0 ++ known h)
      (valid_after b h k d can.of follows).0)

  -- and leads into the lane
  pub leads_into : IsLinkInto (opening_of b) g lane next (known k)
  leads_into =
      let o = opening_of b in
      subst (λ (z : ℕ). IsLinkInto o g lane z (known k)) leads_there
      (into_buffer o (known k) (valid_known b h k d can.of follows) g lane before
      (still_walkable b g h k d is follows can) (is_lane_on b g h k d is follows can lane is_lane)
      (into_on b g h k d is follows can lane before into))

  pub fits : next < 2 ^ 28
  fits =
      link_below (opening_of b) (known k) g lane next (valid_known b h k d can.of follows) leads_into
