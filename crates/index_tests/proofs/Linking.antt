-- How a caller comes to the group of a key with a row of its own, and to a gap in the lane of the key.
use Rattle.std.proofs.Common.{◌≡◌, ◌≢◌, ℕ, ◌≤◌, true, false, Bool, cond, List, [], ◌∷◌, ◌++◌, inl}
use Rattle.std.proofs.Common.{refl, sym, ap, ◌∙◌, subst, eq-eqb}
use Rattle.std.specs.Prelude.{◌==◌, ◌&&◌}
use Rattle.word_layout.specs.declared.phase.Phase.TheVariants.{Open}
use Rattle.word_layout.specs.declared.places.Part.TheVariants.{Key, Link}
use Rattle.word_layout.specs.Parts.{greatest_key}
use Rattle.word_layout.specs.Phase.{word_of_phase}
use Rattle.word_layout.specs.Words.{PlaceWord}
use Rattle.index_machine.specs.declared.events.Action.{Action}
use Rattle.index_machine.specs.declared.events.Action.TheVariants.{LoadPhase}
use Rattle.index_machine.specs.Conditions.{Valid}
use Rattle.index_machine.specs.Execution.{Execution}
use Rattle.index_machine.specs.KeyRanges.{group_of}
use Rattle.index_machine.specs.Reaching.{saw_open, saw_open_after, stands_in}
use Rattle.index_machine.specs.Rows.{Holds, InArray, role}
use Rattle.index_machine.specs.Sections.{StaysInside}
use Rattle.index_machine.specs.Words.{word}
use Rattle.index_machine.proofs.Executions.{own_step}
use Rattle.machine_barriers.proofs.OpenedGroups.{opened_groups_hold}
use Rattle.machine_chain.proofs.Walking.{while_unopened}
use Rattle.machine_readers.proofs.ReadSections.{saw_open_on}
use Rattle.index_rule.specs.declared.board.Board.{Board}
use Rattle.index_rule.specs.declared.hand.Hand.{Hand}
use Rattle.index_rule.specs.Buffers.{IsFilled}
use Rattle.index_rule.specs.Hands.{IsHandOf, Makes, MakesAll, known, opening_of}
use Rattle.index_rule.proofs.RecordStepping.{now}
use Rattle.index_rule.proofs.Stepping.{valid_known}
use Rattle.index_rule.proofs.Elsewhere.{KnowsNoneElsewhere, elsewhere_now, elsewhere_on}
use Rattle.root_table.specs.Finding.{FindsGroup}
use Rattle.root_table.proofs.WayLoads.{AreWayLoads, finding_way, way_keeps_roles, way_stores_none}
use Rattle.row_arena.specs.Taking.{Fills}
use Rattle.sorted_group.specs.declared.answers.Lane.{Lane}
use Rattle.sorted_group.specs.Loads.{LoadsLanes}
use Rattle.sorted_group.specs.Located.{LoadsToLocate}
use Rattle.sorted_group.specs.Standing.{CanSearch}
use Rattle.sorted_group.proofs.ArraySearches.{locate_loads}
use Rattle.sorted_group.proofs.BufferLoads.{GoesOnInside, HasRowAsBefore, loads_inside}
use Rattle.sorted_group.proofs.BufferLoads.{loads_keep_row, row_on, search_after, still_filled}
use Rattle.sorted_group.proofs.LaneChoice.{lane_loads}
use Rattle.delta_buffer.specs.Inserting.{BelongsUntilLinked}
use Rattle.delta_buffer.specs.Searching.{BelongsBetween, FindsGap}
use Rattle.delta_buffer.specs.Walks.{Walks}
use Rattle.delta_buffer.proofs.Carrying.{walk_inside, walk_keeps_row}
use Rattle.delta_buffer.proofs.Linking.{belongs_elsewhere}
use Rattle.point_calls.proofs.PhaseLoads.{answers_seen}
use Rattle.index_tests.specs.Boards.{IsInGroupOf}
use Rattle.index_tests.specs.Buffers.{CanLink, HasComeToLink, HasRowFor}
use Rattle.index_tests.proofs.Places.{answers_on, located_inside}

-- ---- the row ----

-- the row was filled with the key
pub has_row_for : (b : Board) (h k : Hand) (place key value : ℕ) →
    Fills b h place key value k → HasRowFor b key place k
has_row_for b h k place key value fills =
    record {
      filled = record { held = fills.held; new_word = fills.state_word; link_word = refl };
      has_key = fills.key_word;
    }

-- the row stays so as long as it stands as before
pub row_for_on : (b : Board) (key place : ℕ) (h k : Hand) → HasRowAsBefore b place h k →
    HasRowFor b key place h → HasRowFor b key place k
row_for_on b key place h k has row =
    record {
      filled = subst (λ (next : ℕ). IsFilled (opening_of b) k.number place next (known k))
          (sym (has.words Link)) (still_filled b place
          (word (opening_of b) (known h) (PlaceWord place Link)) h k has row.filled);
      has_key = has.words Key ∙ row.has_key;
    }

-- over the loads on the way to a group a row of one's own stays as it is
way_keeps_row : (b : Board) (p : ℕ) (h k : Hand) → IsHandOf b h → Holds (opening_of b) h.number p (known h) →
    (ds : List Action) → AreWayLoads ds → MakesAll b h ds k → HasRowAsBefore b p h k
way_keeps_row b p h k of held [] are makes =
    subst (λ (z : Hand). HasRowAsBefore b p h z) (sym makes) (record { held = held; words = λ part. refl })
way_keeps_row b p h k of held (d ∷ ds) are makes =
    row_on b p h makes.0 k d (way_keeps_roles d are.0) (λ c. way_stores_none c d are.0)
    (of_all h makes.0 of ds makes.1) makes.2
    (way_keeps_row b p h makes.0 of held ds are.1 makes.1)
  where
    of_all : (h k : Hand) → IsHandOf b h → (ds : List Action) → MakesAll b h ds k → IsHandOf b k
    of_all h k of [] makes = subst (IsHandOf b) (sym makes) of
    of_all h k of (d ∷ ds) makes = makes.2.of

pub found_row : (b : Board) (key place g : ℕ) (h k : Hand) → IsHandOf b h → FindsGroup b key h g k →
    HasRowFor b key place h → HasRowFor b key place k
found_row b key place g h k of finds row =
    let way = finding_way b key h g k finds in
    row_for_on b key place h k (way_keeps_row b place h k of row.filled.held way.0 way.1 way.2) row

-- ---- the group of the key ----

both : (x y : Bool) → x ≡ true → y ≡ true → (x && y) ≡ true
both true y e f = f
both false y e f = absurd (let bad = e in cc)

module _ (b : Board) (number g key : ℕ) (m p : Hand) (there : IsInGroupOf b number g key m)
    (sees : Makes b m (LoadPhase g (word_of_phase Open)) p) where
  abbrev open_word : ℕ
  open_word = word_of_phase Open

  search_p : CanSearch b g p
  search_p = search_after b g m p (LoadPhase g open_word) tt (λ z. z) sees there.search

  valid_p : Valid (opening_of b) (known p)
  valid_p = valid_known b m p (LoadPhase g open_word) there.search.call.of sees

  saw : saw_open p.number g (known p) ≡ true
  saw =
      now b m p (LoadPhase g open_word) there.search.call.of sees (λ z t. saw_open z g t ≡ true)
      (own_step (saw_open_after g) false m.number (LoadPhase g open_word) (sees.acts.0 ++ known m)
      ∙ ap (λ (x : Bool). cond x true (saw_open m.number g (sees.acts.0 ++ known m)))
      (both (g == g) (open_word == open_word) (eq-eqb g g refl) (eq-eqb open_word open_word refl)))

  -- it is the group of the key, since it was not opened to a rebuild
  of_key : key ≤ greatest_key → group_of (opening_of b) key (known p) ≡ g
  of_key most =
      let o = opening_of b in
      let caller = search_p.call.reading.caller in
      while_unopened o p.number g key caller [] (known p) valid_p tt search_p.stands
      (answers_seen b g open_word key m p there.search most there.answers sees)
      (λ first. (opened_groups_hold o (known p) valid_p).closed p.number g caller (inl saw) first)

  module _ (k : Hand) (place : ℕ) (row : HasRowFor b key place m) (steps : LoadsToLocate b g p k)
      (can : CanSearch b g k)
      (none : (a : ℕ) → role (opening_of b) a (known k) ≢ InArray g key) where
    row_k : HasRowFor b key place k
    row_k =
        let loads = locate_loads b g p k steps in
        let seen = row_for_on b key place m p
        (row_on b place m m p (LoadPhase g open_word) tt (λ c. refl) there.search.call.of sees
        (record { held = row.filled.held; words = λ part. refl })) row in
        row_for_on b key place p k
        (loads_keep_row b g place p k search_p.call.of seen.filled.held loads.0 loads.1 loads.2) seen

    pub has_come : key ≤ greatest_key → HasComeToLink b number g key place k
    has_come most =
        let o = opening_of b in
        let on = located_inside b g p k search_p.call.of valid_p steps in
        let seen : saw_open k.number g (known k) ≡ true =
        subst (λ (z : ℕ × Execution). saw_open z.0 g z.1 ≡ true) (λ i. (sym on.number i, on.on i))
        (saw_open_on p.number g on.newer (known p) on.stays saw) in
        record {
          in_group = record {
            numbered = on.number ∙ (sees.number ∙ there.numbered);
            search = can;
            answers = answers_on b g key p k on search_p
                (answers_seen b g open_word key m p there.search most there.answers sees);
          };
          row = row_k;
          seen = seen;
          valid = on.valid;
          elsewhere = record {
            stood = record {
              earlier = known p;
              newer = on.newer;
              since = on.on;
              stays = subst (λ (c : ℕ). StaysInside c on.newer) (sym on.number) on.stays;
              stands = subst (λ (c : ℕ). stands_in c g (known p) ≡ true) (sym on.number) search_p.stands;
              of_key = of_key most;
            };
            seen = seen;
            array = λ a is. absurd (none a is);
          };
        }

-- ---- a gap ----

-- what a caller that is to link its row carries over loads of the buffer
record Carries (b : Board) (number g key place : ℕ) (h : Hand) : Type 0 where
  pub numbered : h.number ≡ number
  pub search : CanSearch b g h
  pub row : HasRowFor b key place h
  pub seen : saw_open h.number g (known h) ≡ true
  pub valid : Valid (opening_of b) (known h)
  pub none : KnowsNoneElsewhere (opening_of b) h.number key g (known h)

carries_first : (b : Board) (number g key place : ℕ) (h : Hand) → HasComeToLink b number g key place h →
    Carries b number g key place h
carries_first b number g key place h at =
    record {
      numbered = at.in_group.numbered;
      search = at.in_group.search;
      row = at.row;
      seen = at.seen;
      valid = at.valid;
      none = elsewhere_now (opening_of b) h.number key g (known h)
          at.in_group.search.call.reading.caller at.valid (inl at.elsewhere);
    }

carries_on : (b : Board) (number g key place : ℕ) (h k : Hand) → GoesOnInside b h k →
    HasRowAsBefore b place h k → CanSearch b g k → Carries b number g key place h →
    Carries b number g key place k
carries_on b number g key place h k on has search before =
    let o = opening_of b in
    let caller = before.search.call.reading.caller in
    let whole : Valid o (on.newer ++ known h) = subst (Valid o) (sym on.on) on.valid in
    record {
      numbered = on.number ∙ before.numbered;
      search = search;
      row = row_for_on b key place h k has before.row;
      seen = subst (λ (z : ℕ × Execution). saw_open z.0 g z.1 ≡ true)
          (λ i. (sym on.number i, on.on i))
          (saw_open_on h.number g on.newer (known h) on.stays before.seen);
      valid = on.valid;
      none = subst (λ (z : ℕ × Execution). KnowsNoneElsewhere o z.0 key g z.1)
          (λ i. (sym on.number i, on.on i))
          (elsewhere_on o h.number key g caller on.newer (known h) whole on.stays before.none);
    }

-- where the key was not found in its lane, its row can be linked
can_link : (b : Board) (number key place before next most : ℕ) (lane : Lane) (h m k : Hand) →
    HasComeToLink b number lane.group key place h → LoadsLanes b lane.group most h m →
    CanSearch b lane.group m → Walks b lane.group lane.number m k → CanSearch b lane.group k →
    FindsGap b lane.group lane.number key before next m k → CanLink b number lane place before next k
can_link b number key place before next most lane h m k at lanes search_m walks search_k gap =
    let o = opening_of b in
    let g : ℕ = lane.group in
    let of = at.in_group.search.call.of in
    let loads = lane_loads g lanes.0 lanes.1 in
    let at_m : Carries b number g key place m =
    carries_on b number g key place h m
    (loads_inside b g h m of at.valid lanes.0 loads lanes.3)
    (loads_keep_row b g place h m of at.row.filled.held lanes.0 loads lanes.3)
    search_m (carries_first b number g key place h at) in
    let at_k : Carries b number g key place k =
    carries_on b number g key place m k
    (walk_inside b g lane.number m k search_m.call.of at_m.valid walks)
    (walk_keeps_row b g lane.number place m k search_m.call.of walks at_m.row.filled.held)
    search_k at_m in
    record {
      numbered = at_k.numbered;
      search = at_k.search;
      may = record {
        filled = at_k.row.filled;
        between = subst (λ (j : ℕ). BelongsBetween o g lane.number j before next (known k))
            (sym at_k.row.has_key) gap.belongs;
        permission = inl at_k.seen;
        belongs = subst (λ (j : ℕ). BelongsUntilLinked o k.number g j (known k))
            (sym at_k.row.has_key)
            (belongs_elsewhere o (known k) k.number key g search_k.call.reading.caller at_k.none);
      };
    }

-- likewise, of a lane of this group
pub can_link_in : (b : Board) (number g key place before next most : ℕ) (lane : Lane) (h m k : Hand) →
    lane.group ≡ g → HasComeToLink b number g key place h → LoadsLanes b g most h m →
    CanSearch b g m → Walks b lane.group lane.number m k → CanSearch b lane.group k →
    FindsGap b lane.group lane.number key before next m k → CanLink b number lane place before next k
can_link_in b number g key place before next most lane h m k same at lanes search_m =
    can_link b number key place before next most lane h m k
    (subst (λ (n : ℕ). HasComeToLink b number n key place h) (sym same) at)
    (subst (λ (n : ℕ). LoadsLanes b n most h m) (sym same) lanes)
    (subst (λ (n : ℕ). CanSearch b n m) (sym same) search_m)
