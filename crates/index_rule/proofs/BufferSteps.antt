-- The steps on a buffer meet their conditions.
--
-- The fact to remember: where the exchange of a link succeeds, the link leads there at that moment, so
-- what its place says of the key holds then (LinksBeforeAKeyDecide).
use Rattle.std.proofs.Common.{false, ◌+◌, ◌≡◌, ◌≢◌, ℕ, zero, suc, ◌<◌, ◌==◌, ◌⊎◌, inl, inr, ⊎_elim, Option, Some, None}
use Rattle.std.proofs.Common.{Bool, true, cond, [], ◌∷◌, ◌++◌, refl, sym, ap, ◌∙◌, subst, arith, eq-eqb, ne_eqb}
use prog.Atomic.{either}
use Rattle.std.proofs.Math.Logic.{∥∥₁_elim}
use Rattle.std.proofs.Props.{props}
use Rattle.atomic_table.specs.Table.{Me, Allows}
use Rattle.word_layout.specs.declared.headers.HeaderWord.{HeaderWord}
use Rattle.word_layout.specs.declared.headers.HeaderWord.TheVariants as header
use Rattle.word_layout.specs.Headers.{IsHeaderWord, header_words, most_lanes, number_of}
use Rattle.word_layout.specs.declared.phase.Phase.{Phase}
use Rattle.word_layout.specs.declared.phase.Phase.TheVariants.{Open, Frozen, Opened}
use Rattle.word_layout.specs.declared.places.Part.TheVariants as part
use Rattle.word_layout.specs.Places.{IsPlace, IsRow}
use Rattle.word_layout.specs.Words.{Header, IsWord, PlaceWord, Word}
use Rattle.word_layout.proofs.RowPlaces.{row-nonzero}
use Rattle.word_layout.specs.Shape.{Shape, group_total}
use Rattle.index_machine.specs.declared.events.Action.{Action}
use Rattle.index_machine.specs.declared.events.Action.TheVariants.{FailLink, Freeze, LinkRow}
use Rattle.index_machine.specs.declared.events.Action.TheVariants.{LoadHead, LoadHeader, LoadLink, LoadPhase}
use Rattle.index_machine.specs.declared.events.Action.TheVariants.{NewGroup, StoreHeader}
use Rattle.index_machine.specs.declared.events.Action.TheVariants.{StoreOpened, Thaw}
use Rattle.index_machine.specs.declared.opening.Opening.{Opening}
use Rattle.index_machine.specs.Execution.{Execution, Without, event}
use Rattle.index_machine.specs.Groups.{phase}
use Rattle.index_machine.specs.Lanes.{HasLane, begun_word, lanes}
use Rattle.index_machine.specs.Words.{shape, limits, link_behind, word}
use Rattle.index_machine.specs.Sections.{IsCaller, IsReading, StaysInside}
use Rattle.index_machine.specs.Keepers.{IsGroupKeeper, part_of}
use Rattle.index_machine.specs.Rows.{InBuffer, Role, role}
use Rattle.index_machine.specs.Reaching.{stands_in}
use Rattle.index_machine.specs.RecordConditions.{IsLinkInto, MayFailLink, MayLink, MayLoadHead}
use Rattle.index_machine.specs.RecordConditions.{MayLoadLink, MayWalk}
use Rattle.index_machine.specs.RebuildConditions.{MayLoadHeader, MayLoadPhase}
use Rattle.index_machine.specs.Represents.{has_stale_phase, is_opened_to}
use Rattle.index_machine.specs.Conditions.{Allowed, Valid}
use Rattle.index_machine.proofs.Executions.{choice-other}
use Rattle.index_machine.proofs.Holding.{held_words_on}
use Rattle.index_machine.proofs.OfParts.{opened_in_part}
use Rattle.index_machine.proofs.Placing.{buffer_row, holds_on}
use Rattle.index_machine.proofs.RepresentingAll.{represented}
use Rattle.machine_buffers.proofs.BegunLanes.{HasSameLanes, cuts_rise, has_same, lanes_while}
use Rattle.machine_buffers.proofs.BegunLanes.{rows_have_lanes}
use Rattle.machine_buffers.proofs.InsertPermissions.{permission_while}
use Rattle.machine_buffers.proofs.Phases.{true_while}
use Rattle.machine_buffers.proofs.Walks.{decide, into_buffer, stay_before, walkable_while}
use Rattle.machine_buffers.specs.Walks.{AreRisingLanes, Decides, IsLinkBefore, IsWalkable}
use Rattle.machine_readers.proofs.FromOpening.{gaps}
use Rattle.machine_readers.proofs.ReadSections.{place_on, stands_in_on}
use Rattle.machine_readers.specs.Buffers.{rows}
use Rattle.map_model.specs.Map.{look}
use Rattle.index_rule.specs.declared.board.Board.{Board}
use Rattle.index_rule.specs.declared.hand.Hand.{Hand}
use Rattle.index_rule.specs.declared.view.View.{View}
use Rattle.index_rule.specs.Buffers.{CanSeePhase, CanWalk, IsBehindKey, IsLaneHeader, IsLoadable, IsRowOf}
use Rattle.index_rule.specs.Buffers.{MayInsertRow, TellsBegun, inserted_by, key_in}
use Rattle.index_rule.specs.Hands.{IsHandOf, Makes, known, opening_of}
use Rattle.index_rule.specs.Offsets.{offset_of_word}
use Rattle.index_rule.specs.Rule.{Does, Kept, first_of, word_in}
use Rattle.index_rule.specs.Steps.{group_of_role, head_load, header_load, lane_known, lane_of_role}
use Rattle.index_rule.specs.Steps.{link_failed, link_group, link_known, link_lane}
use Rattle.index_rule.specs.Steps.{buffer_known, link_made, link_place, phase_load, row_link_load}
use Rattle.index_rule.proofs.Lanes.{lane_is, lanes_on, walkable_on}
use Rattle.index_rule.proofs.Offsets.{IsHot}
use Rattle.index_rule.proofs.Standing.{kept_role, reading_on, stays_inside}
use Rattle.index_rule.proofs.StepKinds.{Tells, by_name, exchanges, loads}
use Rattle.index_rule.proofs.Stepping.{known_is, others_only, valid_after}

-- ---- what others leave ----

walk_on : (o : Opening) (c g : ℕ) (n t : Execution) → Valid o (n ++ t) → Without c n →
    CanWalk o c g t → CanWalk o c g (n ++ t)
walk_on o c g n t valid out can = ⊎_elim
    (λ (z : IsReading o c t × (stands_in c g t ≡ true) × IsWalkable o g t). inl (
      reading_on o c n t (stays_inside c n out) z.0,
      stands_in_on c g n t (stays_inside c n out) z.1,
      walkable_while o c g z.0.caller n t valid (stays_inside c n out) z.1 z.2,
    ))
    (λ (z : IsGroupKeeper o c g). inr z) can

row_of_on : (o : Opening) (c g p : ℕ) (n t : Execution) → Valid o (n ++ t) → Without c n →
    CanWalk o c g t → IsRowOf o g p t → IsRowOf o g p (n ++ t)
row_of_on o c g p n t valid out can row = ⊎_elim
    (λ (z : IsReading o c t × (stands_in c g t ≡ true) × IsWalkable o g t). (
      row.0,
      place_on o c g z.0.caller p row.0 n t valid (stays_inside c n out) z.1 (inr row.1)
          ∙ row.1,
    ))
    (λ (z : IsGroupKeeper o c g).
    (row.0, kept_role o c p n t valid out (g, row.0, inr row.1, z) ∙ row.1)) can

may_walk : (o : Opening) (c g : ℕ) (t : Execution) → CanWalk o c g t → MayWalk o c g t
may_walk o c g t can = ⊎_elim
    (λ (z : IsReading o c t × (stands_in c g t ≡ true) × IsWalkable o g t). inl (z.0, z.1))
    (λ (z : IsGroupKeeper o c g). inr z) can

-- what a caller finds leads into the lane
leads_into : (o : Opening) (c g lane before : ℕ) (t : Execution) → Valid o t → CanWalk o c g t →
    IsCaller o c → lane < lanes o g t → IsLinkInto o g lane before t →
    IsLinkInto o g lane (word o t (link_behind g lane before)) t
leads_into o c g lane before t valid can caller is_lane into = ⊎_elim
    (λ (z : IsReading o c t × (stands_in c g t ≡ true) × IsWalkable o g t).
    into_buffer o t valid g lane before z.2 is_lane into)
    (λ (z : IsGroupKeeper o c g). absurd (omega (arith, caller, z))) can

-- the word of the link behind a place that is not 0
link_is : (g lane p : ℕ) → p ≢ 0 → link_behind g lane p ≡ PlaceWord p part.Link
link_is g lane zero some = absurd (some refl)
link_is g lane (suc n) some = refl

row_some : (o : Opening) (t : Execution) (g p : ℕ) → Valid o t → IsRowOf o g p t → p ≢ 0
row_some o t g p valid row = row-nonzero (shape o) p (buffer_row o t valid p g row.0 row.1)

may_load_head : (o : Opening) (c g lane : ℕ) (t : Execution) → Valid o t → CanWalk o c g t →
    lane < lanes o g t → MayLoadHead o c g lane (word o t (Header g (header.Head lane))) t
may_load_head o c g lane t valid can is_lane = record {
  allowed = may_walk o c g t can;
  is_lane = is_lane;
  found_word = refl;
  says = λ caller. leads_into o c g lane 0 t valid can caller is_lane (inl refl);
}

may_load_header : (o : Opening) (c g : ℕ) (which : HeaderWord) (t : Execution) → CanWalk o c g t →
    MayLoadHeader o c g which (word o t (Header g which)) t
may_load_header o c g which t can =
    record { allowed = may_walk o c g t can; found_word = refl }

may_load_link : (o : Opening) (c g p : ℕ) (t : Execution) → Valid o t → CanWalk o c g t →
    IsRowOf o g p t → MayLoadLink o c g p (word o t (PlaceWord p part.Link)) t
may_load_link o c g p t valid can row = record {
  allowed = may_walk o c g t can;
  found_word = refl;
  says = λ caller.
      let in_lane = rows_have_lanes o t valid g row.0 p row.1 in
      let lane : ℕ = in_lane.0 in
      record {
        lane = lane;
        key = row.0;
        row = row.1;
        in_lane = in_lane.1;
        link = subst (λ (w : Word). IsLinkInto o g lane (word o t w) t)
            (link_is g lane p (row_some o t g p valid row))
            (leads_into o c g lane p t valid can caller in_lane.1.is_lane
            (inr (row.0, row.1, in_lane.1)));
      };
}

-- ---- phases ----

-- another hand than the keeper of the group's part keeps no group of the part
apart_from : (o : Opening) (c b g h : ℕ) → IsGroupKeeper o c g → IsGroupKeeper o b h → b ≢ c →
    part_of o h ≢ part_of o g
apart_from o c b g h keeper other differ same =
    differ (other ∙ (ap (λ (part : ℕ). (limits o).callers + part) same ∙ sym keeper))

other_group : (o : Opening) (c b g h : ℕ) → IsGroupKeeper o c g → IsGroupKeeper o b h → b ≢ c →
    h ≢ g
other_group o c b g h keeper other differ same =
    apart_from o c b g h keeper other differ (ap (part_of o) same)

-- nor opened the group to a rebuild of its own
not_opened_to : (o : Opening) (t : Execution) (c b g h : ℕ) → Valid o t → IsGroupKeeper o c g →
    IsGroupKeeper o b h → b ≢ c → is_opened_to h (phase g t) ≡ false
not_opened_to o t c b g h valid keeper other differ = go (phase g t) refl
  where
    go : (x : Phase) → phase g t ≡ x → is_opened_to h x ≡ false
    go Open e = refl
    go Frozen e = refl
    go (Opened f) e = ne_eqb f h
        (λ same. apart_from o c b g h keeper other differ
        (ap (part_of o) (sym same) ∙ opened_in_part o t valid g f e))

-- the phase word goes on to say the phase as long as the keeper of the part makes no step
phase_kept_step : (o : Opening) (t : Execution) (b : ℕ) (d : Action) (c g : ℕ) → Valid o t →
    IsGroupKeeper o c g → Allowed o t b d → b ≢ c →
    has_stale_phase g (event b d ∷ t) ≡ has_stale_phase g t
phase_kept_step o t b (Freeze h) c g valid keeper may other =
    choice-other h g false (has_stale_phase g t) (other_group o c b g h keeper may.keeper other)
phase_kept_step o t b (Thaw h) c g valid keeper may other =
    choice-other h g false (has_stale_phase g t) (other_group o c b g h keeper may.keeper other)
phase_kept_step o t b (StoreOpened h f) c g valid keeper may other =
    choice-other h g false (has_stale_phase g t) (other_group o c b g h keeper may.keeper other)
phase_kept_step o t b (StoreHeader h header.Phase value) c g valid keeper may other =
    choice-other h g true (has_stale_phase g t) (other_group o c b g h keeper may.keeper other)
phase_kept_step o t b (NewGroup h low high f) c g valid keeper may other =
    choice-other h g false (cond (is_opened_to h (phase g t)) true (has_stale_phase g t))
    (other_group o c b g h keeper may.keeper other)
    ∙ ap (λ (z : Bool). cond z true (has_stale_phase g t))
    (not_opened_to o t c b g h valid keeper may.keeper other)
phase_kept_step o t b d c g valid keeper may other = refl

phase_kept : (o : Opening) (c g : ℕ) (n t : Execution) → IsGroupKeeper o c g → Valid o (n ++ t) →
    Without c n → has_stale_phase g (n ++ t) ≡ has_stale_phase g t
phase_kept o c g [] t keeper valid out = refl
phase_kept o c g (e ∷ n) t keeper valid out =
    phase_kept_step o (n ++ t) e.by e.action c g valid.1 keeper valid.0 out.0
    ∙ phase_kept o c g n t keeper valid.1 out.1

sees_phase_on : (o : Opening) (c g : ℕ) (n t : Execution) → Valid o (n ++ t) → Without c n →
    CanSeePhase o c g t → CanSeePhase o c g (n ++ t)
sees_phase_on o c g n t valid out can = ⊎_elim
    (λ (z : IsReading o c t × (stands_in c g t ≡ true)). record {
      allowed = inl (
        reading_on o c n t (stays_inside c n out) z.0,
        stands_in_on c g n t (stays_inside c n out) z.1,
      );
      true_word = true_while o c g z.0.caller n t valid (stays_inside c n out) z.1 can.true_word;
    })
    (λ (z : IsGroupKeeper o c g). record {
      allowed = inr z;
      true_word = phase_kept o c g n t z valid out ∙ can.true_word;
    })
    can.allowed

may_load_phase : (o : Opening) (c g : ℕ) (t : Execution) → Valid o t → CanSeePhase o c g t →
    MayLoadPhase o c g (word o t (Header g header.Phase)) t
may_load_phase o c g t valid can = record {
  allowed = can.allowed;
  found_word = refl;
  says = sym ((represented o t valid).phases g can.true_word);
}

-- ---- linking a row ----

-- a link before a key is one of the lane
pub link_before_into : (o : Opening) (g lane k before : ℕ) (t : Execution) →
    IsLinkBefore o g lane k before t → IsLinkInto o g lane before t
link_before_into o g lane k before t stands = ⊎_elim (λ (z : before ≡ 0). inl z)
    (λ (z : (j : ℕ) × (role o before t ≡ InBuffer g j) × HasLane o g lane j t × (j < k)).
    inr (z.0, z.1, z.2)) stands

-- so it is none, or that of a row
known_behind : (o : Opening) (g lane before : ℕ) (t : Execution) → IsLinkInto o g lane before t →
    (before ≡ 0) ⊎ IsRowOf o g before t
known_behind o g lane before t into = ⊎_elim (λ (z : before ≡ 0). inl z)
    (λ (z : (k : ℕ) × (role o before t ≡ InBuffer g k) × HasLane o g lane k t). inr (z.0, z.1)) into

-- what stays of a caller that may insert its row
still_may_insert : (o : Opening) (c g lane p before next : ℕ) (n t : Execution) →
    Valid o (n ++ t) → Without c n → MayInsertRow o c g lane p before next t →
    word o (n ++ t) (link_behind g lane before) ≡ next →
    MayLink o (n ++ t) c g lane p (inserted_by o c p t) before next
still_may_insert o c g lane p before next n t valid out may hit =
    let caller = may.reading.caller in
    let stay : StaysInside c n = stays_inside c n out in
    let T : Execution = n ++ t in
    let k : ℕ = key_in o p t in
    let w : IsWalkable o g T = walkable_while o c g caller n t valid stay may.stands may.walkable in
    let kept = held_words_on o c p n t valid out may.filled.held in
    let in_lane : HasLane o g lane k T =
    has_same o g lane k t T (λ which. lanes_while o c g which caller n t valid stay may.stands)
    may.in_lane in
    let behind : IsLinkBefore o g lane k before T =
    stay_before o c g lane k before caller n t valid stay may.stands may.behind in
    let ahead : IsBehindKey o g k next T = ⊎_elim (λ (z : next ≡ 0). inl z)
    (λ (z : (j : ℕ) × (role o next t ≡ InBuffer g j) × (k < j)).
    inr (z.0, place_on o c g caller next z.0 n t valid stay may.stands (inr z.1) ∙ z.1, z.2))
    may.ahead in
    let says : Decides o g lane k next T =
    subst (λ (y : ℕ). Decides o g lane k y T) hit (decide o T valid g lane k before w in_lane behind)
    in
    let gap : look (rows g T) k ≡ None = ⊎_elim (λ (z : next ≡ 0). says.none z)
    (λ (z : (j : ℕ) × (role o next T ≡ InBuffer g j) × (k < j)). says.greater z.0 z.1 z.2) ahead in
    let belongs = may.belongs n valid out gap in
    let into : IsLinkInto o g lane before T = link_before_into o g lane k before T behind in
    record {
      caller = caller;
      value = word o t (PlaceWord p part.Value);
      mine = holds_on o c p n t valid out may.filled.held;
      key_word = kept part.Key;
      value_word = kept part.Value;
      new_word = kept part.State ∙ may.filled.new_word;
      link_word = kept part.Link ∙ may.filled.link_word;
      in_lane = in_lane;
      behind = into;
      expected = hit;
      makes = (refl, refl, refl);
      permission = permission_while o c g caller n t valid stay may.permission;
      belongs = belongs.0;
      not_live_elsewhere = belongs.1;
      alone = gaps o T valid g k gap;
      behind_smaller = λ i e. ⊎_elim
          (λ (z : before ≡ 0). absurd (row_some o T g before valid (i, e) z))
          (λ (z : (j : ℕ) × (role o before T ≡ InBuffer g j) × HasLane o g lane j T × (j < k)).
          subst (λ (y : ℕ). y < k) (key_is (sym z.1 ∙ e)) z.3) behind;
      ahead = subst (λ (y : ℕ). IsLinkInto o g lane y T) hit
          (into_buffer o T valid g lane before w in_lane.is_lane into);
      ahead_greater = λ i e. ⊎_elim
          (λ (z : next ≡ 0). absurd (row_some o T g next valid (i, e) z))
          (λ (z : (j : ℕ) × (role o next T ≡ InBuffer g j) × (k < j)).
          subst (λ (y : ℕ). k < y) (key_is (sym z.1 ∙ e)) z.2) ahead;
    }
  where
    key_is : {i j : ℕ} → InBuffer g i ≡ InBuffer g j → i ≡ j
    key_is e = cc

may_fail_link : (o : Opening) (c g lane p before next : ℕ) (n t : Execution) → Valid o (n ++ t) →
    Without c n → MayInsertRow o c g lane p before next t → next ≢ word o (n ++ t) (link_behind g lane before) →
    MayFailLink o c g lane before next (word o (n ++ t) (link_behind g lane before)) (n ++ t)
may_fail_link o c g lane p before next n t valid out may ne = record {
  reading = reading_on o c n t (stays_inside c n out) may.reading;
  is_lane = (has_same o g lane (key_in o p t) t (n ++ t)
      (λ which.
      lanes_while o c g which may.reading.caller n t valid (stays_inside c n out) may.stands)
      may.in_lane).is_lane;
  found_word = refl;
  differs = ne;
}

-- ---- words of the table ----

-- a row of a buffer that the hand knows
pub row_by_hand : (b : Board) (h : Hand) (g p : ℕ) → IsHandOf b h →
    IsRowOf (opening_of b) g p (known h) → IsRow (shape (opening_of b)) p
row_by_hand b h g p of row =
    ∥∥₁_elim (h.following (opening_of b) of.opened) (hlevel props)
    (λ follows. buffer_row (opening_of b) (known h) follows.valid p g row.0 row.1)

-- the link behind a place is a word of the table
pub link_word_of : (s : Shape) (g lane before : ℕ) → g < group_total s → lane < most_lanes →
    (before ≡ 0) ⊎ IsRow s before → IsWord s (link_behind g lane before)
link_word_of s g lane zero low few row = (low, few)
link_word_of s g lane (suc n) low few row = ⊎_elim (λ (z : suc n ≡ 0). absurd (omega (arith, z)))
    (λ (z : IsRow s (suc n)). inl z) row

-- the place behind which a hand links is none, or a row
pub behind_by_hand : (b : Board) (h : Hand) (g lane p before next : ℕ) → IsHandOf b h →
    MayInsertRow (opening_of b) h.number g lane p before next (known h) →
    (before ≡ 0) ⊎ IsRow (shape (opening_of b)) before
behind_by_hand b h g lane p before next of may = ⊎_elim (λ (z : before ≡ 0). inl z)
    (λ (z : IsRowOf (opening_of b) g before (known h)). inr (row_by_hand b h g before of z))
    (known_behind (opening_of b) g lane before (known h)
    (link_before_into (opening_of b) g lane (key_in (opening_of b) p (known h)) before (known h)
    may.behind))

-- a lane of a group that the hand knows is one of a header's
pub lane_by_hand : (b : Board) (h : Hand) (g lane : ℕ) → IsHandOf b h →
    lane < lanes (opening_of b) g (known h) → lane < most_lanes
lane_by_hand b h g lane of is_lane =
    ∥∥₁_elim (h.following (opening_of b) of.opened) (hlevel props)
    (λ follows.
    let few = (cuts_rise (opening_of b) (known h) follows.valid g).few in omega arith)

-- a word that can be loaded is one of a header's
pub header_by_hand : (b : Board) (h : Hand) (g : ℕ) (which : HeaderWord) → IsHandOf b h →
    IsLoadable (opening_of b) g which (known h) → IsHeaderWord which
header_by_hand b h g header.Lanes of is = tt
header_by_hand b h g (header.Cut lane) of is = lane_by_hand b h g lane of is
header_by_hand b h g header.Pivot of is = tt
header_by_hand b h g header.Size of is = tt
header_by_hand b h g header.LineError of is = tt
header_by_hand b h g header.Phase of is = absurd is
header_by_hand b h g header.Next of is = absurd is
header_by_hand b h g header.FirstSpare of is = absurd is
header_by_hand b h g header.SecondSpare of is = absurd is
header_by_hand b h g (header.Head lane) of is = absurd is

-- a word that a header has is one of so many
pub header_below : (which : HeaderWord) → IsHeaderWord which → number_of which < header_words
header_below header.Pivot is = omega arith
header_below header.Size is = omega arith
header_below header.LineError is = omega arith
header_below header.Lanes is = omega arith
header_below header.Phase is = omega arith
header_below header.Next is = omega arith
header_below header.FirstSpare is = omega arith
header_below header.SecondSpare is = omega arith
header_below (header.Head lane) is = omega (arith, is)
header_below (header.Cut lane) is = omega (arith, is)

-- ---- what a link is told as ----

-- the group of the link at a word, by its name
group_named : (o : Opening) (v : View) (g lane before : ℕ) → v.opening ≡ Some o →
    (before ≡ 0) ⊎ IsRowOf o g before v.known → link_group v (link_behind g lane before) ≡ g
group_named o v g lane zero live row = refl
group_named o v g lane (suc n) live row = ⊎_elim (λ (z : suc n ≡ 0). absurd (omega (arith, z)))
    (λ (z : IsRowOf o g (suc n) v.known).
    ap (λ (x : Option Opening). buffer_known x (suc n) v.known) live ∙ ap group_of_role z.1) row

-- and its lane
lane_named : (o : Opening) (v : View) (g lane before : ℕ) → v.opening ≡ Some o →
    AreRisingLanes o g v.known → IsLinkInto o g lane before v.known →
    link_lane v (link_behind g lane before) ≡ lane
lane_named o v g lane zero live rising into = refl
lane_named o v g lane (suc n) live rising into = ⊎_elim
    (λ (z : suc n ≡ 0). absurd (omega (arith, z)))
    (λ (z : (k : ℕ) × (role o (suc n) v.known ≡ InBuffer g k) × HasLane o g lane k v.known).
    ap (λ (x : Option Opening). lane_known x (suc n) v.known) live
    ∙ (ap (λ (x : Role). lane_of_role o x v.known) z.1 ∙ lane_is o g lane z.0 v.known rising z.2))
    into

place_named : (g lane before : ℕ) → link_place (link_behind g lane before) ≡ before
place_named g lane zero = refl
place_named g lane (suc n) = refl

made_is : (o : Opening) (v : View) (c g lane p before next : ℕ) → v.numbers ≡ c ∷ [] →
    v.opening ≡ Some o → AreRisingLanes o g v.known → IsLinkInto o g lane before v.known →
    link_made v (link_behind g lane before) next p
    ≡ LinkRow g lane p (inserted_by o c p v.known) before next
made_is o v c g lane p before next is live rising into =
    let w = link_behind g lane before in
    ap (λ (x : Option Opening). link_known x v (link_group v w) (link_lane v w) p (link_place w) next)
    live
    ∙ ap (λ (x : ℕ × ℕ × ℕ × ℕ). LinkRow x.0 x.1 p (inserted_by o x.2 p v.known) x.3 next)
    (λ i. (
      group_named o v g lane before live (known_behind o g lane before v.known into) i,
      lane_named o v g lane before live rising into i,
      ap first_of is i,
      place_named g lane before i,
    ))

failed_is : (o : Opening) (v : View) (g lane before next n : ℕ) → v.opening ≡ Some o →
    AreRisingLanes o g v.known → IsLinkInto o g lane before v.known →
    link_failed v (link_behind g lane before) next n ≡ FailLink g lane before next n
failed_is o v g lane before next n live rising into =
    ap (λ (x : ℕ × ℕ × ℕ). FailLink x.0 x.1 x.2 next n)
    (λ i. (
      group_named o v g lane before live (known_behind o g lane before v.known into) i,
      lane_named o v g lane before live rising into i,
      place_named g lane before i,
    ))

row_load_is : (o : Opening) (v : View) (g p n : ℕ) → v.opening ≡ Some o →
    IsRowOf o g p v.known → row_link_load v (PlaceWord p part.Link) n ≡ LoadLink g p n
row_load_is o v g p n live row =
    ap (λ (x : ℕ). LoadLink x p n)
    (ap (λ (x : Option Opening). buffer_known x p v.known) live ∙ ap group_of_role row.1)

-- the word of a link is none of the hot ones
pub link_not_hot : (g lane before : ℕ) → IsHot (link_behind g lane before) → ⊥
link_not_hot g lane zero hot = hot
link_not_hot g lane (suc p) hot = hot

-- ---- the steps ----

module _ (o : Opening) (slots id : ℕ) (me : Me (Unit {0}) View) (c : ℕ)
    (is : me.0.numbers ≡ c ∷ []) (live : me.0.opening ≡ Some o) where
  pub loads_head : (g lane a : ℕ) → CanWalk o c g me.0.known → lane < lanes o g me.0.known →
      IsWord (shape o) (Header g (header.Head lane)) →
      a ≡ offset_of_word (shape o) (Header g (header.Head lane)) →
      Allows (Kept o) slots id me a (λ n. n) (λ n x. Does me (head_load (word_in me.0 a) n) x)
  loads_head g lane a can is_lane there at =
      by_name o slots id me c is live (Header g (header.Head lane)) a (λ n. n) head_load there at
      (loads o slots id me c is live (Header g (header.Head lane)) (λ n. LoadHead g lane n) there
      (λ _. refl)
      (λ t valid newer e out.
      let before : Valid o (newer ++ me.0.known) = subst (Valid o) (sym e) valid in
      may_load_head o c g lane t valid
      (subst (CanWalk o c g) e (walk_on o c g newer me.0.known before out can))
      (subst (λ (z : Execution). lane < lanes o g z) e
      (subst (λ (z : ℕ). lane < z) (sym (lanes_on o c g newer me.0.known before out can header.Lanes))
      is_lane))))

  pub loads_header : (g : ℕ) (which : HeaderWord) (a : ℕ) → CanWalk o c g me.0.known →
      IsWord (shape o) (Header g which) → a ≡ offset_of_word (shape o) (Header g which) →
      Allows (Kept o) slots id me a (λ n. n) (λ n x. Does me (header_load (word_in me.0 a) n) x)
  loads_header g which a can there at =
      by_name o slots id me c is live (Header g which) a (λ n. n) header_load there at
      (loads o slots id me c is live (Header g which) (λ n. LoadHeader g which n) there
      (λ _. refl)
      (λ t valid newer e out. may_load_header o c g which t (subst (CanWalk o c g) e
      (walk_on o c g newer me.0.known (subst (Valid o) (sym e) valid) out can))))

  pub loads_row_link : (g p a : ℕ) → CanWalk o c g me.0.known → IsRowOf o g p me.0.known →
      IsPlace (shape o) p → a ≡ offset_of_word (shape o) (PlaceWord p part.Link) →
      Allows (Kept o) slots id me a (λ n. n)
      (λ n x. Does me (row_link_load me.0 (word_in me.0 a) n) x)
  loads_row_link g p a can row there at =
      by_name o slots id me c is live (PlaceWord p part.Link) a (λ n. n) (row_link_load me.0)
      there at
      (subst (Tells o slots id me c is live (PlaceWord p part.Link) (λ n. n))
      (λ i n. sym (row_load_is o me.0 g p n live row) i)
      (loads o slots id me c is live (PlaceWord p part.Link) (λ n. LoadLink g p n) there
      (λ _. refl)
      (λ t valid newer e out.
      let before : Valid o (newer ++ me.0.known) = subst (Valid o) (sym e) valid in
      may_load_link o c g p t valid
      (subst (CanWalk o c g) e (walk_on o c g newer me.0.known before out can))
      (subst (IsRowOf o g p) e (row_of_on o c g p newer me.0.known before out can row)))))

  pub loads_phase : (g a : ℕ) → CanSeePhase o c g me.0.known → g < group_total (shape o) →
      a ≡ offset_of_word (shape o) (Header g header.Phase) →
      Allows (Kept o) slots id me a (λ n. n) (λ n x. Does me (phase_load (word_in me.0 a) n) x)
  loads_phase g a can low at =
      by_name o slots id me c is live (Header g header.Phase) a (λ n. n) phase_load (low, tt) at
      (loads o slots id me c is live (Header g header.Phase) (λ n. LoadPhase g n) (low, tt)
      (λ _. refl)
      (λ t valid newer e out. may_load_phase o c g t valid (subst (CanSeePhase o c g) e
      (sees_phase_on o c g newer me.0.known (subst (Valid o) (sym e) valid) out can))))

  pub links_row : (g lane p before next a : ℕ) → MayInsertRow o c g lane p before next me.0.known →
      AreRisingLanes o g me.0.known → IsWord (shape o) (link_behind g lane before) →
      a ≡ offset_of_word (shape o) (link_behind g lane before) →
      Allows (Kept o) slots id me a (λ n. either (n == next) p n)
      (λ n x. Does me (cond (n == next) (link_made me.0 (word_in me.0 a) next p)
      (link_failed me.0 (word_in me.0 a) next n)) x)
  links_row g lane p before next a may rising there at =
      by_name o slots id me c is live (link_behind g lane before) a (λ n. either (n == next) p n)
      (λ w n. cond (n == next) (link_made me.0 w next p) (link_failed me.0 w next n)) there at
      (subst
      (Tells o slots id me c is live (link_behind g lane before) (λ n. either (n == next) p n))
      (λ i n. cond (n == next) (sym (made_is o me.0 c g lane p before next is live rising into) i)
      (sym (failed_is o me.0 g lane before next n live rising into) i))
      (exchanges o slots id me c is live (link_behind g lane before) next p
      (LinkRow g lane p (inserted_by o c p me.0.known) before next)
      (λ n. FailLink g lane before next n) there refl (λ _. refl)
      (λ t valid newer e out. (
        (λ hit. subst
            (λ (z : Execution). MayLink o z c g lane p (inserted_by o c p me.0.known) before next) e
            (still_may_insert o c g lane p before next newer me.0.known
            (subst (Valid o) (sym e) valid) out may
            (ap (λ (z : Execution). word o z (link_behind g lane before)) e ∙ hit))),
        (λ ne. subst
            (λ (z : Execution).
            MayFailLink o c g lane before next (word o z (link_behind g lane before)) z) e
            (may_fail_link o c g lane p before next newer me.0.known
            (subst (Valid o) (sym e) valid) out may
            (λ z. ne (z ∙ ap (λ (y : Execution). word o y (link_behind g lane before)) e)))),
      ))))
    where
      into : IsLinkInto o g lane before me.0.known
      into = link_before_into o g lane (key_in o p me.0.known) before me.0.known may.behind

-- ---- what a step told its hand ----

-- the link of a row that was loaded
pub row_link_told : (b : Board) (h : Hand) (x : Me (Unit {0}) View) (u : Word) (g p n : ℕ) →
    IsHandOf b h → IsRowOf (opening_of b) g p (known h) → u ≡ PlaceWord p part.Link →
    Does h.seat.me (row_link_load h.seat.me.0 u n) x → Does h.seat.me (LoadLink g p n) x
row_link_told b h x u g p n of row named does =
    subst (λ (d : Action). Does h.seat.me d x)
    (ap (λ (z : Word). row_link_load h.seat.me.0 z n) named
    ∙ row_load_is (opening_of b) h.seat.me.0 g p n of.opened row) does

-- what a header word of a walkable buffer says
header_says : (o : Opening) (g : ℕ) (which : HeaderWord) (t : Execution) → IsWalkable o g t →
    IsLaneHeader o g which t → word o t (Header g which) ≡ begun_word o g which t
header_says o g header.Lanes t w is = w.lanes_word
header_says o g (header.Cut lane) t w is = w.cut_words lane is
header_says o g header.Pivot t w is = absurd is
header_says o g header.Size t w is = absurd is
header_says o g header.LineError t w is = absurd is
header_says o g header.Phase t w is = absurd is
header_says o g header.Next t w is = absurd is
header_says o g header.FirstSpare t w is = absurd is
header_says o g header.SecondSpare t w is = absurd is
header_says o g (header.Head lane) t w is = absurd is

is_lane_header_same : (o : Opening) (g : ℕ) (which : HeaderWord) (t later : Execution) →
    HasSameLanes o g t later → IsLaneHeader o g which t → IsLaneHeader o g which later
is_lane_header_same o g header.Lanes t later same is = tt
is_lane_header_same o g (header.Cut lane) t later same is =
    subst (λ (y : ℕ). lane < y) (sym (same header.Lanes)) is
is_lane_header_same o g header.Pivot t later same is = absurd is
is_lane_header_same o g header.Size t later same is = absurd is
is_lane_header_same o g header.LineError t later same is = absurd is
is_lane_header_same o g header.Phase t later same is = absurd is
is_lane_header_same o g header.Next t later same is = absurd is
is_lane_header_same o g header.FirstSpare t later same is = absurd is
is_lane_header_same o g header.SecondSpare t later same is = absurd is
is_lane_header_same o g (header.Head lane) t later same is = absurd is

-- a header word that was loaded tells what the group was begun with
pub header_told : (b : Board) (h k : Hand) (g : ℕ) (which : HeaderWord) (found : ℕ) →
    IsHandOf b h → Makes b h (LoadHeader g which found) k →
    CanWalk (opening_of b) h.number g (known h) →
    IsLaneHeader (opening_of b) g which (known h) → IsWalkable (opening_of b) g (known h) →
    TellsBegun (opening_of b) g which found (known h) (known k)
header_told b h k g which found of m can is w =
    let o = opening_of b in
    let c : ℕ = h.number in
    let n : Execution = m.acts.0 in
    let t : Execution = n ++ known h in
    let valid = valid_after b h k (LoadHeader g which found) of m in
    let out = others_only b h k (LoadHeader g which found) of m in
    let same = lanes_on o c g n (known h) valid.1 out can in
    let there : begun_word o g which t ≡ found =
    sym (header_says o g which t (walkable_on o c g n (known h) valid.1 out can w)
    (is_lane_header_same o g which (known h) t same is)) ∙ valid.0.found_word in (
      sym (same which) ∙ there,
      ap (begun_word o g which) (known_is b h k (LoadHeader g which found) of m) ∙ there,
    )

-- the lanes of a group that the hand knows rise
pub rising_by_hand : (b : Board) (h : Hand) (g : ℕ) → IsHandOf b h →
    AreRisingLanes (opening_of b) g (known h)
rising_by_hand b h g of =
    ∥∥₁_elim (h.following (opening_of b) of.opened) (hlevel props)
    (λ follows. cuts_rise (opening_of b) (known h) follows.valid g)

insert_into : (b : Board) (h : Hand) (g lane p before next : ℕ) →
    MayInsertRow (opening_of b) h.number g lane p before next (known h) →
    IsLinkInto (opening_of b) g lane before (known h)
insert_into b h g lane p before next may =
    link_before_into (opening_of b) g lane (key_in (opening_of b) p (known h)) before (known h)
    may.behind

-- the exchange that linked the row
pub link_taken : (b : Board) (h : Hand) (x : Me (Unit {0}) View) (u : Word)
    (g lane p before next n : ℕ) → IsHandOf b h →
    MayInsertRow (opening_of b) h.number g lane p before next (known h) →
    u ≡ link_behind g lane before → n ≡ next →
    Does h.seat.me (cond (n == next) (link_made h.seat.me.0 u next p)
    (link_failed h.seat.me.0 u next n)) x →
    Does h.seat.me
    (LinkRow g lane p (inserted_by (opening_of b) h.number p (known h)) before next) x
link_taken b h x u g lane p before next n of may named hit does =
    subst (λ (d : Action). Does h.seat.me d x)
    (ap (λ (z : Bool). cond z (link_made h.seat.me.0 u next p) (link_failed h.seat.me.0 u next n))
    (eq-eqb n next hit)
    ∙ (ap (λ (z : Word). link_made h.seat.me.0 z next p) named
    ∙ made_is (opening_of b) h.seat.me.0 h.number g lane p before next h.mine of.opened
    (rising_by_hand b h g of) (insert_into b h g lane p before next may))) does

-- and the one that found another link
pub link_lost : (b : Board) (h : Hand) (x : Me (Unit {0}) View) (u : Word)
    (g lane p before next n : ℕ) → IsHandOf b h →
    MayInsertRow (opening_of b) h.number g lane p before next (known h) →
    u ≡ link_behind g lane before → n ≢ next →
    Does h.seat.me (cond (n == next) (link_made h.seat.me.0 u next p)
    (link_failed h.seat.me.0 u next n)) x →
    Does h.seat.me (FailLink g lane before next n) x
link_lost b h x u g lane p before next n of may named differ does =
    subst (λ (d : Action). Does h.seat.me d x)
    (ap (λ (z : Bool). cond z (link_made h.seat.me.0 u next p) (link_failed h.seat.me.0 u next n))
    (ne_eqb n next differ)
    ∙ (ap (λ (z : Word). link_failed h.seat.me.0 z next n) named
    ∙ failed_is (opening_of b) h.seat.me.0 g lane before next n of.opened
    (rising_by_hand b h g of) (insert_into b h g lane p before next may))) does
