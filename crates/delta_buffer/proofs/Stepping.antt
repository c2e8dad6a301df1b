-- What a caller knows on its walk through a lane, after each load.
use Rattle.std.proofs.Common.{Some, None, ◌≤◌, ◌≡◌, ◌≢◌, ◌⊎◌, ℕ, ◌<◌, inl, inr, ⊎_elim}
use Rattle.std.proofs.Common.{true, [], ◌∷◌, ◌++◌, refl, sym, ap, ◌∙◌, subst, arith}
use Rattle.map_model.specs.Map.{look}
use Rattle.index_machine.specs.declared.events.Action.{Action}
use Rattle.index_machine.specs.declared.events.Action.TheVariants.{LoadKey}
use Rattle.index_machine.specs.declared.opening.Opening.{Opening}
use Rattle.index_machine.specs.Conditions.{Valid}
use Rattle.index_machine.specs.Execution.{Continues, Execution}
use Rattle.index_machine.specs.Lanes.{HasLane, lanes}
use Rattle.index_machine.specs.Reaching.{reached}
use Rattle.index_machine.specs.RecordConditions.{IsAt, IsLinkInto}
use Rattle.index_machine.specs.Rows.{InBuffer, role, role_key}
use Rattle.index_machine.specs.Sections.{IsNoCrossing}
use Rattle.index_machine.specs.Words.{link_behind, word}
use Rattle.index_machine.proofs.Executions.{continues_same, continues_trans}
use Rattle.machine_buffers.specs.Walks.{Decides, IsLinkBefore}
use Rattle.machine_buffers.proofs.BegunLanes.{HasSameLanes, has_same}
use Rattle.machine_buffers.proofs.Walks.{decide, rises, stay_before}
use Rattle.index_machine.proofs.Options.{some_is}
use Rattle.machine_readers.specs.Buffers.{rows}
use Rattle.index_rule.specs.declared.board.Board.{Board}
use Rattle.index_rule.specs.declared.hand.Hand.{Hand}
use Rattle.index_rule.specs.Buffers.{IsBehindKey}
use Rattle.index_rule.specs.Hands.{Makes, known, opening_of}
use Rattle.index_rule.specs.Moments.{AddsNoEntry}
use Rattle.index_rule.proofs.Calls.{HasBegun, begins, begun_on, goes_on, is_within}
use Rattle.index_rule.proofs.RecordStepping.{goes_on_inside, now, same_role, since}
use Rattle.index_rule.proofs.RecordStepping.{still_at, still_reached}
use Rattle.index_rule.proofs.Stepping.{known_is, valid_after, valid_known}
use Rattle.sorted_group.specs.Standing.{CanFollow, CanSearch}
use Rattle.sorted_group.proofs.BufferLoads.{follow_on, lanes_still, log_on, no_crossing}
use Rattle.sorted_group.proofs.BufferLoads.{search_on}
use Rattle.delta_buffer.specs.Searching.{FindsFirst, FindsGap, IsReachedRow}
use Rattle.delta_buffer.specs.Walks.{FollowsLink, HasJustMade, IsWalkOf, Walks, load_of_link}
use Rattle.delta_buffer.proofs.CallSteps.{begun_since, just_made}
use Rattle.delta_buffer.proofs.Following.{before_on, in_lane_on, is_lane_on, leads_into, leads_there}
use Rattle.delta_buffer.proofs.Links.{before_into, before_more, buffer_key, in_lane_up_to, left_none}
use Rattle.delta_buffer.proofs.Links.{left_some, link_is_load, link_is_walk, link_of_row}
use Rattle.delta_buffer.proofs.Links.{link_reaches, rise_left, row_some}

-- ---- the loads of a walk ----

-- a link before a key stays one while the caller makes a step by which it does not leave
pub before_after : (b : Board) (g lane key p : ℕ) (h k : Hand) (d : Action) → IsNoCrossing d →
    Makes b h d k → CanSearch b g h → IsLinkBefore (opening_of b) g lane key p (known h) →
    IsLinkBefore (opening_of b) g lane key p (known k)
before_after b g lane key p h k d none m can before =
    now b h k d can.call.of m (λ z t. IsLinkBefore (opening_of b) g lane key p t)
    (stay_before (opening_of b) h.number g lane key p can.call.reading.caller
    (since b h k d can.call.of m) (known h) (valid_after b h k d can.call.of m)
    (goes_on_inside b h k d can.call.of m none) can.stands before)

-- one more load of a walk
pub walks_on : (b : Board) (g lane : ℕ) (h k : Hand) (d : Action) → IsWalkOf g lane d →
    Makes b h d k → (first : Hand) → Walks b g lane first h → Walks b g lane first k
walks_on b g lane h k d is m first w = (d ∷ w.0, (is, w.1), (h, w.2, m))

-- the same lanes as those that were the same
lanes_joined : (o : Opening) (g : ℕ) (t u v : Execution) → HasSameLanes o g t u →
    HasSameLanes o g u v → HasSameLanes o g t v
lanes_joined o g t u v first second which = second which ∙ first which

-- ---- a link ----

-- the link leads to no row, or to one of the lane that the caller reached
abbrev pub LeadsOn : Opening → ℕ → ℕ → ℕ → ℕ → Execution → Type 0
LeadsOn o hand g lane next t =
    (next ≡ 0) ⊎ ((j : ℕ) × IsReachedRow o hand g j next t × HasLane o g lane j t)

-- what a hand knows on its walk to a key, as it has loaded the link behind a place
pub record IsOn (b : Board) (g lane key before next : ℕ) (h m : Hand) : Type 0 where
  pub can : CanFollow b g m
  pub search : CanSearch b g h → CanSearch b g m
  pub number : m.number ≡ h.number
  pub log : AddsNoEntry h m
  pub walks : Walks b g lane h m
  pub loaded : HasJustMade h (load_of_link g lane before next) (known m)
  pub begun : HasBegun h (known m)
  pub valid : Valid (opening_of b) (known m)
  pub same : HasSameLanes (opening_of b) g (known h) (known m)
  pub is_lane : lane < lanes (opening_of b) g (known m)
  pub leads : word (opening_of b) (known m) (link_behind g lane before) ≡ next
  pub behind : IsLinkBefore (opening_of b) g lane key before (known m)
  pub ahead : LeadsOn (opening_of b) m.number g lane next (known m)

-- the link that was loaded leads on
leads_on : (b : Board) (g lane before next : ℕ) (i k : Hand) → CanFollow b g i →
    lane < lanes (opening_of b) g (known i) →
    IsLinkInto (opening_of b) g lane before (known i) → FollowsLink b i g lane before next k →
    LeadsOn (opening_of b) k.number g lane next (known k)
leads_on b g lane before next i k can is_lane into follows =
    let o = opening_of b in
    let d = load_of_link g lane before next in
    let valid = valid_known b i k d can.of follows in
    ⊎_elim (λ (z : next ≡ 0). inl z)
    (λ (z : (j : ℕ) × (role o next (known k) ≡ InBuffer g j) × HasLane o g lane j (known k)).
    let some = row_some o (known k) g next z.0 valid z.1 in
    inr (
      z.0,
      (
        z.1,
        now b i k d can.of follows (λ c u. reached c next u ≡ true)
            (link_reaches i.number g lane before next (follows.acts.0 ++ known i) some),
      ),
      z.2,
    ))
    (leads_into b g lane before next i k can is_lane into follows)

-- a link was loaded on the walk to a key that it stands before
pub arrives : (b : Board) (g lane key before next : ℕ) (h i k : Hand) → CanFollow b g i →
    (CanSearch b g h → CanSearch b g i) → i.number ≡ h.number → Continues (known h) (known i) →
    AddsNoEntry h i → Walks b g lane h i → ((d : Action) → Makes b i d k → HasBegun h (known k)) →
    HasSameLanes (opening_of b) g (known h) (known i) →
    lane < lanes (opening_of b) g (known i) →
    IsLinkBefore (opening_of b) g lane key before (known i) →
    FollowsLink b i g lane before next k → IsOn b g lane key before next h k
arrives b g lane key before next h i k can search number since log walks begun same is_lane behind
    follows =
    let o = opening_of b in
    let d = load_of_link g lane before next in
    let is = link_is_load g lane before next in
    let into = before_into o g lane key before (known i) behind in
    record {
      can = follow_on b g i k d is follows can;
      search = λ first. search_on b g i k d is follows (search first);
      number = follows.number ∙ number;
      log = log_on b g i k d is follows h can.of log;
      walks = walks_on b g lane i k d (link_is_walk g lane before next) follows h walks;
      loaded = just_made b h i k d since number can.of follows;
      begun = begun d follows;
      valid = valid_known b i k d can.of follows;
      same = lanes_joined o g (known h) (known i) (known k) same
          (lanes_still b g i k d is follows can);
      is_lane = is_lane_on b g i k d is follows can lane is_lane;
      leads = leads_there b g lane before next i k can is_lane into follows;
      behind = before_on b g i k d is follows can lane key before behind;
      ahead = leads_on b g lane before next i k can is_lane into follows;
    }

-- the first one
pub sets_out : (b : Board) (g lane key next : ℕ) (h k : Hand) → CanFollow b g h →
    lane < lanes (opening_of b) g (known h) → FollowsLink b h g lane 0 next k →
    IsOn b g lane key 0 next h k
sets_out b g lane key next h k can is_lane follows =
    arrives b g lane key 0 next h h k can (λ first. first) refl (continues_same (known h)) refl
    ([], tt, refl) (λ d m. begins b h k d can.of m) (λ which. refl) is_lane (inl refl) follows

-- ---- what the link says ----

-- no key of the lane from this one on has a row that comes before the one to which it leads
pub empty_from : (b : Board) (g lane key before next : ℕ) (h m : Hand) →
    IsOn b g lane key before next h m → (j : ℕ) → key ≤ j →
    HasLane (opening_of b) g lane j (known m) → IsBehindKey (opening_of b) g j next (known m) →
    look (rows g (known m)) j ≡ None
empty_from b g lane key before next h m on j le has ahead =
    let o = opening_of b in
    let says : Decides o g lane j next (known m) =
    subst (λ (z : ℕ). Decides o g lane j z (known m)) on.leads
    (decide o (known m) on.valid g lane j before on.can.walkable has
    (before_more o g lane key j before (known m) le on.behind))
    in
    ⊎_elim (λ (z : next ≡ 0). says.none z)
    (λ (z : (i : ℕ) × (role o next (known m) ≡ InBuffer g i) × (j < i)).
    says.greater z.0 z.1 z.2) ahead

-- the key that is sought is in its lane still
pub sought_in_lane : (b : Board) (g lane key before next : ℕ) (h m : Hand) →
    HasLane (opening_of b) g lane key (known h) → IsOn b g lane key before next h m →
    HasLane (opening_of b) g lane key (known m)
sought_in_lane b g lane key before next h m has on =
    has_same (opening_of b) g lane key (known h) (known m) on.same has

-- ---- a key ----

-- the caller is at the row to which a link led
pub is_at_link : (b : Board) (g lane key before next : ℕ) (h m : Hand) →
    CanSearch b g h → IsOn b g lane key before next h m → next ≢ 0 →
    IsAt (opening_of b) m.number next (known m)
is_at_link b g lane key before next h m first on some =
    record {
      reading = (on.search first).call.reading;
      there = ⊎_elim (λ (z : next ≡ 0). absurd (some z))
          (λ (z : (j : ℕ) × IsReachedRow (opening_of b) m.number g j next (known m)
          × HasLane (opening_of b) g lane j (known m)). inr z.1.1)
          on.ahead;
    }

module _ (b : Board) (g lane key before next met : ℕ) (h m n : Hand) (first : CanSearch b g h)
    (has : HasLane (opening_of b) g lane key (known h)) (on : IsOn b g lane key before next h m)
    (some : next ≢ 0) (l : Makes b m (LoadKey next met) n) where
  reached_row : (j : ℕ) × IsReachedRow (opening_of b) m.number g j next (known m)
      × HasLane (opening_of b) g lane j (known m)
  reached_row =
      ⊎_elim (λ (z : next ≡ 0). absurd (some z))
      (λ (z : (j : ℕ) × IsReachedRow (opening_of b) m.number g j next (known m)
      × HasLane (opening_of b) g lane j (known m)). z) on.ahead

  is_there : IsAt (opening_of b) m.number next (known m)
  is_there = is_at_link b g lane key before next h m first on some

  same : role (opening_of b) next (known n) ≡ role (opening_of b) next (known m)
  same = same_role b m n (LoadKey next met) on.can.of l tt next is_there

  key_is : reached_row.0 ≡ met
  key_is =
      let told : role_key (role (opening_of b) next (known n)) ≡ Some met =
      ap (λ (z : Execution). role_key (role (opening_of b) next z))
      (known_is b m n (LoadKey next met) on.can.of l)
      ∙ (valid_after b m n (LoadKey next met) on.can.of l).0.says
      in
      some_is (sym (ap role_key (same ∙ reached_row.1.0)) ∙ told)

  -- which is that of the key that was loaded
  is_of : role (opening_of b) next (known m) ≡ InBuffer g met
  is_of = reached_row.1.0 ∙ ap (InBuffer g) key_is

  -- a key of the lane
  met_in_lane : HasLane (opening_of b) g lane met (known m)
  met_in_lane =
      subst (λ (z : ℕ). HasLane (opening_of b) g lane z (known m)) key_is reached_row.2

  is_still_of : role (opening_of b) next (known n) ≡ InBuffer g met
  is_still_of = same ∙ is_of

  met_still_in_lane : HasLane (opening_of b) g lane met (known n)
  met_still_in_lane = in_lane_on b g m n (LoadKey next met) tt l on.can lane met met_in_lane

  is_reached : IsReachedRow (opening_of b) n.number g met next (known n)
  is_reached = (
    is_still_of,
    still_reached b m n (LoadKey next met) on.can.of l tt next reached_row.1.1,
  )

  is_at : IsAt (opening_of b) n.number next (known n)
  is_at = still_at b m n (LoadKey next met) on.can.of l tt next is_there

  -- the key that is sought is in its lane
  sought : HasLane (opening_of b) g lane key (known m)
  sought = sought_in_lane b g lane key before next h m has on

  pub sought_on : HasLane (opening_of b) g lane key (known n)
  sought_on = in_lane_on b g m n (LoadKey next met) tt l on.can lane key sought

  -- the row of the key
  pub found_row : met ≡ key → IsReachedRow (opening_of b) n.number g key next (known n)
  found_row e =
      subst (λ (z : ℕ). IsReachedRow (opening_of b) n.number g z next (known n)) e is_reached

  -- a greater key
  pub found_gap : key < met → FindsGap b g lane key before next h n
  found_gap lt =
      let from = sought.from in
      record {
        moment = known m;
        loaded = on.loaded;
        within = is_within h n (known m) on.begun
            (goes_on b m n (LoadKey next met) on.can.of l);
        absent = empty_from b g lane key before next h m on key (omega arith) sought
            (inr (met, is_of, lt));
        leads = on.leads;
        empty = record {
          row = λ key2 there i le less.
              let e : key2 ≡ met = buffer_key (sym there ∙ is_still_of) in
              empty_from b g lane key before next h m on i le
              (in_lane_up_to (opening_of b) g lane i met (known m) (omega arith) (omega arith)
              met_in_lane) (inr (met, is_of, omega arith));
          end = λ none. absurd (some none);
        };
        ahead = λ _. is_reached.1;
        belonged = (sought, on.behind, inr (met, is_of, lt));
        belongs = (
          sought_on,
          before_on b g m n (LoadKey next met) tt l on.can lane key before on.behind,
          inr (met, is_still_of, lt),
        );
      }

  -- a smaller one: the walk goes on
  pub links_on : IsLinkInto (opening_of b) g lane next (known n)
  links_on = inr (met, is_still_of, met_still_in_lane)

  pub goes_behind : (next2 : ℕ) (k : Hand) → met < key → FollowsLink b n g lane next next2 k →
      IsOn b g lane key next next2 h k
  goes_behind next2 k lt follows =
      arrives b g lane key next next2 h n k (follow_on b g m n (LoadKey next met) tt l on.can)
      (λ _. search_on b g m n (LoadKey next met) tt l (on.search first))
      (l.number ∙ on.number)
      (continues_trans (known h) (known m) (known n) (begun_since h (known m) on.begun)
      (goes_on b m n (LoadKey next met) on.can.of l))
      (log_on b g m n (LoadKey next met) tt l h on.can.of on.log)
      (walks_on b g lane m n (LoadKey next met) tt l h on.walks)
      (λ d q. begun_on h (known n) (known k)
      (begun_on h (known m) (known n) on.begun (goes_on b m n (LoadKey next met) on.can.of l))
      (goes_on b n k d l.of q))
      (lanes_joined (opening_of b) g (known h) (known m) (known n) on.same
      (lanes_still b g m n (LoadKey next met) tt l on.can))
      (is_lane_on b g m n (LoadKey next met) tt l on.can lane on.is_lane)
      (inr (met, is_still_of, met_still_in_lane, lt)) follows

-- ---- the walk ends ----

-- the keys that are met rise
pub left_falls : (b : Board) (g lane key before next met next2 : ℕ) (h m n k : Hand) →
    CanSearch b g h → HasLane (opening_of b) g lane key (known h) →
    IsOn b g lane key before next h m → next ≢ 0 → Makes b m (LoadKey next met) n → met < key →
    FollowsLink b n g lane next next2 k →
    rise_left (opening_of b) key next2 (known k) < rise_left (opening_of b) key next (known m)
left_falls b g lane key before next met next2 h m n k first has on some l lt follows =
    let o = opening_of b in
    let on_k = goes_behind b g lane key before next met h m n first has on some l next2 k lt follows
    in
    let here : role o next (known k) ≡ InBuffer g met =
    same_role b n k (load_of_link g lane next next2)
    (follow_on b g m n (LoadKey next met) tt l on.can).of follows
    (no_crossing g (load_of_link g lane next next2) (link_is_load g lane next next2)) next
    (is_at b g lane key before next met h m n first has on some l)
    ∙ is_still_of b g lane key before next met h m n first has on some l in
    let old = left_some o key next met g (known m) some
    (is_of b g lane key before next met h m n first has on some l) in
    ⊎_elim
    (λ (z : next2 ≡ 0).
    let new = left_none o key next2 (known k) z in omega arith)
    (λ (z : (j : ℕ) × IsReachedRow o k.number g j next2 (known k) × HasLane o g lane j (known k)).
    let more : met < z.0 = rises o (known k) on_k.valid g next next2 met z.0 on_k.can.walkable
    here (ap (word o (known k)) (sym (link_of_row g lane next some)) ∙ on_k.leads) z.1.0 in
    let new = left_some o key next2 z.0 g (known k)
    (row_some o (known k) g next2 z.0 on_k.valid z.1.0) z.1.0 in
    omega arith)
    on_k.ahead

-- the end of the lane
pub found_end : (b : Board) (g lane key before next : ℕ) (h m : Hand) →
    HasLane (opening_of b) g lane key (known h) → IsOn b g lane key before next h m → next ≡ 0 →
    FindsGap b g lane key before next h m
found_end b g lane key before next h m has on none =
    let sought = sought_in_lane b g lane key before next h m has on in
    record {
      moment = known m;
      loaded = on.loaded;
      within = is_within h m (known m) on.begun (continues_same (known m));
      absent = empty_from b g lane key before next h m on key (omega arith) sought (inl none);
      leads = on.leads;
      empty = record {
        row = λ first there i le less.
            absurd (row_some (opening_of b) (known m) g next first on.valid there none);
        end = λ _ i le in_lane. empty_from b g lane key before next h m on i le in_lane (inl none);
      };
      ahead = λ some. absurd (some none);
      belonged = (sought, on.behind, inl none);
      belongs = (sought, on.behind, inl none);
    }

-- the row behind a gap is the first one from the key on
pub first_behind : (b : Board) (g lane key before next : ℕ) (h k : Hand) →
    FindsGap b g lane key before next h k → next ≢ 0 → FindsFirst b g lane key h (Some next) k
first_behind b g lane key before next h k gap some =
    let o = opening_of b in
    ⊎_elim (λ (z : next ≡ 0). absurd (some z))
    (λ (z : (j : ℕ) × (role o next (known k) ≡ InBuffer g j) × (key < j)). (
      z.0,
      (z.1, gap.ahead some),
      inr (z.2, (gap.moment, ((before, gap.loaded), gap.within), gap.empty.row z.0 z.1)),
    ))
    gap.belongs.2
