-- What a caller that is to link a new row knows after each of its steps.
use Rattle.std.proofs.Common.{◌≡◌, ℕ, ◌<◌, inl, inr, ⊎_elim, false, [], ◌∷◌, ◌++◌, refl, sym, ap}
use Rattle.std.proofs.Common.{◌∙◌, subst}
use Rattle.word_layout.specs.declared.places.Part.TheVariants as part
use Rattle.word_layout.specs.declared.places.Part.{Part}
use Rattle.word_layout.specs.Words.{PlaceWord, Word, same_word}
use Rattle.std.proofs.Common.{Option, length, ◌≢◌}
use mathlib.Core.Logic.{dite}
use native.Mathlib.Decide.{ℕ_discrete}
use Rattle.map_model.specs.Map.{key_of}
use Rattle.index_machine.proofs.Placing.{placed}
use Rattle.index_machine.specs.Sections.{IsCaller}
use Rattle.map_model.specs.declared.entries.Change.{Change}
use Rattle.map_model.specs.declared.entries.Entry.TheVariants.{Made}
use Rattle.map_model.specs.Logs.{Log}
use Rattle.index_machine.specs.LivePlaces.{history}
use Rattle.index_rule.specs.Moments.{AddsChange}
use Rattle.row_arena.specs.Taking.{Fills, first_state}
use Rattle.index_machine.specs.declared.events.Action.{Action}
use Rattle.index_machine.specs.declared.events.Action.TheVariants.{LinkRow}
use Rattle.index_machine.specs.declared.events.Action.TheVariants.{StorePrivate}
use Rattle.index_machine.specs.Forms.{Unlocked, state_word}
use Rattle.index_machine.specs.Places.{first_version}
use Rattle.index_machine.specs.Words.{link_behind, store_of, word}
use Rattle.delta_buffer.proofs.Linking.{keys_belong}
use Rattle.delta_buffer.specs.Inserting.{BelongsUntilLinked, CanInsert}
use Rattle.delta_buffer.specs.Searching.{BelongsBetween}
use Rattle.index_machine.specs.Execution.{Continues, Execution}
use Rattle.index_machine.specs.Rows.{HeldBy, Holds, HoldsNone, InBuffer, role}
use Rattle.index_machine.specs.Sections.{IsNoCrossing}
use Rattle.index_machine.proofs.Executions.{choice-other, choice-same, continues_trans}
use Rattle.index_machine.proofs.Holders.{TakesLock}
use Rattle.index_rule.specs.declared.board.Board.{Board}
use Rattle.index_rule.specs.declared.hand.Hand.{Hand}
use Rattle.index_rule.specs.Hands.{IsHandOf, Makes, MakesAll, known, opening_of}
use Rattle.index_rule.proofs.BufferStepping.{still_row}
use Rattle.index_rule.proofs.Calls.{HasBegun, begun_on, goes_on, is_within}
use Rattle.index_rule.proofs.RecordReading.{KeepsLog}
use Rattle.index_rule.proofs.RecordStepping.{now}
use Rattle.index_rule.proofs.Stepping.{valid_after}
use Rattle.delta_buffer.specs.Walks.{MakesIn, load_of_link}
use Rattle.delta_buffer.proofs.CallSteps.{made_in_call}
use Rattle.delta_buffer.proofs.Stepping.{before_after}
use Rattle.sorted_group.proofs.BufferLoads.{can_walk, search_after, searches_follow}
use Rattle.sorted_group.specs.Standing.{CanSearch}
use Rattle.index_machine.specs.Lanes.{HasLane}
use Rattle.machine_buffers.specs.Groups.{Begins}
use Rattle.index_rule.proofs.BufferStepping.{still_in_lane}
use Rattle.point_calls.specs.declared.found.Gap.{Gap}
use Rattle.point_calls.specs.PointCalls.{IsOneSection, StoresElsewhere}
use Rattle.point_calls.specs.Putting.{HasFoundGap, HasNoRow, MayComeInto, MayLinkIn}
use Rattle.point_calls.proofs.Knowing.{call_since, call_step, section_on}
use Rattle.point_calls.proofs.LeftWords.{left_on, row_elsewhere}
use Rattle.point_calls.proofs.NoneElsewhere.{may_come_on, no_row_on, permission}
use Rattle.point_calls.proofs.Staying.{stays_in}

-- a step by which the hand does not leave, takes no lock, adds no entry, and stores nothing at the
-- word
pub record IsQuiet (hand : ℕ) (w : Word) (d : Action) : Type 0 where
  pub none : IsNoCrossing d
  pub free : TakesLock d → ⊥
  pub keeps : KeepsLog d
  pub elsewhere : StoresElsewhere w (store_of hand d)
  pub unbegun : (group : ℕ) → Begins group d → ⊥

-- the key stays in its lane
lane_after : (b : Board) (g lane key : ℕ) (h k : Hand) (d : Action) → (Begins g d → ⊥) →
    Makes b h d k → CanSearch b g h → HasLane (opening_of b) g lane key (known h) →
    HasLane (opening_of b) g lane key (known k)
lane_after b g lane key h k d never m can has =
    still_in_lane b h k d can.call.of m g lane key never
    (can_walk b g h (searches_follow b g h can)) has

-- so it still belongs into the gap
pub between_on : (b : Board) (h k : Hand) (gap : Gap) (d : Action) → IsNoCrossing d →
    (Begins gap.lane.group d → ⊥) → Makes b h d k → CanSearch b gap.lane.group h →
    BelongsBetween (opening_of b) gap.lane.group gap.lane.number gap.key gap.before gap.next (known h) →
    BelongsBetween (opening_of b) gap.lane.group gap.lane.number gap.key gap.before gap.next (known k)
between_on b h k gap d none never m can between = (
  lane_after b gap.lane.group gap.lane.number gap.key h k d never m can between.0,
  before_after b gap.lane.group gap.lane.number gap.key gap.before h k d none m can between.1,
  ⊎_elim (λ (z : gap.next ≡ 0). inl z)
      (λ (z : (j : ℕ) × (role (opening_of b) gap.next (known h) ≡ InBuffer gap.lane.group j) × (gap.key < j)).
      inr (
        z.0,
        still_row b h k d can.call.of m can.call.reading.caller none gap.lane.group z.0 gap.next can.stands z.1,
        z.2,
      ))
      between.2,
)

-- it still may link behind such a step
pub may_on : (b : Board) (start h k : Hand) (gap : Gap) (d : Action) →
    IsQuiet h.number (link_behind gap.lane.group gap.lane.number gap.before) d → Makes b h d k →
    MayLinkIn b start h gap → MayLinkIn b start k gap
may_on b start h k gap d quiet m may =
    let o = opening_of b in
    let of = may.search.call.of in
    let on = goes_on b h k d of m in
    let call = call_step b start h k d quiet.none quiet.keeps of m may.call in
    record {
      call = call;
      search = search_after b gap.lane.group h k d quiet.none quiet.free m may.search;
      may = may_come_on b start h k gap.lane.group gap.key
          (stays_in start h k may.call.so_far.number call.so_far.number may.call.section call.section on)
          may.search.call.reading.caller call.follows.valid on may.may;
      no_row = no_row_on b gap.key start h k on may.no_row;
      loaded = left_on b start h k (load_of_link gap.lane.group gap.lane.number gap.before gap.next) d
          (link_behind gap.lane.group gap.lane.number gap.before) may.call.so_far.number of quiet.elsewhere m may.loaded;
      between = between_on b h k gap d quiet.none (quiet.unbegun gap.lane.group) m may.search may.between;
    }

-- its step is one of the call
pub made_there : (b : Board) (start h k : Hand) (gap : Gap) (d : Action) →
    MayLinkIn b start h gap → Makes b h d k → MakesIn start d k
made_there b start h k gap d may m =
    made_in_call b start h k d (call_since b start h may.call) may.call.so_far.number
    may.search.call.of m

-- ---- the gap that was found ----

-- there a row may be linked
pub may_link : (b : Board) (start h : Hand) (gap : Gap) → HasFoundGap b start h gap →
    MayComeInto b start h gap.lane.group gap.key → HasNoRow b gap.key start h → MayLinkIn b start h gap
may_link b start h gap found may had =
    record {
      call = found.at.call;
      search = found.at.search;
      may = may;
      no_row = had;
      loaded = found.loaded;
      between = found.between;
    }

-- ---- its row ----

-- the filled row may be linked
pub can_insert : (b : Board) (start h : Hand) (gap : Gap) (place : ℕ) →
    MayLinkIn b start h gap → Holds (opening_of b) h.number place (known h) →
    word (opening_of b) (known h) (PlaceWord place part.Key) ≡ gap.key →
    word (opening_of b) (known h) (PlaceWord place part.State)
    ≡ state_word (Unlocked (first_version (opening_of b)) false
    (word (opening_of b) (known h) (PlaceWord place part.Value))) →
    CanInsert (opening_of b) h.number gap.lane.group gap.lane.number place gap.before gap.next
    (known h)
can_insert b start h gap place may held is new =
    let o = opening_of b in
    record {
      filled = record { held = held; new_word = new; link_word = refl };
      between = subst (λ (z : ℕ). BelongsBetween o gap.lane.group gap.lane.number z gap.before gap.next (known h)) (sym is)
          may.between;
      permission = permission o h.number gap.key gap.lane.group (known h) may.may.elsewhere;
      belongs = subst (λ (z : ℕ). BelongsUntilLinked o h.number gap.lane.group z (known h)) (sym is)
          (keys_belong o (known h) may.call.follows.valid h.number gap.key gap.lane.group
          may.search.call.reading.caller may.may.elsewhere);
    }

-- the words of its own row are other ones than the link
pub own_elsewhere : (b : Board) (start h : Hand) (gap : Gap) (place : ℕ) (p : Part) →
    Holds (opening_of b) h.number place (known h) → MayLinkIn b start h gap →
    same_word (PlaceWord place p) (link_behind gap.lane.group gap.lane.number gap.before) ≡ false
own_elsewhere b start h gap place p held may =
    row_elsewhere (opening_of b) h.number gap.lane.group gap.lane.number gap.key gap.before place p
    (known h) may.between.1 held

-- behind a store to its row
pub may_stored : (b : Board) (start h k : Hand) (gap : Gap) (place : ℕ) (p : Part) (value : ℕ) →
    same_word (PlaceWord place p) (link_behind gap.lane.group gap.lane.number gap.before) ≡ false →
    Makes b h (StorePrivate place p value) k → MayLinkIn b start h gap → MayLinkIn b start k gap
may_stored b start h k gap place p value apart m may =
    may_on b start h k gap (StorePrivate place p value)
    (record {
      none = tt;
      free = λ z. z;
      keeps = λ o t log. refl;
      elsewhere = apart;
      unbegun = λ g z. let bad = z.3 in cc;
    }) m may

-- behind the filling of its row
pub may_filled : (b : Board) (start h k : Hand) (gap : Gap) (place value : ℕ) →
    Holds (opening_of b) h.number place (known h) → Fills b h place gap.key value k →
    MayLinkIn b start h gap → MayLinkIn b start k gap
may_filled b start h k gap place value held fills may =
    let apart = λ (p : Part). own_elsewhere b start h gap place p held may in
    let all = fills.steps in
    let one = all.1.0 in
    let first : Makes b h (StorePrivate place part.Key gap.key) one =
    subst (λ (z : Hand). Makes b z (StorePrivate place part.Key gap.key) one) all.1.1.1 all.1.1.2 in
    may_stored b start all.0 k gap place part.State (first_state (opening_of b)) (apart part.State)
    all.2
    (may_stored b start one all.0 gap place part.Value value (apart part.Value) all.1.2
    (may_stored b start h one gap place part.Key gap.key (apart part.Key) first may))

-- ---- its link ----

-- the hand stored the link of its filled row, and tried to exchange the one before it
module _ (b : Board) (start k : Hand) (gap : Gap) (row : ℕ) (d : Action) (e : Hand)
    (may : MayLinkIn b start k gap) (held : Holds (opening_of b) k.number row (known k))
    (steps : MakesAll b k (d ∷ StorePrivate row part.Link gap.next ∷ []) e) where
  -- before the exchange
  pub may_before : MayLinkIn b start steps.0 gap
  may_before =
      let store = StorePrivate row part.Link gap.next in
      may_stored b start k steps.0 gap row part.Link gap.next
      (own_elsewhere b start k gap row part.Link held may)
      (subst (λ (z : Hand). Makes b z store steps.0) steps.1.1 steps.1.2) may

  -- and behind it
  pub section_behind : IsNoCrossing d → IsOneSection start e
  section_behind none =
      section_on b start steps.0 e d none may_before.search.call.of steps.2 may_before.call.section

-- the change that the link added is one of the call
pub adds_there : (b : Board) (start h k : Hand) (gap : Gap) (change same : Change)
    (old : Option ℕ) → MayLinkIn b start h gap → change ≡ same →
    AddsChange b h change old k → AddsChange b start same old k
adds_there b start h k gap change same old may is adds =
    let moment : Execution = adds.0 in
    let w = may.call.so_far.within in
    let here : Continues (known h) moment =
    continues_trans (known h) (adds.1.1 ++ known h) moment (adds.1.1, refl) adds.1.4 in
    let begun : HasBegun start moment =
    begun_on start (known h) moment (w.0, w.1, w.2, w.3) here in
    subst (λ (z : Change). AddsChange b start z old k) is (
      moment,
      is_within start k moment begun adds.1.5,
      adds.2,
      adds.3 ∙ ap (λ (l : Log). Made (length (history moment)) change old ∷ l) may.call.so_far.no_entry,
    )

-- a hand that linked its row holds none
pub holds_none_linked : (b : Board) (h k : Hand) (g lane place p q : ℕ) (d : Change) → IsHandOf b h →
    IsCaller (opening_of b) h.number → Makes b h (LinkRow g lane place d p q) k →
    HoldsNone (opening_of b) k.number (known k)
holds_none_linked b h k g lane place p q d of caller m =
    let o = opening_of b in
    let t : Execution = m.acts.0 ++ known h in
    let valid = valid_after b h k (LinkRow g lane place d p q) of m in
    now b h k (LinkRow g lane place d p q) of m (λ z u. (x : ℕ) → role o x u ≡ HeldBy z → ⊥)
    (λ x held. dite (ℕ_discrete place x)
    (λ (here : place ≡ x). in_buffer
    (sym (choice-same place x (InBuffer g (key_of d)) (role o x t) here) ∙ held))
    (λ (apart : place ≢ x). absurd (apart
    ((placed o t valid.1).one h.number place x caller valid.0.mine
    (sym (choice-other place x (InBuffer g (key_of d)) (role o x t) apart) ∙ held)))))
  where
    in_buffer : {group j hand : ℕ} → InBuffer group j ≡ HeldBy hand → ⊥
    in_buffer e = absurd (let bad = e in cc)
