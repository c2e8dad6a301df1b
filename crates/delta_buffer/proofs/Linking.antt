-- A row is filled with its link and linked.
--
-- The fact to remember: between the two steps the hand itself did nothing but store the link, so what
-- belonged there before belongs there still.
use Rattle.std.proofs.Common.{append_assoc, ◌≡◌, ◌⊎◌, ℕ, ◌<◌, inl, inr, ⊎_elim, Option, None}
use Rattle.std.proofs.Common.{false, []}
use Rattle.std.proofs.Common.{◌∷◌, ◌++◌, length, refl, sym, ap, ◌∙◌, subst, arith}
use Rattle.map_model.specs.declared.entries.Change.{Change}
use Rattle.map_model.specs.declared.entries.Change.TheVariants.{Put}
use Rattle.map_model.specs.declared.entries.Entry.TheVariants.{Made}
use Rattle.map_model.specs.Logs.{Log}
use Rattle.map_model.specs.Map.{key_of, look}
use Rattle.word_layout.specs.Shape.{Shape}
use Rattle.word_layout.specs.declared.places.Part.TheVariants.{Key, Link, State, Value}
use Rattle.word_layout.specs.declared.places.Part.{Part}
use Rattle.word_layout.specs.Words.{PlaceWord}
use Rattle.word_layout.specs.Places.{FitsPart, IsRow, part_address, part_of}
use Rattle.index_machine.specs.declared.events.Action.{Action}
use Rattle.index_machine.specs.declared.events.Action.TheVariants.{FailLink, LinkRow, StorePrivate}
use Rattle.index_machine.specs.declared.opening.Opening.{Opening}
use Rattle.index_machine.specs.Conditions.{Valid}
use Rattle.index_machine.specs.Execution.{Execution, Without}
use Rattle.index_machine.specs.Forms.{Unlocked, state_word}
use Rattle.index_machine.specs.LivePlaces.{history, live_place, value_in_map}
use Rattle.index_machine.specs.Permissions.{IsBufferFor, MayInsertInto}
use Rattle.index_machine.specs.Places.{first_version}
use Rattle.index_machine.specs.Rows.{InBuffer, role}
use Rattle.index_machine.specs.Sections.{IsCaller, IsNoCrossing, StaysInside}
use Rattle.index_machine.specs.Lanes.{HasLane}
use Rattle.index_machine.specs.Words.{shape, word}
use Rattle.index_machine.proofs.Executions.{choice-same}
use Rattle.machine_buffers.specs.Walks.{IsLinkBefore}
use Rattle.machine_buffers.proofs.InsertPermissions.{permission_while}
use Rattle.machine_readers.specs.Buffers.{rows}
use Rattle.machine_readers.proofs.FromOpening.{gaps}
use Rattle.machine_readers.proofs.ReadSections.{place_on}
use Rattle.index_rule.specs.declared.board.Board.{Board}
use Rattle.index_rule.specs.declared.hand.Hand.{Hand}
use Rattle.index_rule.specs.declared.swap.Linked.{Linked}
use Rattle.index_rule.specs.declared.swap.Linked.TheVariants as linked
use Rattle.index_rule.specs.Buffers.{BelongsWhileAbsent, IsBehindKey, IsFilled, Links}
use Rattle.index_rule.specs.Buffers.{MayInsertRow, inserted_by, key_in}
use Rattle.index_rule.specs.Hands.{IsHandOf, Makes, known, opening_of, view}
use Rattle.index_rule.specs.Moments.{AddsChange, AddsNoEntry}
use Rattle.index_rule.proofs.BufferStepping.{still_in_lane}
use Rattle.index_rule.proofs.BufferSteps.{row_by_hand}
use Rattle.index_rule.proofs.Calls.{begins, begun_on, from_there, is_within, up_to}
use Rattle.index_rule.proofs.RecordReading.{log_is, no_entry}
use Rattle.index_rule.proofs.RecordStepping.{goes_on_inside, now, since}
use Rattle.index_rule.proofs.Stepping.{held_word_is, known_is, others_only, still_holds}
use Rattle.index_rule.proofs.Stepping.{valid_after}
use Rattle.index_rule.proofs.Elsewhere.{KnowsNoneElsewhere, elsewhere_now, elsewhere_on}
use Rattle.index_rule.proofs.Elsewhere.{lives_nowhere, not_in_map}
use Rattle.index_rule.proofs.HeldRows.{other_word, stored_word, stores_part}
use Rattle.sorted_group.specs.Standing.{CanSearch}
use Rattle.sorted_group.proofs.BufferLoads.{can_walk, search_after, searches_follow}
use Rattle.delta_buffer.specs.Inserting.{CanInsert, InsertTells, Inserts, KeepsRow, OnlyStores}
use Rattle.delta_buffer.specs.Inserting.{BelongsUntilLinked, IsPrivateStore}
use Rattle.delta_buffer.specs.Inserting.{KeysWithoutAValueBelong, change_of}
use Rattle.delta_buffer.proofs.Stepping.{before_after}

-- ---- what others do ----

only_own : (c : ℕ) (n : Execution) → Without c n → OnlyStores c n
only_own c [] out = tt
only_own c (e ∷ n) out = ((λ own. absurd (out.0 own)), only_own c n out.1)

only_joined : (c : ℕ) (n t : Execution) → Without c n → OnlyStores c t → OnlyStores c (n ++ t)
only_joined c [] t out only = only
only_joined c (e ∷ n) t out only =
    ((λ own. absurd (out.0 own)), only_joined c n t out.1 only)

-- stores into one's own row do not end a read section
store_is_no_crossing : (d : Action) → IsPrivateStore d → IsNoCrossing d
store_is_no_crossing (StorePrivate place part value) is = tt
store_is_no_crossing d is = absurd is

stays_with_stores : (c : ℕ) (n : Execution) → OnlyStores c n → StaysInside c n
stays_with_stores c [] only = tt
stays_with_stores c (e ∷ n) only =
    ((λ own. store_is_no_crossing e.action (only.0 own)), stays_with_stores c n only.1)

pub belongs_elsewhere : (o : Opening) (t : Execution) (c k g : ℕ) → IsCaller o c →
    KnowsNoneElsewhere o c k g t → BelongsUntilLinked o c g k t
belongs_elsewhere o t c k g is before newer whole only gap =
    let T : Execution = newer ++ t in
    let none = elsewhere_on o c k g is newer t whole (stays_with_stores c newer only) before in
    lives_nowhere o c k g T is whole none (λ p row. absurd (gaps o T whole g k gap p row))

pub keys_belong : KeysWithoutAValueBelong
keys_belong o t valid c k g is either =
    belongs_elsewhere o t c k g is (elsewhere_now o c k g t is valid either)

-- ---- what a link may be ----

-- no row or a row can be stored in each part of a row
pub fits_each : (s : Shape) (part : Part) (value : ℕ) → (value ≡ 0) ⊎ IsRow s value →
    FitsPart s part value
fits_each s Key value row = tt
fits_each s Value value row = tt
fits_each s State value row = tt
fits_each s Link value row = row

-- what stands behind a key is none or a row
pub row_ahead_of : (b : Board) (h : Hand) (g key next : ℕ) → IsHandOf b h →
    IsBehindKey (opening_of b) g key next (known h) →
    (next ≡ 0) ⊎ IsRow (shape (opening_of b)) next
row_ahead_of b h g key next of ahead =
    ⊎_elim (λ (z : next ≡ 0). inl z)
    (λ (z : (j : ℕ) × (role (opening_of b) next (known h) ≡ InBuffer g j) × (key < j)).
    inr (row_by_hand b h g next of (z.0, z.1))) ahead

-- ---- the link is stored ----

-- the store at the address of the row's link
pub stores_link : (b : Board) (h n : Hand) (place row address next : ℕ) → row ≡ place →
    address ≡ part_address row Link →
    Makes b h (StorePrivate place (part_of place address) next) n →
    Makes b h (StorePrivate place Link next) n
stores_link b h n place row address next same at m =
    stores_part b h n place place address Link next next refl
    (at ∙ ap (λ (p : ℕ). part_address p Link) same) refl m

module _ (b : Board) (g lane place before next : ℕ) (h n : Hand) (can : CanSearch b g h)
    (may : CanInsert (opening_of b) h.number g lane place before next (known h))
    (m : Makes b h (StorePrivate place Link next) n) where
  key_kept : key_in (opening_of b) place (known n) ≡ key_in (opening_of b) place (known h)
  key_kept = other_word b h n place Link next can.call.of m may.filled.held Key (λ z. omega (arith, z))

  value_kept : word (opening_of b) (known n) (PlaceWord place Value)
      ≡ word (opening_of b) (known h) (PlaceWord place Value)
  value_kept =
      other_word b h n place Link next can.call.of m may.filled.held Value (λ z. omega (arith, z))

  state_kept : word (opening_of b) (known n) (PlaceWord place State)
      ≡ word (opening_of b) (known h) (PlaceWord place State)
  state_kept =
      other_word b h n place Link next can.call.of m may.filled.held State (λ z. omega (arith, z))

  filled_on : IsFilled (opening_of b) n.number place next (known n)
  filled_on =
      record {
        held = still_holds b h n (StorePrivate place Link next) can.call.of m tt place may.filled.held;
        new_word = state_kept ∙ (may.filled.new_word
            ∙ ap (λ (x : ℕ). state_word (Unlocked (first_version (opening_of b)) false x))
            (sym value_kept));
        link_word = stored_word b h n place Link next can.call.of m may.filled.held;
      }

  change_kept : change_of b n place ≡ change_of b h place
  change_kept i = Put (m.number i) (key_kept i) (value_kept i)

  ahead_on : IsBehindKey (opening_of b) g (key_in (opening_of b) place (known h)) next (known n)
  ahead_on =
      let o = opening_of b in
      let d = StorePrivate place Link next in
      let key : ℕ = key_in o place (known h) in
      now b h n d can.call.of m (λ z t. IsBehindKey o g key next t)
      (⊎_elim (λ (z : next ≡ 0). inl z)
      (λ (z : (j : ℕ) × (role o next (known h) ≡ InBuffer g j) × (key < j)).
      inr (
        z.0,
        place_on o h.number g can.call.reading.caller next z.0 (since b h n d can.call.of m) (known h)
            (valid_after b h n d can.call.of m) (goes_on_inside b h n d can.call.of m tt) can.stands
            (inr z.1)
            ∙ z.1,
        z.2,
      ))
      may.between.2)

  belongs_on : BelongsWhileAbsent (opening_of b) n.number g
      (key_in (opening_of b) place (known h)) (known n)
  belongs_on =
      let o = opening_of b in
      let d = StorePrivate place Link next in
      let key : ℕ = key_in o place (known h) in
      let s : Execution = since b h n d can.call.of m in
      now b h n d can.call.of m (λ z t. BelongsWhileAbsent o z g key t)
      (λ newer valid out gap.
      let whole : (newer ++ s) ++ known h ≡ newer ++ (s ++ known h) = append_assoc newer s (known h)
      in
      subst (λ (t : Execution). IsBufferFor o key g t × (live_place o key t ≡ None)) whole
      (may.belongs (newer ++ s) (subst (Valid o) (sym whole) valid)
      (only_joined h.number newer s out
      ((λ _. tt), only_own h.number m.acts.0 (others_only b h n d can.call.of m)))
      (subst (λ (t : Execution). look (rows g t) key ≡ None) (sym whole) gap)))

  pub may_insert_row : MayInsertRow (opening_of b) n.number g lane place before next (known n)
  may_insert_row =
      let o = opening_of b in
      let d = StorePrivate place Link next in
      let on = search_after b g h n d tt (λ z. z) m can in
      let key : ℕ = key_in o place (known h) in
      record {
        reading = on.call.reading;
        stands = on.stands;
        walkable = on.walkable;
        permission = now b h n d can.call.of m (λ z t. MayInsertInto z g t)
            (permission_while o h.number g can.call.reading.caller (since b h n d can.call.of m) (known h)
            (valid_after b h n d can.call.of m) (goes_on_inside b h n d can.call.of m tt) may.permission);
        filled = filled_on;
        in_lane = subst (λ (x : ℕ). HasLane o g lane x (known n)) (sym key_kept)
            (still_in_lane b h n d can.call.of m g lane key (λ z. let bad = z.3 in cc)
            (can_walk b g h (searches_follow b g h can)) may.between.0);
        behind = subst (λ (x : ℕ). IsLinkBefore o g lane x before (known n)) (sym key_kept)
            (before_after b g lane key before h n d tt m can may.between.1);
        ahead = subst (λ (x : ℕ). IsBehindKey o g x next (known n)) (sym key_kept) ahead_on;
        belongs = subst (λ (x : ℕ). BelongsWhileAbsent o n.number g x (known n)) (sym key_kept)
            belongs_on;
      }

  -- ---- the link is exchanged ----

  module _ (k : Hand) where
    -- the change is that of the row as it was filled
    linking : Makes b n
        (LinkRow g lane place (inserted_by (opening_of b) n.number place (known n)) before next) k →
        Makes b n (LinkRow g lane place (change_of b h place) before next) k
    linking l =
        subst (λ (c : Change). Makes b n (LinkRow g lane place c before next) k) change_kept l

    -- the row was linked
    module _ (l : Makes b n (LinkRow g lane place (change_of b h place) before next) k) where
      pub done_steps : Inserts b h g lane place before next linked.Done k
      done_steps = (n, (h, refl, m), l)

      abbrev moment : Execution
      moment = l.acts.0 ++ known n

      was_absent : value_in_map (opening_of b) (key_of (change_of b h place)) moment ≡ None
      was_absent =
          let d = LinkRow g lane place (change_of b h place) before next in
          let valid = valid_after b n k d m.of l in
          not_in_map (opening_of b) moment (key_of (change_of b h place)) valid.1
          valid.0.not_live_elsewhere

      adds : AddsChange b h (change_of b h place) None k
      adds =
          let o = opening_of b in
          let s = StorePrivate place Link next in
          let d = LinkRow g lane place (change_of b h place) before next in (
            moment,
            is_within h k moment
                (begun_on h (known n) moment (begins b h n s can.call.of m) (up_to b n k d m.of l))
                (from_there b n k d m.of l),
            was_absent,
            log_is b n k d m.of l
                ∙ (ap (λ (old : Option ℕ). Made (length (history moment)) (change_of b h place) old
                ∷ (view n).log) was_absent
                ∙ ap (λ (log : Log). Made (length (history moment)) (change_of b h place) None
                ∷ log) (no_entry b h n s can.call.of m (λ o t log. refl))),
          )

      pub done_tells : InsertTells b h g place next linked.Done k
      done_tells =
          let o = opening_of b in
          let d = LinkRow g lane place (change_of b h place) before next in (
            adds,
            ap (role o place) (known_is b n k d m.of l)
                ∙ choice-same place place (InBuffer g (key_in o place (known h)))
                (role o place moment) refl,
          )

    -- the link led elsewhere
    module _ (found : ℕ) (l : Makes b n (FailLink g lane before next found) k) where
      word_kept : (part : Part) → word (opening_of b) (known k) (PlaceWord place part)
          ≡ word (opening_of b) (known n) (PlaceWord place part)
      word_kept part =
          held_word_is b n k (FailLink g lane before next found) m.of l place part filled_on.held

      pub raced_keeps : KeepsRow b h place next k
      raced_keeps =
          record {
            filled = record {
              held = still_holds b n k (FailLink g lane before next found) m.of l tt place
                  filled_on.held;
              new_word = word_kept State ∙ (filled_on.new_word
                  ∙ ap (λ (x : ℕ). state_word (Unlocked (first_version (opening_of b)) false x))
                  (sym (word_kept Value)));
              link_word = word_kept Link ∙ filled_on.link_word;
            };
            change = (λ i. Put (l.number i) (word_kept Key i) (word_kept Value i)) ∙ change_kept;
          }

      pub raced_log : AddsNoEntry h k
      raced_log =
          no_entry b n k (FailLink g lane before next found) m.of l (λ o t log. refl)
          ∙ no_entry b h n (StorePrivate place Link next) can.call.of m (λ o t log. refl)

-- ---- the answers ----

module _ (b : Board) (g lane place before next : ℕ) (h n k : Hand) (can : CanSearch b g h)
    (may : CanInsert (opening_of b) h.number g lane place before next (known h))
    (m : Makes b h (StorePrivate place Link next) n) where
  pub answer_steps : (answer : Linked) → Links b n g lane place before next answer k →
      Inserts b h g lane place before next answer k
  answer_steps linked.Done l =
      done_steps b g lane place before next h n can may m k
      (linking b g lane place before next h n can may m k l)
  answer_steps (linked.Raced row found) l = (l.0, l.2, (n, (h, refl, m), l.1))

  pub answer_tells : (answer : Linked) → Links b n g lane place before next answer k →
      InsertTells b h g place next answer k
  answer_tells linked.Done l =
      done_tells b g lane place before next h n can may m k
      (linking b g lane place before next h n can may m k l)
  answer_tells (linked.Raced row found) l = (
    raced_log b g lane place before next h n can may m k found l.1,
    raced_keeps b g lane place before next h n can may m k found l.1,
  )

  pub answer_search : (answer : Linked) → Links b n g lane place before next answer k →
      CanSearch b g k
  answer_search linked.Done l =
      search_after b g n k
      (LinkRow g lane place (inserted_by (opening_of b) n.number place (known n)) before next) tt
      (λ z. z) l (search_after b g h n (StorePrivate place Link next) tt (λ z. z) m can)
  answer_search (linked.Raced row found) l =
      search_after b g n k (FailLink g lane before next found) tt (λ z. z) l.1
      (search_after b g h n (StorePrivate place Link next) tt (λ z. z) m can)
