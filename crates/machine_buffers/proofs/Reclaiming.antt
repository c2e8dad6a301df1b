-- What stays of a buffer while its rows are taken out.
use Rattle.std.proofs.Common.{◌≡◌, ◌≢◌, ℕ, ◌<◌, inl, inr, ⊎_elim, Some, [], ◌∷◌, ◌++◌, refl}
use Rattle.std.proofs.Common.{sym, ap, ◌∙◌, subst}
use mathlib.Core.Logic.{dite}
use native.Mathlib.Decide.{ℕ_discrete}
use Rattle.index_machine.proofs.Executions.{choice-same}
use Rattle.index_machine.specs.Conditions.{Allowed, Valid}
use Rattle.index_machine.specs.Execution.{Execution, event}
use Rattle.index_machine.specs.Lanes.{HasLane, lanes}
use Rattle.index_machine.specs.Rows.{InBuffer, role}
use Rattle.index_machine.specs.Sections.{IsHand}
use Rattle.index_machine.specs.declared.events.Action.{Action}
use Rattle.index_machine.specs.declared.events.Action.TheVariants.{LinkRow, NewGroup}
use Rattle.index_machine.specs.declared.events.Action.TheVariants.{StoreHeader}
use Rattle.index_machine.specs.declared.opening.Opening.{Opening}
use Rattle.machine_barriers.proofs.Reaches.{may_as}
use Rattle.machine_buffers.proofs.BegunLanes.{HasSameLanes, HasSomeLane, begun_on, has_same, lane_of}
use Rattle.machine_buffers.proofs.BegunLanes.{lane_same, some_same, until_begun}
use Rattle.machine_buffers.proofs.LaneWords.{LinksRowInto, in_use, links_or_not, rows_same, words_kept}
use Rattle.machine_buffers.proofs.LinkWords.{LinksFirst, lane_word_stays}
use Rattle.machine_buffers.proofs.LinkingRows.{walkable_here}
use Rattle.machine_buffers.proofs.NextRows.{none_in_empty}
use Rattle.machine_buffers.proofs.OutOfUse.{begins_or_not, out_on}
use Rattle.machine_buffers.proofs.Walkable.{Retires, begun_walkable, buffers_hold, row_on}
use Rattle.machine_buffers.proofs.Walks.{linked_buffer}
use Rattle.machine_buffers.specs.Groups.{Begins}
use Rattle.machine_buffers.specs.Lanes.{IsLinkedLane, Lane, buffer_lane, first_row}
use Rattle.machine_buffers.specs.Lanes.{next_row_behind}
use Rattle.machine_buffers.specs.Reclaiming.{HasLaneWords, LaneWordsStay, LinksLeadAsBefore}
use Rattle.machine_buffers.specs.Reclaiming.{NoneIsLinkedOutOfUse, RowsStandUntilRetired, TakesLaneApart}
use Rattle.machine_buffers.specs.Reclaiming.{WalkableBuffersHaveLaneWords, WholeLanesStayLinked}
use Rattle.machine_buffers.specs.Walks.{IsWalkable, LinkedRowsHaveLanes, RefillsLanes}
use Rattle.machine_readers.specs.Buffers.{rows}
use Rattle.map_model.proofs.Histories.{look-put-else}
use Rattle.map_model.specs.Map.{Map, key_of, look, put}
use Rattle.word_layout.specs.declared.headers.HeaderWord.{HeaderWord}
use Rattle.word_layout.specs.declared.headers.HeaderWord.TheVariants as header

-- ---- a buffer as a row is linked into it, or its group begun ----

-- a row that is linked leaves the buffer walkable
linked_walkable : (o : Opening) (t : Execution) (b : ℕ) (d : Action) (g : ℕ) → Valid o t →
    Allowed o t b d → LinksRowInto g d → IsWalkable o g (event b d ∷ t)
linked_walkable o t b d g valid may x =
    subst (λ (y : Action). IsWalkable o g (event b y ∷ t)) (sym x.is)
    (walkable_here o t b g x.lane x.place x.change x.before x.next valid
    (may_as o t b d (LinkRow g x.lane x.place x.change x.before x.next) x.is may)
    (buffers_hold o t valid))

-- so does the beginning of its group
new_walkable : (o : Opening) (t : Execution) (b : ℕ) (d : Action) (g : ℕ) → Allowed o t b d →
    Begins g d → IsWalkable o g (event b d ∷ t)
new_walkable o t b d g may z =
    subst (λ (y : Action). IsWalkable o g (event b y ∷ t)) (sym z.3)
    (begun_walkable o t b g z.0 z.1 z.2 (may_as o t b d (NewGroup g z.0 z.1 z.2) z.3 may))

no_first : (g : ℕ) (d : Action) → (LinksRowInto g d → ⊥) → (which : HeaderWord) → LinksFirst g which d → ⊥
no_first g d none which x = none (record {
  lane = x.lane;
  place = x.place;
  change = x.change;
  before = 0;
  next = x.next;
  is = x.is;
})

-- ---- the words of lanes ----

pub lane_words : WalkableBuffersHaveLaneWords
lane_words o g t w = record { lanes_word = w.lanes_word; cut_words = w.cut_words; heads = w.heads }

words_on : (o : Opening) (t : Execution) (b : ℕ) (d : Action) (g : ℕ) → Valid o t →
    Allowed o t b d → (RefillsLanes g d → ⊥) → HasLaneWords o g t →
    HasLaneWords o g (event b d ∷ t)
words_on o t b d g valid may unfilled w = ⊎_elim
    (λ (z : Begins g d). lane_words o g (event b d ∷ t) (new_walkable o t b d g may z))
    (λ (never : Begins g d → ⊥). ⊎_elim
    (λ (x : LinksRowInto g d). lane_words o g (event b d ∷ t) (linked_walkable o t b d g valid may x))
    (λ (none : LinksRowInto g d → ⊥).
    words_kept o t b d g (rows_same t b d g never none) never (no_first g d none) unfilled w)
    (links_or_not g d))
    (begins_or_not g d)

pub words_stay : LaneWordsStay
words_stay o g [] t valid unfilled w = w
words_stay o g (x ∷ n) t valid unfilled w =
    words_on o (n ++ t) x.by x.action g valid.1 valid.0 unfilled.0
    (words_stay o g n t valid.1 unfilled.1 w)

-- ---- one lane ----

module _ (o : Opening) (t : Execution) (b : ℕ) (d : Action) (g l : ℕ) (valid : Valid o t)
    (may : Allowed o t b d) (hand : IsHand o b) (never : Begins g d → ⊥)
    (whole : TakesLaneApart o g l d t → ⊥) (lt : l < lanes o g t)
    (old : IsLinkedLane o (buffer_lane o g l t) t) where
  abbrev T : Execution
  T = event b d ∷ t

  valid_now : Valid o T
  valid_now = (may, valid, hand)

  same : HasSameLanes o g t T
  same = begun_on o t b d g never

  lane_now : buffer_lane o g l T ≡ buffer_lane o g l t
  lane_now = lane_same o g t T same l

  -- a row was linked into the buffer
  lane_linked : LinksRowInto g d → IsLinkedLane o (buffer_lane o g l t) T
  lane_linked x = subst (λ (y : Lane). IsLinkedLane o y T) lane_now
      (linked_buffer o T valid_now g l (linked_walkable o t b d g valid may x)
      (subst (λ (y : ℕ). l < y) (sym (same header.Lanes)) lt))

  -- none was
  module _ (none : LinksRowInto g d → ⊥) where
    rows_now : rows g T ≡ rows g t
    rows_now = rows_same t b d g never none

    lane_kept : IsLinkedLane o (buffer_lane o g l t) T
    lane_kept = record {
      head = lane_word_stays o t b d g (header.Head l) tt (λ z. ⊎_elim
          (λ (x : LinksFirst g (header.Head l) d). no_first g d none (header.Head l) x)
          (λ (x : (value : ℕ) × (d ≡ StoreHeader g (header.Head l) value)). whole (inr x)) z)
          ∙ (old.head ∙ ap (first_row (buffer_lane o g l t)) (sym rows_now));
      links = λ k q e is.
          (buffers_hold o T valid_now).links g l k q e
          (has_same o g l k t T same (lane_of o g l k t lt is))
          ∙ ap (λ (y : Lane). next_row_behind y k (rows g T)) lane_now;
      standing = λ k q e is.
          let there = old.standing k q (ap (λ (m : Map). look m k) (sym rows_now) ∙ e) is in
          ⊎_elim (λ (z : role o q T ≡ InBuffer g k). z)
          (λ (z : Retires q d).
          absurd (whole (inl (k, q, z.0, z.1, there, lane_of o g l k t lt is))))
          (row_on o t b d g k q may there);
    }

  lane_on : IsLinkedLane o (buffer_lane o g l t) T
  lane_on = ⊎_elim (λ (x : LinksRowInto g d). lane_linked x) (λ (none : LinksRowInto g d → ⊥). lane_kept none)
      (links_or_not g d)

pub lane_stays : WholeLanesStayLinked
lane_stays o g l [] t valid never whole lt old = old
lane_stays o g l (x ∷ n) t valid never whole lt old =
    let m : Execution = n ++ t in
    let same : HasSameLanes o g t m = λ which. until_begun o g which n t never.1 in
    let before = lane_stays o g l n t valid.1 never.1 whole.1 lt old in
    subst (λ (y : Lane). IsLinkedLane o y (event x.by x.action ∷ m)) (lane_same o g t m same l)
    (lane_on o m x.by x.action g l valid.1 valid.0 valid.2 never.0 whole.0
    (subst (λ (y : ℕ). l < y) (sym (same header.Lanes)) lt)
    (subst (λ (y : Lane). IsLinkedLane o y m) (sym (lane_same o g t m same l)) before))

-- ---- rows ----

pub row_stands : RowsStandUntilRetired
row_stands o g k q [] t valid never e = e
row_stands o g k q (x ∷ n) t valid never e = ⊎_elim
    (λ (z : role o q (event x.by x.action ∷ (n ++ t)) ≡ InBuffer g k). z)
    (λ (z : Retires q x.action). absurd (never.0 z.0 z.1))
    (row_on o (n ++ t) x.by x.action g k q valid.0 (row_stands o g k q n t valid.1 never.1 e))

pub none_linked : NoneIsLinkedOutOfUse
none_linked o g [] t valid never out = (refl, out)
none_linked o g (x ∷ n) t valid never out =
    let m : Execution = n ++ t in
    let old = none_linked o g n t valid.1 never.1 out in (
      rows_same m x.by x.action g never.0 (in_use o m x.by x.action g valid.0 old.1) ∙ old.0,
      out_on o m x.by x.action g valid.1 valid.0 old.1 never.0,
    )

pub as_before : LinksLeadAsBefore
as_before o g n t valid never w out = record {
  heads = λ l lt unfilled.
      (words_stay o g n t valid unfilled (lane_words o g t w)).heads l
      (subst (λ (y : ℕ). l < y) (sym (same header.Lanes)) lt)
      ∙ (ap (λ (y : Lane). first_row y (rows g m)) (lane_same o g t m same l)
      ∙ ap (first_row (buffer_lane o g l t)) rows_kept);
  standing = λ k q e stays. row_stands o g k q n t valid stays (w.standing k q e);
  links = λ l k q e has stays.
      (buffers_hold o m valid).links g l k q
      (row_stands o g k q n t valid stays (w.standing k q e)) (has_same o g l k t m same has)
      ∙ (ap (λ (y : Lane). next_row_behind y k (rows g m)) (lane_same o g t m same l)
      ∙ ap (next_row_behind (buffer_lane o g l t) k) rows_kept);
}
  where
    m : Execution
    m = n ++ t

    same : HasSameLanes o g t m
    same which = until_begun o g which n t never

    rows_kept : rows g m ≡ rows g t
    rows_kept = (none_linked o g n t valid never out).0

-- ---- lanes of rows ----

-- the key of the row that is linked is in its lane, and those of the others are where they were
linked_lane : (o : Opening) (t : Execution) (b : ℕ) (d : Action) (g k q : ℕ) → Allowed o t b d →
    (look (rows g t) k ≡ Some q → HasSomeLane o g k t) → (y : LinksRowInto g d) →
    look (rows g (event b d ∷ t)) k ≡ Some q → HasSomeLane o g k t
linked_lane o t b d g k q may old y e =
    let key : ℕ = key_of y.change in
    let now : rows g (event b d ∷ t) ≡ put (rows g t) key y.place =
    ap (λ (z : Action). rows g (event b z ∷ t)) y.is
    ∙ choice-same g g (put (rows g t) key y.place) (rows g t) refl in
    dite (ℕ_discrete k key)
    (λ (z : k ≡ key).
    let m = may_as o t b d (LinkRow g y.lane y.place y.change y.before y.next) y.is may in
    (y.lane, subst (λ (j : ℕ). HasLane o g y.lane j t) (sym z) m.in_lane))
    (λ (n : k ≢ key).
    old (sym (look-put-else (rows g t) key y.place k n)
    ∙ (ap (λ (m : Map). look m k) (sym now) ∙ e)))

row_lane : (o : Opening) (t : Execution) (b : ℕ) (d : Action) (g k q : ℕ) → Allowed o t b d →
    (look (rows g t) k ≡ Some q → HasSomeLane o g k t) →
    look (rows g (event b d ∷ t)) k ≡ Some q → HasSomeLane o g k (event b d ∷ t)
row_lane o t b d g k q may old e = ⊎_elim
    (λ (z : Begins g d). none_in_empty k q (ap (λ (m : Map). look m k)
    (sym (ap (λ (y : Action). rows g (event b y ∷ t)) z.3 ∙ choice-same g g [] (rows g t) refl)) ∙ e))
    (λ (never : Begins g d → ⊥). some_same o g k t (event b d ∷ t) (begun_on o t b d g never)
    (⊎_elim (λ (y : LinksRowInto g d). linked_lane o t b d g k q may old y e)
    (λ (none : LinksRowInto g d → ⊥).
    old (ap (λ (m : Map). look m k) (sym (rows_same t b d g never none)) ∙ e))
    (links_or_not g d)))
    (begins_or_not g d)

pub linked_rows_have_lanes : LinkedRowsHaveLanes
linked_rows_have_lanes o [] valid g k q e = none_in_empty k q e
linked_rows_have_lanes o (x ∷ t) valid g k q e =
    row_lane o t x.by x.action g k q valid.0 (linked_rows_have_lanes o t valid.1 g k q) e
