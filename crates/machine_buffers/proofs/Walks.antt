-- The laws of walks.
use Rattle.std.proofs.Common.{◌≡◌, ◌≢◌, ℕ, zero, suc, ◌<◌, inl, inr, ⊎_elim}
use Rattle.std.proofs.Common.{Some, true, false, [], ◌∷◌, ◌++◌, refl, sym, ap, ◌∙◌, subst}
use mathlib.Core.Logic.{dite}
use native.Mathlib.Decide.{ℕ_discrete}
use Rattle.index_machine.proofs.Executions.{choice-other, choice-same, valid_before}
use Rattle.index_machine.specs.Conditions.{Allowed, Valid}
use Rattle.index_machine.specs.declared.events.Action.{Action}
use Rattle.index_machine.specs.declared.events.Action.TheVariants.{LinkRow, NewGroup}
use Rattle.index_machine.specs.Execution.{Execution, event}
use Rattle.index_machine.specs.KeyRanges.{group_of, predecessor, successor}
use Rattle.index_machine.specs.Lanes.{HasLane, lanes}
use Rattle.index_machine.specs.Reaching.{stands_in}
use Rattle.index_machine.specs.RecordConditions.{IsLinkInto}
use Rattle.index_machine.specs.Represents.{has_stale_phase}
use Rattle.index_machine.specs.Rows.{InBuffer, role}
use Rattle.index_machine.specs.Sections.{IsCaller, StaysInside}
use Rattle.index_machine.specs.Words.{link_behind, word}
use Rattle.index_machine.specs.declared.opening.Opening.{Opening}
use Rattle.machine_buffers.proofs.BegunLanes.{HasSameLanes, has_same, lane_of, lane_same, lanes_while}
use Rattle.machine_buffers.proofs.BegunLanes.{range_of, rows_have_lanes}
use Rattle.machine_buffers.proofs.LaneWalks.{into_lane, lane_decides, lane_no_return, lane_rises}
use Rattle.machine_buffers.proofs.LinkingRows.{all_listed}
use Rattle.machine_buffers.proofs.Phases.{true_or_out, true_while}
use Rattle.machine_buffers.proofs.Walkable.{IsEmpty, buffers_hold, walk_on}
use Rattle.machine_buffers.specs.Groups.{IsOfAKey, Begins, IsOutOfUse}
use Rattle.machine_buffers.specs.Lanes.{IsInRange, IsLaneLink, IsLaneLinkBefore, IsLinkedLane, Lane}
use Rattle.machine_buffers.specs.Lanes.{buffer_lane, lane_link}
use Rattle.machine_buffers.specs.Phases.{PhasesBeforeAreTrue, PhasesOfKeysAreTrue, TruePhasesStay}
use Rattle.machine_buffers.specs.Walks.{BuffersBeforeAreWalkable, BuffersOfKeysAreWalkable}
use Rattle.machine_buffers.specs.Walks.{Decides, IsLinkBefore, IsWalkable, KeysOfRowsRise}
use Rattle.machine_buffers.specs.Walks.{LeftLinksDoNotComeBack, LinkedRowsStay}
use Rattle.machine_buffers.specs.Walks.{LinksBeforeAKeyDecide, LinksBeforeAKeyStay}
use Rattle.machine_buffers.specs.Walks.{LinksLeadIntoTheBuffer, LinksLeadToTheNextRow, LinksRise}
use Rattle.machine_buffers.specs.Walks.{BuffersAreWalkableOrOutOfUse, LinkedRowsStayUntilBegun}
use Rattle.machine_buffers.specs.Walks.{OldBuffersAreWalkable, TakesApart, WalkableBuffersAreLinked}
use Rattle.machine_buffers.specs.Walks.{WalkableBuffersStay, WholeBuffersStayWalkable}
use Rattle.machine_readers.specs.Buffers.{rows}
use Rattle.map_model.proofs.Histories.{look-put-else}
use Rattle.map_model.specs.Map.{Map, key_of, look, put}
use Rattle.machine_readers.proofs.ReadSections.{place_on, stands_in_on}
use Rattle.machine_readers.proofs.StandingCallers.{groups_before_are_opened}
use Rattle.word_layout.specs.declared.headers.HeaderWord.TheVariants as header

-- ---- which buffers ----

answers_used : (o : Opening) (t : Execution) (g : ℕ) → IsOfAKey o g t → IsOutOfUse o g t → ⊥
answers_used o t g used out = ⊎_elim
    (λ (z : (k : ℕ) × (group_of o k t ≡ g)). out.unowned z.0 z.1)
    (λ (z : (k : ℕ) × (successor k t ≡ Some g)). out.unawaited z.0 z.1) used

before_used : (o : Opening) (t : Execution) (c g k : ℕ) → Valid o t → IsCaller o c →
    stands_in c g t ≡ true → predecessor o k t ≡ Some g → IsOutOfUse o g t → ⊥
before_used o t c g k valid is s e out =
    let m = groups_before_are_opened o t valid k g e in
    (out.settled m.0 m.1 g m.1).empty c is s

pub next_rows : LinksLeadToTheNextRow
next_rows o t valid = (buffers_hold o t valid).links

pub rise : KeysOfRowsRise
rise o t valid g = (buffers_hold o t valid).rising g

pub of_keys : BuffersOfKeysAreWalkable
of_keys o t valid g used = ⊎_elim (λ (w : IsWalkable o g t). w)
    (λ (out : IsOutOfUse o g t). absurd (answers_used o t g used out))
    ((buffers_hold o t valid).walkable g)

pub before : BuffersBeforeAreWalkable
before o t valid c g k is s e = ⊎_elim (λ (w : IsWalkable o g t). w)
    (λ (out : IsOutOfUse o g t). absurd (before_used o t c g k valid is s e out))
    ((buffers_hold o t valid).walkable g)

pub of_keeper : OldBuffersAreWalkable
of_keeper o t valid g k e = ⊎_elim (λ (w : IsWalkable o g t). inl w)
    (λ (out : IsOutOfUse o g t).
    let m = groups_before_are_opened o t valid k g e in
    inr (m.0, m.1, out.settled m.0 m.1))
    ((buffers_hold o t valid).walkable g)

pub walkable_while : WalkableBuffersStay
walkable_while o c g is [] t valid stay s w = w
walkable_while o c g is (x ∷ n) t valid stay s w = ⊎_elim
    (λ (z : IsWalkable o g (event x.by x.action ∷ (n ++ t))). z)
    (λ (z : IsOutOfUse o g (event x.by x.action ∷ (n ++ t)) × IsEmpty o g (n ++ t)
    × TakesApart o g x.action (n ++ t)).
    absurd (z.1 c is (stands_in_on c g n t stay.1 s)))
    (walk_on o (n ++ t) x.by x.action valid.1 valid.0 (buffers_hold o (n ++ t) valid.1) g
    (walkable_while o c g is n t valid.1 stay.1 s w))

pub walkable_until : WholeBuffersStayWalkable
walkable_until o g [] t valid whole w = w
walkable_until o g (x ∷ n) t valid whole w = ⊎_elim
    (λ (z : IsWalkable o g (event x.by x.action ∷ (n ++ t))). z)
    (λ (z : IsOutOfUse o g (event x.by x.action ∷ (n ++ t)) × IsEmpty o g (n ++ t)
    × TakesApart o g x.action (n ++ t)). absurd (whole.0 z.2))
    (walk_on o (n ++ t) x.by x.action valid.1 valid.0 (buffers_hold o (n ++ t) valid.1) g
    (walkable_until o g n t valid.1 whole.1 w))

pub walkable_or_out : BuffersAreWalkableOrOutOfUse
walkable_or_out o t valid g = (buffers_hold o t valid).walkable g

pub true_of_keys : PhasesOfKeysAreTrue
true_of_keys o t valid g used = ⊎_elim (λ (e : has_stale_phase g t ≡ false). e)
    (λ (out : IsOutOfUse o g t). absurd (answers_used o t g used out)) (true_or_out o t valid g)

pub true_before : PhasesBeforeAreTrue
true_before o t valid c g k is s e = ⊎_elim (λ (z : has_stale_phase g t ≡ false). z)
    (λ (out : IsOutOfUse o g t). absurd (before_used o t c g k valid is s e out))
    (true_or_out o t valid g)

pub phases_while : TruePhasesStay
phases_while o c g is n t valid stay s e = true_while o c g is n t valid stay s e

-- ---- what links say ----

-- each lane of a walkable buffer is linked
pub linked_buffer : WalkableBuffersAreLinked
linked_buffer o t valid g l w lt = record {
  head = w.heads l lt;
  links = λ k q e is. (buffers_hold o t valid).links g l k q e (lane_of o g l k t lt is);
  standing = λ k q e is. w.standing k q e;
}

link_same : (o : Opening) (g l : ℕ) (t : Execution) (q : ℕ) →
    lane_link (buffer_lane o g l t) q ≡ link_behind g l q
link_same o g l t zero = refl
link_same o g l t (suc n) = refl

in_lane : (o : Opening) (g l q : ℕ) (t : Execution) → IsLinkInto o g l q t →
    IsLaneLink o (buffer_lane o g l t) q t
in_lane o g l q t into = ⊎_elim (λ (z : q ≡ 0). inl z)
    (λ (z : (j : ℕ) × (role o q t ≡ InBuffer g j) × HasLane o g l j t).
    inr (z.0, z.1, range_of o g l z.0 t z.2)) into

pub into_buffer : LinksLeadIntoTheBuffer
into_buffer o t valid g l q w lt into =
    subst (λ (y : ℕ). IsLinkInto o g l y t) (ap (word o t) (link_same o g l t q)) (⊎_elim
    (λ (z : word o t (lane_link (buffer_lane o g l t) q) ≡ 0). inl z)
    (λ (z : (j : ℕ) × (role o (word o t (lane_link (buffer_lane o g l t) q)) t ≡ InBuffer g j)
    × IsInRange (buffer_lane o g l t) j). inr (z.0, z.1, lane_of o g l z.0 t lt z.2))
    (into_lane o (buffer_lane o g l t) q t valid (linked_buffer o t valid g l w lt)
    (in_lane o g l q t into)))

pub decide : LinksBeforeAKeyDecide
decide o t valid g l k q w has stands =
    let lane : Lane = buffer_lane o g l t in
    let d = lane_decides o lane k q t valid (linked_buffer o t valid g l w has.is_lane)
    (range_of o g l k t has)
    (⊎_elim (λ (z : q ≡ 0). inl z)
    (λ (z : (j : ℕ) × (role o q t ≡ InBuffer g j) × HasLane o g l j t × (j < k)).
    inr (z.0, z.1, range_of o g l z.0 t z.2, z.3)) stands) in
    subst (λ (z : ℕ). Decides o g l k z t) (ap (word o t) (link_same o g l t q)) (record {
      none = d.none;
      greater = d.greater;
      found = d.found;
      smaller = λ j e lt. before_lane (word o t (lane_link lane q)) (d.smaller j e lt);
    })
  where
    before_lane : (p : ℕ) → IsLaneLinkBefore o (buffer_lane o g l t) k p t → IsLinkBefore o g l k p t
    before_lane p is = ⊎_elim (λ (z : p ≡ 0). inl z)
        (λ (z : (j : ℕ) × (role o p t ≡ InBuffer g j) × IsInRange (buffer_lane o g l t) j × (j < k)).
        inr (z.0, z.1, lane_of o g l z.0 t has.is_lane z.2, z.3)) is

pub rises : LinksRise
rises o t valid g p q i j w here leads there =
    let has = rows_have_lanes o t valid g i p here in
    lane_rises o (buffer_lane o g has.0 t) p i j t valid
    (linked_buffer o t valid g has.0 w has.1.is_lane) here (range_of o g has.0 i t has.1)
    (ap (λ (y : ℕ). role o y t) leads ∙ there)

-- ---- what stays ----

-- a row that was linked is no other one's until the group is begun anew
row_listed_on : (o : Opening) (t : Execution) (b : ℕ) (d : Action) (g k q : ℕ) → Valid o t →
    Allowed o t b d → (Begins g d → ⊥) → look (rows g t) k ≡ Some q →
    look (rows g (event b d ∷ t)) k ≡ Some q
row_listed_on o t b (LinkRow h lane p c before next) g k q valid may never e = dite (ℕ_discrete h g)
    (λ (z : h ≡ g).
    let there = (in_use h may).standing k q (ap (λ (y : ℕ). look (rows y t) k) z ∙ e) in
    let other : k ≢ key_of c =
    λ s. may.alone q (there ∙ ap (λ (y : ℕ). InBuffer h y) s) in
    ap (λ (m : Map). look m k) (choice-same h g (put (rows g t) (key_of c) p) (rows g t) z)
    ∙ (look-put-else (rows g t) (key_of c) p k other ∙ e))
    (λ (n : h ≢ g).
    ap (λ (m : Map). look m k) (choice-other h g (put (rows g t) (key_of c) p) (rows g t) n) ∙ e)
  where
    in_use : (i : ℕ) → Allowed o t b (LinkRow i lane p c before next) → IsWalkable o i t
    in_use i m = ⊎_elim (λ (w : IsWalkable o i t). w)
        (λ (out : IsOutOfUse o i t). absurd (⊎_elim (λ z. out.unowned (key_of c) z)
        (λ z. out.unawaited (key_of c) z.2) m.belongs))
        ((buffers_hold o t valid).walkable i)
row_listed_on o t b (NewGroup h low high f) g k q valid may never e =
    ap (λ (m : Map). look m k)
    (choice-other h g [] (rows g t) (λ z. never (low, high, f, ap (λ (y : ℕ). NewGroup y low high f) z)))
    ∙ e
row_listed_on o t b d g k q valid may never e = e

pub rows_until : LinkedRowsStayUntilBegun
rows_until o g k q [] t valid none e = e
rows_until o g k q (x ∷ n) t valid none e =
    row_listed_on o (n ++ t) x.by x.action g k q valid.1 valid.0 none.0
    (rows_until o g k q n t valid.1 none.1 e)

-- the rows of a buffer stay among those linked into it while a caller stands there
pub rows_stay : LinkedRowsStay
rows_stay o c g k q is n t valid stay s w e =
    let here = w.standing k q e in
    all_listed o (n ++ t) valid g k q (place_on o c g is q k n t valid stay s (inr here) ∙ here)

-- a buffer that is walkable later has its earlier lane linked, where a caller stands in the group
lane_later : (o : Opening) (c g l : ℕ) → IsCaller o c → (n t : Execution) → Valid o (n ++ t) →
    StaysInside c n → stands_in c g t ≡ true → IsWalkable o g (n ++ t) → l < lanes o g t →
    IsLinkedLane o (buffer_lane o g l t) (n ++ t)
lane_later o c g l is n t valid stay s w lt =
    let same : HasSameLanes o g t (n ++ t) = λ which. lanes_while o c g which is n t valid stay s in
    subst (λ (y : Lane). IsLinkedLane o y (n ++ t)) (lane_same o g t (n ++ t) same l)
    (linked_buffer o (n ++ t) valid g l w
    (subst (λ (y : ℕ). l < y) (sym (same header.Lanes)) lt))

pub no_return : LeftLinksDoNotComeBack
no_return o c g l q is later newer t valid stay after s w lt into e =
    let m : Execution = newer ++ t in
    let valid_m = valid_before o later m valid in
    let s_m = stands_in_on c g newer t stay s in
    let w_m = walkable_while o c g is newer t valid_m stay s w in
    let w_l = walkable_while o c g is later m valid after s_m w_m in
    let same_m : HasSameLanes o g t m = λ which. lanes_while o c g which is newer t valid_m stay s in
    let last = subst (λ (y : Lane). IsLinkedLane o y (later ++ m)) (lane_same o g t m same_m l)
    (lane_later o c g l is later m valid after s_m w_l
    (subst (λ (y : ℕ). l < y) (sym (same_m header.Lanes)) lt)) in
    let same = λ (u : Execution). ap (word o u) (link_same o g l t q) in
    sym (same m)
    ∙ (lane_no_return o (buffer_lane o g l t) c q is later newer t valid stay after s
    (linked_buffer o t (valid_before o newer t valid_m) g l w lt)
    (lane_later o c g l is newer t valid_m stay s w_m lt) last (in_lane o g l q t into)
    (same (later ++ m) ∙ (e ∙ sym (same t)))
    ∙ same t)

pub stay_before : LinksBeforeAKeyStay
stay_before o c g l k q is n t valid stay s stands = ⊎_elim (λ (z : q ≡ 0). inl z)
    (λ (z : (j : ℕ) × (role o q t ≡ InBuffer g j) × HasLane o g l j t × (j < k)).
    inr (
      z.0,
      place_on o c g is q z.0 n t valid stay s (inr z.1) ∙ z.1,
      has_same o g l z.0 t (n ++ t) (λ which. lanes_while o c g which is n t valid stay s) z.2,
      z.3,
    )) stands
