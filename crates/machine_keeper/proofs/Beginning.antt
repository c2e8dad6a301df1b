-- A keeper that can begin a group can still do so later.
use Rattle.std.proofs.Common.{◌≡◌, ◌≢◌, ℕ, ◌⊎◌, inl, inr, ⊎_elim, true, ◌∷◌, ◌++◌, refl, sym, ap, ◌∙◌}
use Rattle.std.proofs.Common.{subst, ◌+◌, ◌<◌, ◌≤◌, arith}
use Rattle.word_layout.specs.Headers.{most_lanes}
use Rattle.word_layout.specs.Words.{Header}
use Rattle.word_layout.specs.declared.headers.HeaderWord.{HeaderWord}
use Rattle.word_layout.specs.declared.headers.HeaderWord.TheVariants as header
use Rattle.word_layout.specs.declared.phase.Phase.TheVariants.{Opened}
use Rattle.index_machine.proofs.OfParts.{opened_in_part, rebuild_in_part}
use Rattle.index_machine.specs.Conditions.{Allowed, Valid}
use Rattle.index_machine.specs.Execution.{Execution, event}
use Rattle.index_machine.specs.Forms.{Redirect}
use Rattle.index_machine.specs.Groups.{phase}
use Rattle.index_machine.specs.Keepers.{IsGroupKeeper, IsPart, part_of}
use Rattle.index_machine.specs.KeyRanges.{group_of}
use Rattle.index_machine.specs.Permissions.{AreGone, IsBufferFor, IsClosedToInserts, IsGone}
use Rattle.index_machine.specs.Places.{IsInGroup, form}
use Rattle.index_machine.specs.Reaching.{reached, stands_in}
use Rattle.index_machine.specs.RebuildConditions.{IsSettled}
use Rattle.index_machine.specs.RecordConditions.{IsInArrayOf}
use Rattle.index_machine.specs.Rows.{InArray, InBuffer, role}
use Rattle.index_machine.specs.Sections.{IsCaller, IsHand}
use Rattle.index_machine.specs.Words.{limits, word}
use Rattle.index_machine.specs.declared.events.Action.{Action}
use Rattle.index_machine.specs.declared.events.Action.TheVariants.{LinkRow, StoreHeader, StoreRedirect}
use Rattle.index_machine.specs.declared.opening.Opening.{Opening}
use Rattle.machine_barriers.proofs.Gains.{reached_gain}
use Rattle.machine_barriers.proofs.OpenedGroups.{opened_groups_hold}
use Rattle.machine_barriers.proofs.Reaches.{loads_place, may_as}
use Rattle.machine_barriers.specs.Gains.{LoadsPlace}
use Rattle.machine_buffers.proofs.LinkWords.{LinksFirst, StoresWord, lane_word_stays}
use Rattle.machine_chain.specs.Keepers.{IsHeadWord, IsIdle}
use Rattle.machine_chain.specs.Walks.{IsAwaitedBy}
use Rattle.machine_keeper.proofs.GoneOver.{are_gone_on, gone_over, one, opened_was, settled_over}
use Rattle.machine_keeper.proofs.Opening.{closed_on, past_over}
use Rattle.machine_keeper.proofs.OtherPlaces.{IsOther, array_was, not_keeper_of, over, place_was, row_was}
use Rattle.machine_keeper.proofs.Others.{AreOthers, is_part, key_of_group, owner_part, phase_was, same}
use Rattle.machine_keeper.specs.Staying.{CanBeginStays, IsOfPastRebuild}
use Rattle.machine_places.proofs.FromOpening.{live_places}
use Rattle.machine_readers.proofs.CopiedPlaces.{one_group}
use Rattle.machine_readers.proofs.Redirects.{redirect_back}

-- a group row that is free: the group is gone for good, and nothing is left of what stood there
record IsFreeRow (o : Opening) (g : ℕ) (t : Execution) : Type 0 where
  gone : IsGone o g t
  settled : IsSettled o g t
  idle : IsIdle o (part_of o g) t
  past : IsOfPastRebuild o g t
  closed : IsClosedToInserts o g t
  no_row : (p k : ℕ) → role o p t ≢ InBuffer g k
  no_target : (a p y j : ℕ) → form o a t ≡ Redirect p y → role o p t ≢ InArray g j
  unreached : (c p j : ℕ) → IsCaller o c → reached c p t ≡ true → role o p t ≢ InArray g j
  replaced : AreGone o g t
  no_old_target : (a p y h k : ℕ) → form o a t ≡ Redirect p y → phase h t ≡ Opened g →
      IsInGroup o t h k p → ⊥
  heads : (lane : ℕ) → lane < most_lanes → word o t (Header g (header.Head lane)) ≡ 0

module _ {o : Opening} {hand part : ℕ} {newer t : Execution} (x : AreOthers o hand part newer t) where
  idle_over : IsIdle o part t → IsIdle o part (newer ++ t)
  idle_over idle k f key at =
      let owner : ℕ = group_of o k (newer ++ t) in
      let is = (same x).groups k key in
      let of : part_of o owner ≡ part = ap (part_of o) is ∙ owner_part x k key in
      idle k f key (ap (λ (i : ℕ). phase i t) (sym is) ∙ phase_was x owner (Opened f) of at)

-- while the part is idle nobody awaits a group there
idle_unawaited : (o : Opening) (t : Execution) (g : ℕ) → Valid o t → IsPart o (part_of o g) →
    IsIdle o (part_of o g) t → (c : ℕ) → IsAwaitedBy o c g t → ⊥
idle_unawaited o t g valid is_part idle c w =
    let under = w.5 in
    let owner : ℕ = group_of o under.0 t in
    let of : part_of o owner ≡ part_of o g =
    sym (opened_in_part o t valid owner w.0 under.1) ∙ rebuild_in_part o t valid g w.0 w.3
    in
    idle under.0 w.0 (key_of_group o t (part_of o g) owner under.0 valid is_part of refl) under.1

module _ {o : Opening} {hand b : ℕ} {d : Action} {t : Execution} (g : ℕ) (is_hand : IsHand o hand)
    (keeper : IsGroupKeeper o hand g) (x : IsOther o hand b d t) (m : IsFreeRow o g t) where
  abbrev T : Execution
  T = event b d ∷ t

  -- a redirect to this place was there, or leads into a group that answers for a key
  target_was : (a p y : ℕ) → form o a (event b d ∷ t) ≡ Redirect p y →
      ((z : ℕ) × (form o a t ≡ Redirect p z))
      ⊎ ((k : ℕ) × IsInGroup o t (group_of o k t) k p)
  target_was a p y to = ⊎_elim
      (λ (z : (v : ℕ) × (form o a t ≡ Redirect p v)). inl z)
      (λ (z : (h : ℕ) × (j : ℕ) × (d ≡ StoreRedirect h a j p)).
      inr (z.1, (may_as o t b d (StoreRedirect z.0 a z.1 p) z.2 x.valid.0).source))
      (redirect_back o t b d a p y to)

  no_target_on : (a p y j : ℕ) → form o a (event b d ∷ t) ≡ Redirect p y →
      role o p (event b d ∷ t) ≢ InArray g j
  no_target_on a p y j to is =
      let was = array_was x g j p keeper is in
      ⊎_elim (λ (z : (v : ℕ) × (form o a t ≡ Redirect p v)). m.no_target a p z.0 j z.1 was)
      (λ (z : (k : ℕ) × IsInGroup o t (group_of o k t) k p).
      m.gone.unowned z.0 (one_group o t (group_of o z.0 t) g z.0 j p z.1 (inl was)))
      (target_was a p y to)

  no_old_target_on : (a p y h k : ℕ) → form o a (event b d ∷ t) ≡ Redirect p y →
      phase h (event b d ∷ t) ≡ Opened g → IsInGroup o (event b d ∷ t) h k p → ⊥
  no_old_target_on a p y h k to at is =
      let before = opened_was (one is_hand keeper x) h g refl at in
      let parts = opened_in_part o t x.valid.1 h g before in
      let of_h : IsGroupKeeper o hand h = keeper ∙ ap (λ (i : ℕ). (limits o).callers + i) parts in
      let hold = opened_groups_hold o t x.valid.1 in
      let was = place_was x h k p of_h (λ c caller may. hold.closed c h caller may g before) is in
      ⊎_elim (λ (z : (v : ℕ) × (form o a t ≡ Redirect p v)). m.no_old_target a p z.0 h k z.1 before was)
      (λ (z : (j : ℕ) × IsInGroup o t (group_of o j t) j p).
      (m.replaced h before).unowned z.0 (one_group o t (group_of o z.0 t) h z.0 k p z.1 was))
      (target_was a p y to)

  unreached_on : (c p j : ℕ) → IsCaller o c → reached c p (event b d ∷ t) ≡ true →
      role o p (event b d ∷ t) ≢ InArray g j
  unreached_on c p j caller reaches is =
      let was = array_was x g j p keeper is in
      ⊎_elim
      (λ (z : reached c p t ≡ true). m.unreached c p j caller z was)
      (λ (z : (b ≡ c) × LoadsPlace p d). ⊎_elim
      (λ (w : (a : ℕ) × (y : ℕ) × IsInArrayOf o c a t × (form o a t ≡ Redirect p y)).
      m.no_target w.0 p w.1 j w.3 was)
      (λ (w : (h : ℕ) × (k : ℕ) × (stands_in c h t ≡ true) × (role o p t ≡ InBuffer h k)).
      let bad : InArray g j ≡ InBuffer w.0 w.1 = sym was ∙ w.3 in cc)
      (loads_place o c p d t caller (subst (λ (i : ℕ). Allowed o t i d) z.0 x.valid.0) z.1).1)
      (reached_gain c p b d t reaches).1

  free_row_on : IsFreeRow o g (event b d ∷ t)
  free_row_on =
      let w = one is_hand keeper x in
      let idle = idle_over w m.idle in
      record {
        gone = gone_over w g refl m.gone m.settled
            (idle_unawaited o (event b d ∷ t) g x.valid (is_part w) idle);
        settled = settled_over w g refl m.settled;
        idle = idle;
        past = past_over w g refl m.past;
        closed = closed_on is_hand keeper x g refl m.closed
            (λ c caller stands opens. m.gone.empty c caller stands) m.past;
        no_row = λ p k is. m.no_row p k (row_was x g k p m.closed is);
        no_target = no_target_on;
        unreached = unreached_on;
        replaced = are_gone_on is_hand keeper x g refl m.replaced;
        no_old_target = no_old_target_on;
        heads = λ lane few. lane_word_stays o t b d g (header.Head lane) tt (unlinked lane) ∙ m.heads lane few;
      }
    where
      unlinked : (lane : ℕ) → StoresWord g (header.Head lane) d → ⊥
      unlinked lane z = ⊎_elim
          (λ (l : LinksFirst g (header.Head lane) d).
          let link = may_as o t b d (LinkRow g l.lane l.place l.change 0 l.next) l.is x.valid.0 in
          m.closed b link.caller link.permission)
          (λ (v : (value : ℕ) × (d ≡ StoreHeader g (header.Head lane) value)).
          let store = may_as o t b d (StoreHeader g (header.Head lane) v.0) v.1 x.valid.0 in
          not_keeper_of x g g store.keeper keeper refl) z

pub can_begin : CanBeginStays
can_begin o hand g low high f newer t is_hand valid without can =
    let may = can.may in
    let x : AreOthers o hand (part_of o g) newer t =
    record { is_hand = is_hand; keeper = may.keeper; valid = valid; without = without }
    in
    let lanes = may.new_lanes in
    let first : IsFreeRow o g t = record {
      gone = may.gone;
      settled = may.settled;
      idle = λ k e key. may.idle k e key;
      past = can.past;
      closed = may.closed;
      no_row = may.no_row;
      no_target = may.no_target;
      unreached = may.unreached;
      replaced = may.replaced;
      no_old_target = may.no_old_target;
      heads = lanes.empty;
    } in
    let row = over o hand (IsFreeRow o g) (λ b d s y z. free_row_on g is_hand may.keeper y z)
    newer t valid without first
    in
    let kept = λ (which : HeaderWord) (not : IsHeadWord which → ⊥). (same x).header_words g which refl not in
    let many = kept header.Lanes (λ z. z) in
    let cuts = λ (i : ℕ). kept (header.Cut i) (λ z. z) in
    record {
      may = record {
        keeper = may.keeper;
        exists = may.exists;
        ordered = may.ordered;
        in_part = may.in_part;
        first_in_part = may.first_in_part;
        gone = row.gone;
        settled = row.settled;
        phase_word = kept header.Phase (λ z. z) ∙ may.phase_word;
        new_lanes = record {
          some = subst (λ (n : ℕ). 1 ≤ n) (sym many) lanes.some;
          few = subst (λ (n : ℕ). n ≤ most_lanes) (sym many) lanes.few;
          first = cuts 0 ∙ lanes.first;
          rising = λ i below.
              let was = lanes.rising i (subst (λ (n : ℕ). i + 1 < n) many below) in
              let here = cuts i in let there = cuts (i + 1) in omega arith;
          last = λ i below.
              let was = lanes.last i (subst (λ (n : ℕ). i < n) many below) in
              let here = cuts i in omega arith;
          absent = λ i from few. cuts i ∙ lanes.absent i (subst (λ (n : ℕ). n ≤ i) many from) few;
          empty = row.heads;
        };
        closed = row.closed;
        no_row = row.no_row;
        not_live = λ k p j live is. ⊎_elim
            (λ (z : role o p (newer ++ t) ≡ InArray (group_of o k (newer ++ t)) k).
            let two : InArray g j ≡ InArray (group_of o k (newer ++ t)) k = sym is ∙ z in
            let same_group : g ≡ group_of o k (newer ++ t) = cc in
            row.gone.unowned k (sym same_group))
            (λ (z : ((new : ℕ) × (value : ℕ)
            × (role o new (newer ++ t) ≡ InArray (group_of o k (newer ++ t)) k)
            × (form o new (newer ++ t) ≡ Redirect p value))
            ⊎ ((h : ℕ) × (role o p (newer ++ t) ≡ InBuffer h k) × IsBufferFor o k h (newer ++ t))). ⊎_elim
            (λ (w : (new : ℕ) × (value : ℕ)
            × (role o new (newer ++ t) ≡ InArray (group_of o k (newer ++ t)) k)
            × (form o new (newer ++ t) ≡ Redirect p value)). row.no_target w.0 p w.1 j w.3 is)
            (λ (w : (h : ℕ) × (role o p (newer ++ t) ≡ InBuffer h k) × IsBufferFor o k h (newer ++ t)).
            let bad : InArray g j ≡ InBuffer w.0 k = sym is ∙ w.1 in cc) z)
            (live_places o (newer ++ t) valid k p live);
        no_target = row.no_target;
        unreached = row.unreached;
        idle = λ k e key. row.idle k e key;
        replaced = row.replaced;
        no_old_target = row.no_old_target;
      };
      past = row.past;
    }
