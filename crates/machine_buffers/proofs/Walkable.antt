-- Every buffer is walkable, or its group is out of use; and its links lead from row to row.
use Rattle.std.proofs.Common.{◌≡◌, ◌≢◌, ℕ, ◌<◌, ◌⊎◌, inl, inr, ⊎_elim, Some, [], ◌∷◌, cond}
use Rattle.std.proofs.Common.{refl, sym, ap, ◌∙◌, subst, Bool, true, false, arith}
use Rattle.std.specs.Prelude.{◌==◌}
use mathlib.Core.Logic.{dite}
use native.Mathlib.Decide.{ℕ_discrete}
use Rattle.index_machine.proofs.Executions.{choice-other, choice-same}
use Rattle.index_machine.proofs.OpeningRows.{opening_role-buffer}
use Rattle.index_machine.specs.Conditions.{Allowed, Valid}
use Rattle.index_machine.specs.Execution.{Execution, event}
use Rattle.index_machine.specs.Groups.{phase}
use Rattle.index_machine.specs.Lanes.{HasLane, begun_word, cut}
use Rattle.index_machine.specs.RebuildConditions.{IsLateHeader, IsSettled}
use Rattle.index_machine.specs.Reaching.{stands_in}
use Rattle.index_machine.specs.Sections.{IsCaller}
use Rattle.index_machine.specs.KeyRanges.{successor}
use Rattle.index_machine.specs.Permissions.{IsGone, IsReplaced}
use Rattle.index_machine.specs.Rows.{InArray, InBuffer, role, role_key}
use Rattle.index_machine.specs.Words.{word}
use Rattle.index_machine.specs.declared.events.Action.{Action}
use Rattle.index_machine.specs.declared.events.Action.TheVariants.{LinkRow, NewGroup, Retire}
use Rattle.index_machine.specs.declared.events.Action.TheVariants.{StoreHeader}
use Rattle.index_machine.specs.declared.opening.Opening.{Opening}
use Rattle.machine_barriers.proofs.Reaches.{may_as}
use Rattle.machine_buffers.proofs.BegunLanes.{HasSameLanes, begun_now, begun_on, has_same, lane_same}
use Rattle.machine_buffers.proofs.BegunLanes.{row_unbegun}
use Rattle.machine_buffers.proofs.LaneWords.{words_kept}
use Rattle.machine_buffers.proofs.LinkWords.{LinksBehind, LinksFirst, lane_word_stays}
use Rattle.machine_buffers.proofs.LinkWords.{link_stays, refills_or_not}
use Rattle.machine_buffers.proofs.LinkedLanes.{row_is}
use Rattle.machine_buffers.proofs.LinkingRows.{BuffersHold, links_here, places_here, row_place}
use Rattle.machine_buffers.proofs.LinkingRows.{walkable_here}
use Rattle.machine_buffers.proofs.NextRows.{no_rows, none_in_empty}
use Rattle.machine_buffers.proofs.OutOfUse.{begins_or_not, out_on, replaced_out}
use Rattle.machine_buffers.specs.Groups.{Begins, IsOutOfUse}
use Rattle.machine_buffers.specs.Lanes.{Lane, buffer_lane, first_row, lane_end, next_row_behind}
use Rattle.machine_buffers.specs.Reclaiming.{HasLaneWords}
use Rattle.machine_buffers.specs.Walks.{IsLaneWord, IsWalkable, LinksLeadOn, RefillsLanes, TakesApart}
use Rattle.machine_readers.proofs.Roles.{EndsRole, IsLinkOf, role_stays, row_back}
use Rattle.machine_readers.specs.Buffers.{rows}
use Rattle.map_model.proofs.Pairs.{rising-put}
use Rattle.map_model.specs.Map.{IsRising, Map, key_of, look, put}
use Rattle.map_model.specs.declared.entries.Change.{Change}
use Rattle.word_layout.specs.Headers.{most_lanes}
use Rattle.word_layout.specs.Words.{Header, PlaceWord}
use Rattle.word_layout.specs.declared.headers.HeaderWord.{HeaderWord}
use Rattle.word_layout.specs.declared.headers.HeaderWord.TheVariants as header
use Rattle.word_layout.specs.declared.phase.Phase.TheVariants.{Open}
use Rattle.word_layout.specs.declared.places.Part.TheVariants.{Link}

-- ---- roles ----

-- the action takes this row out of its buffer
abbrev pub Retires : ℕ → Action → Type 0
Retires q d = (n : ℕ) × (d ≡ Retire q n)

pub row_on : (o : Opening) (t : Execution) (b : ℕ) (d : Action) (g k q : ℕ) → Allowed o t b d →
    role o q t ≡ InBuffer g k → (role o q (event b d ∷ t) ≡ InBuffer g k) ⊎ Retires q d
row_on o t b d g k q may e = ⊎_elim
    (λ (z : role o q (event b d ∷ t) ≡ role o q t). inl (z ∙ e))
    (λ (z : EndsRole o t q d). ⊎_elim
    (λ (w : Retires q d). inr w)
    (λ (w : (h : ℕ) × (low : ℕ) × (high : ℕ) × (f : ℕ) × (j : ℕ) × (d ≡ NewGroup h low high f)
    × (role o q t ≡ InArray h j)). let bad : InBuffer g k ≡ InArray w.0 w.4 = sym e ∙ w.6 in cc) z)
    (role_stays o t b d q k may (ap role_key e))

-- ---- a group that is begun ----

pub begun_walkable : (o : Opening) (t : Execution) (b g low high f : ℕ) →
    Allowed o t b (NewGroup g low high f) →
    IsWalkable o g (event b (NewGroup g low high f) ∷ t)
begun_walkable o t b g low high f may = record {
  lanes_word = stays header.Lanes tt ∙ sym (now header.Lanes);
  cut_words = λ l lt. stays (header.Cut l) tt ∙ sym (now (header.Cut l));
  heads = λ l lt. stays (header.Head l) tt
      ∙ (may.new_lanes.empty l (few l (subst (λ (y : ℕ). l < y) (now header.Lanes) lt))
      ∙ sym (ap (first_row (buffer_lane o g l T)) empty
      ∙ no_rows (lane_end o g l T) (cut o g l T)));
  standing = λ k q e. none_in_empty k q (ap (λ (y : Map). look y k) (sym empty) ∙ e);
}
  where
    T : Execution
    T = event b (NewGroup g low high f) ∷ t

    now : (which : HeaderWord) → begun_word o g which T ≡ word o t (Header g which)
    now = begun_now o t b g low high f

    few : (l : ℕ) → l < word o t (Header g header.Lanes) → l < most_lanes
    few l lt = omega (arith, may.new_lanes.few)

    empty : rows g T ≡ []
    empty = choice-same g g [] (rows g t) refl

    stays : (which : HeaderWord) → IsLaneWord which →
        word o T (Header g which) ≡ word o t (Header g which)
    stays which is = lane_word_stays o t b (NewGroup g low high f) g which is (λ z. ⊎_elim
        (λ (x : LinksFirst g which (NewGroup g low high f)). let bad = x.is in cc)
        (λ (x : (value : ℕ) × (NewGroup g low high f ≡ StoreHeader g which value)).
        let bad = x.1 in cc) z)

-- ---- walkable buffers ----

-- no caller stands in the group
abbrev pub IsEmpty : Opening → ℕ → Execution → Type 0
IsEmpty o g t = (c : ℕ) → IsCaller o c → stands_in c g t ≡ true → ⊥

-- the buffer is walkable after the action, or this takes it apart; then its group is out of use, and was empty
abbrev pub StaysWalkable : Opening → Execution → ℕ → Action → ℕ → Type 0
StaysWalkable o t b d g =
    IsWalkable o g (event b d ∷ t)
    ⊎ (IsOutOfUse o g (event b d ∷ t) × IsEmpty o g t × TakesApart o g d t)

not_late : (which : HeaderWord) → IsLaneWord which → IsLateHeader which → ⊥
not_late header.Lanes is late = late
not_late (header.Head lane) is late = late
not_late (header.Cut lane) is late = late
not_late which is late = is

-- the buffer stays walkable where its rows are those that were there, and stay
walk_kept : (o : Opening) (t : Execution) (b : ℕ) (d : Action) (g : ℕ) → Valid o t →
    Allowed o t b d → rows g (event b d ∷ t) ≡ rows g t → IsWalkable o g t →
    (Begins g d → ⊥) → ((which : HeaderWord) → LinksFirst g which d → ⊥) →
    ((k q : ℕ) → role o q t ≡ InBuffer g k → role o q (event b d ∷ t) ≡ InBuffer g k) →
    StaysWalkable o t b d g
walk_kept o t b d g valid may same w never apart stay = ⊎_elim
    (λ (z : RefillsLanes g d). let r = refilled z in
    inr (out_on o t b d g valid may r.0 never, r.1, inr z))
    (λ (none : RefillsLanes g d → ⊥). inl (kept (words_kept o t b d g same never apart none (record {
      lanes_word = w.lanes_word;
      cut_words = w.cut_words;
      heads = w.heads;
    }))))
    (refills_or_not g d)
  where
    kept : HasLaneWords o g (event b d ∷ t) → IsWalkable o g (event b d ∷ t)
    kept words = record {
      lanes_word = words.lanes_word;
      cut_words = words.cut_words;
      heads = words.heads;
      standing = λ k q e. stay k q (w.standing k q (ap (λ (y : Map). look y k) (sym same) ∙ e));
    }

    refilled : RefillsLanes g d → IsOutOfUse o g t × IsEmpty o g t
    refilled x = let m = may_as o t b d (StoreHeader g x.0 x.1) x.2 may in ⊎_elim
        (λ (z : IsGone o g t × IsSettled o g t × ((k : ℕ) → successor k t ≢ Some g)). (
          record { unowned = m.unowned; unawaited = z.2; settled = z.1 },
          z.0.empty,
        ))
        (λ (z : (phase g t ≡ Open) × IsLateHeader x.0). absurd (not_late x.0 x.3 z.1)) m.stage

walk_link : (o : Opening) (t : Execution) (b h lane p : ℕ) (c : Change) (before next : ℕ) →
    Valid o t → Allowed o t b (LinkRow h lane p c before next) → BuffersHold o t → (g : ℕ) →
    IsWalkable o g t → StaysWalkable o t b (LinkRow h lane p c before next) g
walk_link o t b h lane p c before next valid may old g w = dite (ℕ_discrete h g)
    (λ (z : h ≡ g). inl (subst (λ (y : ℕ). IsWalkable o y T) z
    (walkable_here o t b h lane p c before next valid may old)))
    (λ (n : h ≢ g). walk_kept o t b d g valid may
    (choice-other h g (put (rows g t) (key_of c) p) (rows g t) n) w
    (λ z. let bad = z.3 in cc)
    (λ which x. n (linked x.is))
    (λ k q e. ⊎_elim (λ (z : role o q T ≡ InBuffer g k). z)
    (λ (z : Retires q d). let bad = z.1 in cc) (row_on o t b d g k q may e)))
  where
    d : Action
    d = LinkRow h lane p c before next

    T : Execution
    T = event b (LinkRow h lane p c before next) ∷ t

    linked : {l q u v : ℕ} {c' : Change} → LinkRow h lane p c before next ≡ LinkRow g l q c' u v →
        h ≡ g
    linked e = cc

walk_retire : (o : Opening) (t : Execution) (b q next : ℕ) → Valid o t →
    Allowed o t b (Retire q next) → (g : ℕ) → IsWalkable o g t →
    StaysWalkable o t b (Retire q next) g
walk_retire o t b q next valid may g w =
    let m = may.where_it_is in
    dite (ℕ_discrete m.0 g)
    (λ (z : m.0 ≡ g). let r = subst (λ (y : ℕ). IsReplaced o y t) z m.3 in
    inr (
      out_on o t b (Retire q next) g valid may (replaced_out o t g valid r)
          (λ s. let bad = s.3 in cc),
      (r.2 g r.1).empty,
      inl (m.1, q, next, refl, m.2 ∙ ap (λ (y : ℕ). InBuffer y m.1) z),
    ))
    (λ (n : m.0 ≢ g). walk_kept o t b (Retire q next) g valid may refl w
    (λ z. let bad = z.3 in cc) (λ which x. let bad = x.is in cc)
    (λ k p e. ⊎_elim (λ (z : role o p (event b (Retire q next) ∷ t) ≡ InBuffer g k). z)
    (λ (z : Retires p (Retire q next)).
    absurd (n (row_is (sym m.2 ∙ (ap (λ (y : ℕ). role o y t) (same z.1) ∙ e))).0))
    (row_on o t b (Retire q next) g k p may e)))
  where
    same : {p n : ℕ} → Retire q next ≡ Retire p n → q ≡ p
    same e = cc

walk_else : (o : Opening) (t : Execution) (b : ℕ) (d : Action) → Valid o t → Allowed o t b d →
    ((g : ℕ) → rows g (event b d ∷ t) ≡ rows g t) →
    ((g : ℕ) → Begins g d → ⊥) → ((g : ℕ) (which : HeaderWord) → LinksFirst g which d → ⊥) →
    ((q n : ℕ) → d ≡ Retire q n → ⊥) → (g : ℕ) → IsWalkable o g t →
    StaysWalkable o t b d g
walk_else o t b d valid may same never apart stays g w =
    walk_kept o t b d g valid may (same g) w (never g) (apart g)
    (λ k q e. ⊎_elim (λ (z : role o q (event b d ∷ t) ≡ InBuffer g k). z)
    (λ (z : Retires q d). absurd (stays q z.0 z.1)) (row_on o t b d g k q may e))

walk_new : (o : Opening) (t : Execution) (b h low high f : ℕ) → Valid o t →
    Allowed o t b (NewGroup h low high f) → (g : ℕ) → IsWalkable o g t →
    StaysWalkable o t b (NewGroup h low high f) g
walk_new o t b h low high f valid may g w = dite (ℕ_discrete h g)
    (λ (z : h ≡ g). inl (subst
    (λ (y : ℕ). IsWalkable o y (event b (NewGroup h low high f) ∷ t)) z
    (begun_walkable o t b h low high f may)))
    (λ (n : h ≢ g). walk_kept o t b (NewGroup h low high f) g valid may
    (choice-other h g [] (rows g t) n) w (λ z. n (begun z.3)) (λ which x. let bad = x.is in cc)
    (λ k q e. ⊎_elim
    (λ (z : role o q (event b (NewGroup h low high f) ∷ t) ≡ InBuffer g k). z)
    (λ (z : Retires q (NewGroup h low high f)). let bad = z.1 in cc)
    (row_on o t b (NewGroup h low high f) g k q may e)))
  where
    begun : {x y z : ℕ} → NewGroup h low high f ≡ NewGroup g x y z → h ≡ g
    begun e = cc

pub walk_on : (o : Opening) (t : Execution) (b : ℕ) (d : Action) → Valid o t →
    Allowed o t b d → BuffersHold o t → (g : ℕ) → IsWalkable o g t → StaysWalkable o t b d g
walk_on o t b (LinkRow h lane p c before next) valid may old g w =
    walk_link o t b h lane p c before next valid may old g w
walk_on o t b (Retire q next) valid may old g w = walk_retire o t b q next valid may g w
walk_on o t b (NewGroup h low high f) valid may old g w =
    walk_new o t b h low high f valid may g w
walk_on o t b d valid may old g w = walk_else o t b d valid may (λ g. refl)
    (λ g z. let bad = z.3 in cc) (λ g which x. let bad = x.is in cc) (λ q n e. let bad = e in cc) g w

walk_step : (o : Opening) (t : Execution) (b : ℕ) (d : Action) → Valid o t → Allowed o t b d →
    BuffersHold o t → (g : ℕ) →
    IsWalkable o g (event b d ∷ t) ⊎ IsOutOfUse o g (event b d ∷ t)
walk_step o t b d valid may old g = ⊎_elim
    (λ (w : IsWalkable o g t). ⊎_elim (λ (z : IsWalkable o g (event b d ∷ t)). inl z)
    (λ (z : IsOutOfUse o g (event b d ∷ t) × IsEmpty o g t × TakesApart o g d t). inr z.0)
    (walk_on o t b d valid may old g w))
    (λ (out : IsOutOfUse o g t). ⊎_elim
    (λ (z : Begins g d). inl (subst (λ (y : Action). IsWalkable o g (event b y ∷ t)) (sym z.3)
    (begun_walkable o t b g z.0 z.1 z.2 (may_as o t b d (NewGroup g z.0 z.1 z.2) z.3 may))))
    (λ (never : Begins g d → ⊥). inr (out_on o t b d g valid may out never))
    (begins_or_not g d)) (old.walkable g)

-- ---- links ----

links_new : (o : Opening) (t : Execution) (b h lane p : ℕ) (c : Change) (before next : ℕ) →
    Valid o t → Allowed o t b (LinkRow h lane p c before next) → BuffersHold o t →
    LinksLeadOn o (event b (LinkRow h lane p c before next) ∷ t)
links_new o t b h lane p c before next valid may old g l j q e has = dite (ℕ_discrete h g)
    (λ (s : h ≡ g). subst (λ (y : ℕ). role o q T ≡ InBuffer y j → HasLane o y l j T →
    word o T (PlaceWord q Link) ≡ next_row_behind (buffer_lane o y l T) j (rows y T)) s
    (links_here o t b h lane p c before next valid may old l j q) e has)
    (λ (n : h ≢ g). ⊎_elim
    (λ (z : role o q t ≡ InBuffer g j). elsewhere n z)
    (λ (z : IsLinkOf g q j d). absurd (n (linked z.is)))
    (row_back o t b d q g j e))
  where
    d : Action
    d = LinkRow h lane p c before next

    T : Execution
    T = event b (LinkRow h lane p c before next) ∷ t

    linked : {a i r u v : ℕ} {c' : Change} →
        LinkRow h lane p c before next ≡ LinkRow a i r c' u v → h ≡ a
    linked e = cc

    behind_is : {a i r u : ℕ} {c' : Change} →
        LinkRow h lane p c before next ≡ LinkRow a i r c' q u → before ≡ q
    behind_is e = cc

    elsewhere : h ≢ g → role o q t ≡ InBuffer g j →
        word o T (PlaceWord q Link) ≡ next_row_behind (buffer_lane o g l T) j (rows g T)
    elsewhere n z = ⊎_elim
        (λ (w : word o T (PlaceWord q Link) ≡ word o t (PlaceWord q Link)).
        w ∙ (old.links g l j q z (has_same o g l j T t (λ which. refl) has)
        ∙ ap (next_row_behind (buffer_lane o g l t) j)
        (sym (choice-other h g (put (rows g t) (key_of c) p) (rows g t) n))))
        (λ (w : LinksBehind q d). let is = behind_is w.is in ⊎_elim
        (λ (y : before ≡ 0). absurd (row_place o t g j q valid z (sym is ∙ y)))
        (λ (y : (i : ℕ) × (role o before t ≡ InBuffer h i) × HasLane o h lane i t).
        absurd (n (row_is (sym y.1 ∙ (ap (λ (x : ℕ). role o x t) is ∙ z))).0))
        may.behind)
        (link_stays o t b d q j may (ap role_key z))

links_else : (o : Opening) (t : Execution) (b : ℕ) (d : Action) → Allowed o t b d →
    BuffersHold o t →
    ((g j q : ℕ) → role o q t ≡ InBuffer g j → rows g (event b d ∷ t) ≡ rows g t) →
    ((h l p u v : ℕ) (c : Change) → d ≡ LinkRow h l p c u v → ⊥) → LinksLeadOn o (event b d ∷ t)
links_else o t b d may old same never g l j q e has = ⊎_elim
    (λ (z : role o q t ≡ InBuffer g j). ⊎_elim
    (λ (w : word o T (PlaceWord q Link) ≡ word o t (PlaceWord q Link)).
    w ∙ (old.links g l j q z (has_same o g l j T t (λ which. sym (begun z which)) has)
    ∙ sym (next_same z)))
    (λ (w : LinksBehind q d). absurd (never w.group w.lane w.place q w.next w.change w.is))
    (link_stays o t b d q j may (ap role_key z)))
    (λ (z : IsLinkOf g q j d). absurd (never g z.lane q z.before z.next z.change z.is))
    (row_back o t b d q g j e)
  where
    T : Execution
    T = event b d ∷ t

    begun : role o q t ≡ InBuffer g j → HasSameLanes o g t T
    begun z = begun_on o t b d g (row_unbegun o t b d g j q may z)

    next_same : role o q t ≡ InBuffer g j →
        next_row_behind (buffer_lane o g l T) j (rows g T)
        ≡ next_row_behind (buffer_lane o g l t) j (rows g t)
    next_same z =
        ap (λ (y : Lane). next_row_behind y j (rows g T)) (lane_same o g t T (begun z) l)
        ∙ ap (next_row_behind (buffer_lane o g l t) j) (same g j q z)

links_step : (o : Opening) (t : Execution) (b : ℕ) (d : Action) → Valid o t → Allowed o t b d →
    BuffersHold o t → LinksLeadOn o (event b d ∷ t)
links_step o t b (LinkRow h lane p c before next) valid may old =
    links_new o t b h lane p c before next valid may old
links_step o t b (NewGroup h low high f) valid may old =
    links_else o t b (NewGroup h low high f) may old
    (λ g j q e. choice-other h g [] (rows g t)
    (λ z. may.no_row q j (e ∙ ap (λ (y : ℕ). InBuffer y j) (sym z))))
    (λ h l p u v c e. let bad = e in cc)
links_step o t b d valid may old =
    links_else o t b d may old (λ g j q e. refl) (λ h l p u v c e. let bad = e in cc)

-- ---- keys and places ----

rising_if : (w : Bool) (m n : Map) → IsRising m → IsRising n → IsRising (cond w m n)
rising_if true m n r s = r
rising_if false m n r s = s

rising_step : (o : Opening) (t : Execution) (b : ℕ) (d : Action) → BuffersHold o t → (g : ℕ) →
    IsRising (rows g (event b d ∷ t))
rising_step o t b (LinkRow h lane p c before next) old g =
    rising_if (h == g) (put (rows g t) (key_of c) p) (rows g t)
    (rising-put (rows g t) (key_of c) p (old.rising g)) (old.rising g)
rising_step o t b (NewGroup h low high f) old g =
    rising_if (h == g) [] (rows g t) tt (old.rising g)
rising_step o t b d old g = old.rising g

places_step : (o : Opening) (t : Execution) (b : ℕ) (d : Action) → Valid o t → Allowed o t b d →
    BuffersHold o t → (g k q : ℕ) → look (rows g (event b d ∷ t)) k ≡ Some q → q ≢ 0
places_step o t b (LinkRow h lane p c before next) valid may old g k q e =
    places_here o t b h lane p c before next valid may old g k q e
places_step o t b (NewGroup h low high f) valid may old g k q e = dite (ℕ_discrete h g)
    (λ (z : h ≡ g). none_in_empty k q (ap (λ (y : Map). look y k)
    (sym (choice-same h g [] (rows g t) z)) ∙ e))
    (λ (n : h ≢ g). old.places g k q (ap (λ (y : Map). look y k)
    (sym (choice-other h g [] (rows g t) n)) ∙ e))
places_step o t b d valid may old g k q e = old.places g k q e

-- ---- all buffers ----

pub buffers_hold : (o : Opening) (t : Execution) → Valid o t → BuffersHold o t
buffers_hold o [] valid = record {
  places = λ g k q e. none_in_empty k q e;
  rising = λ g. tt;
  walkable = λ g. inl (record {
    lanes_word = refl;
    cut_words = λ l lt. refl;
    heads = λ l lt. sym (no_rows (lane_end o g l []) (cut o g l []));
    standing = λ k q e. none_in_empty k q e;
  });
  links = λ g l k q e has. absurd (opening_role-buffer o q g k e);
}
buffers_hold o (e ∷ t) valid = let old = buffers_hold o t valid.1 in record {
  places = places_step o t e.by e.action valid.1 valid.0 old;
  rising = rising_step o t e.by e.action old;
  walkable = walk_step o t e.by e.action valid.1 valid.0 old;
  links = links_step o t e.by e.action valid.1 valid.0 old;
}
