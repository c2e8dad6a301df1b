-- What the links of a lane say.
use Rattle.std.proofs.Common.{◌≡◌, ◌≢◌, ℕ, zero, suc, ◌+◌, ◌<◌, ◌≤◌, inl, inr, ⊎_elim}
use Rattle.std.proofs.Common.{Some, None, true, ◌++◌, refl, sym, ap, ◌∙◌, subst, arith}
use Rattle.index_machine.proofs.Executions.{valid_before}
use Rattle.index_machine.specs.Conditions.{Valid}
use Rattle.index_machine.specs.Execution.{Execution}
use Rattle.index_machine.specs.Reaching.{stands_in}
use Rattle.index_machine.specs.Rows.{InBuffer, role}
use Rattle.index_machine.specs.Sections.{IsCaller, StaysInside}
use Rattle.index_machine.specs.Words.{word}
use Rattle.index_machine.specs.declared.opening.Opening.{Opening}
use Rattle.machine_buffers.proofs.LinkedLanes.{leads_from, linked_kept, linked_on, row_is}
use Rattle.machine_buffers.proofs.LinkingRows.{all_listed, row_place}
use Rattle.machine_buffers.proofs.NextRows.{HasNoneFrom, IsFirstBefore, none_unless, row_or_none}
use Rattle.machine_buffers.proofs.Walkable.{buffers_hold}
use Rattle.machine_buffers.specs.Lanes.{IsBefore, IsInRange, IsLinkedLane, LaneDecides, Lane}
use Rattle.machine_buffers.specs.Lanes.{LaneLinksDecide, LaneLinksLeadIntoTheLane, LaneLinksRise}
use Rattle.machine_buffers.specs.Lanes.{LeftLaneLinksDoNotComeBack, LinkedRowsTakeTheirPlace}
use Rattle.machine_buffers.specs.Lanes.{OtherLanesStayLinked, lane_link, link_from}
use Rattle.index_machine.proofs.Options.{some_is}
use Rattle.machine_readers.proofs.ReadSections.{place_on, stands_in_on}
use Rattle.machine_readers.specs.Buffers.{rows}
use Rattle.map_model.specs.Map.{IsRising, Map, look}
use Rattle.word_layout.specs.Words.{PlaceWord}
use Rattle.word_layout.specs.declared.places.Part.TheVariants.{Link}

pub rising_at : (o : Opening) (g : ℕ) (t : Execution) → Valid o t → IsRising (rows g t)
rising_at o g t valid = (buffers_hold o t valid).rising g

pub takes_place : LinkedRowsTakeTheirPlace
takes_place o lane k p before t later valid is links =
    linked_on o lane k p before t later (rising_at o lane.group t valid)
    (all_listed o t valid) (λ j q e. row_place o t lane.group j q valid e) is links

pub others_stay : OtherLanesStayLinked
others_stay o lane t later valid is keeps =
    linked_kept o lane t later (rising_at o lane.group t valid) is keeps

pub into_lane : LaneLinksLeadIntoTheLane
into_lane o lane q t valid is into =
    let m : Map = rows lane.group t in
    let l = leads_from o lane q t is into in
    ⊎_elim
    (λ (z : HasNoneFrom m l.0 lane.end × (link_from lane.end l.0 m ≡ 0)). inl (l.1 ∙ z.1))
    (λ (z : IsFirstBefore m l.0 lane.end (link_from lane.end l.0 m)).
    let up = z.2 in let least = l.2 in
    let in_range : IsInRange lane z.0 = (omega arith, z.3) in
    inr (
      z.0,
      ap (λ (y : ℕ). role o y t) l.1
          ∙ is.standing z.0 (link_from lane.end l.0 m) z.1 in_range,
      in_range,
    ))
    (row_or_none m l.0 lane.end (rising_at o lane.group t valid))

module _ (o : Opening) (t : Execution) (valid : Valid o t) (lane : Lane) (k n low : ℕ)
    (is : IsLinkedLane o lane t) (from : lane.low ≤ low) (le : low ≤ k) (before : IsBefore k lane.end)
    (leads : n ≡ link_from lane.end low (rows lane.group t)) where
  abbrev m : Map
  m = rows lane.group t

  -- the key has no row, unless the link leads to one that is not behind it
  none_if : ((f : IsFirstBefore m low lane.end (link_from lane.end low m)) →
      role o n t ≡ InBuffer lane.group f.0 → f.0 ≤ k → ⊥) → look m k ≡ None
  none_if never = none_unless (look m k) (λ q e. ⊎_elim
      (λ (z : HasNoneFrom m low lane.end × (link_from lane.end low m ≡ 0)). z.0 k q e le before)
      (λ (f : IsFirstBefore m low lane.end (link_from lane.end low m)).
      let up = f.2 in
      let there = is.standing f.0 (link_from lane.end low m) f.1 (omega arith, f.3) in
      never f (ap (λ (y : ℕ). role o y t) leads ∙ there) (f.4 k q e le))
      (row_or_none m low lane.end (rising_at o lane.group t valid)))

  -- a row to which the link leads is in the lane's range
  in_range : (j : ℕ) → role o n t ≡ InBuffer lane.group j → IsInRange lane j
  in_range j there = ⊎_elim
      (λ (z : HasNoneFrom m low lane.end × (link_from lane.end low m ≡ 0)).
      absurd (row_place o t lane.group j n valid there (leads ∙ z.1)))
      (λ (f : IsFirstBefore m low lane.end (link_from lane.end low m)).
      let up = f.2 in
      let at = is.standing f.0 (link_from lane.end low m) f.1 (omega arith, f.3) in
      let same = (row_is (sym there ∙ (ap (λ (y : ℕ). role o y t) leads ∙ at))).1 in
      (omega arith, ap_before f.0 j (sym same) f.3))
      (row_or_none m low lane.end (rising_at o lane.group t valid))
    where
      ap_before : (i j : ℕ) → i ≡ j → IsBefore i lane.end → IsBefore j lane.end
      ap_before i j e x = subst (λ (y : ℕ). IsBefore y lane.end) e x

  decided : LaneDecides o lane k n t
  decided = record {
    none = λ e. none_if (λ f there up. (buffers_hold o t valid).places lane.group f.0
        (link_from lane.end low m) f.1 (sym leads ∙ e));
    greater = λ j there lt. none_if (λ f at up.
        let same = (row_is (sym there ∙ at)).1 in omega arith);
    found = λ e. all_listed o t valid lane.group k n e;
    smaller = λ j e lt. inr (j, e, in_range j e, lt);
  }

pub lane_decides : LaneLinksDecide
lane_decides o lane k q t valid is here stands =
    let l = leads_from o lane q t is (⊎_elim (λ (z : q ≡ 0). inl z)
    (λ (z : (j : ℕ) × (role o q t ≡ InBuffer lane.group j) × IsInRange lane j × (j < k)).
    inr (z.0, z.1, z.2)) stands) in
    decided o t valid lane k (word o t (lane_link lane q)) l.0 is l.2 (⊎_elim
    (λ (y : (q ≡ 0) × (l.0 ≡ lane.low)). let same = y.1 in let le = here.0 in omega arith)
    (λ (y : (j : ℕ) × (role o q t ≡ InBuffer lane.group j) × IsInRange lane j × (l.0 ≡ j + 1)).
    ⊎_elim
    (λ (z : q ≡ 0). absurd (row_place o t lane.group y.0 q valid y.1 z))
    (λ (z : (j : ℕ) × (role o q t ≡ InBuffer lane.group j) × IsInRange lane j × (j < k)).
    let same = (row_is (sym y.1 ∙ z.1)).1 in let lt = z.3 in let more = y.3 in omega arith)
    stands) l.3) here.1 l.1

pub lane_rises : LaneLinksRise
lane_rises o lane p i j t valid is here range there =
    let m : Map = rows lane.group t in
    let from = is.links i p here range in
    ⊎_elim
    (λ (z : HasNoneFrom m (i + 1) lane.end × (link_from lane.end (i + 1) m ≡ 0)).
    absurd (row_place o t lane.group j (word o t (PlaceWord p Link)) valid there (from ∙ z.1)))
    (λ (f : IsFirstBefore m (i + 1) lane.end (link_from lane.end (i + 1) m)).
    let le = f.2 in let low = range.0 in
    let at = is.standing f.0 (link_from lane.end (i + 1) m) f.1 (omega arith, f.3) in
    let same = (row_is (sym there ∙ (ap (λ (y : ℕ). role o y t) from ∙ at))).1 in omega arith)
    (row_or_none m (i + 1) lane.end (rising_at o lane.group t valid))

-- ---- links that were left ----

-- the rows of a lane stay among those linked into it while a caller stands in the group
pub row_stays : (o : Opening) (lane : Lane) (c k q : ℕ) → IsCaller o c → (n t : Execution) →
    Valid o (n ++ t) → StaysInside c n → stands_in c lane.group t ≡ true → IsLinkedLane o lane t →
    IsInRange lane k → look (rows lane.group t) k ≡ Some q →
    look (rows lane.group (n ++ t)) k ≡ Some q
row_stays o lane c k q is n t valid stay s w range e =
    let here = w.standing k q e range in
    all_listed o (n ++ t) valid lane.group k q
    (place_on o c lane.group is q k n t valid stay s (inr here) ∙ here)

-- three moments of a read section, and from which key on the link leads to the first row at each
module _ (o : Opening) (lane : Lane) (c low : ℕ) (is : IsCaller o c) (up : lane.low ≤ low)
    (l n t : Execution) (valid : Valid o (l ++ (n ++ t))) (stay : StaysInside c n)
    (later : StaysInside c l) (s : stands_in c lane.group t ≡ true) (first : IsLinkedLane o lane t)
    (between : IsLinkedLane o lane (n ++ t)) (last : IsLinkedLane o lane (l ++ (n ++ t))) where
  abbrev mid : Execution
  mid = n ++ t

  abbrev end : Execution
  end = l ++ mid

  valid_mid : Valid o mid
  valid_mid = valid_before o l mid valid

  s_mid : stands_in c lane.group mid ≡ true
  s_mid = stands_in_on c lane.group n t stay s

  -- where a link from this key on leads
  abbrev to : Execution → ℕ
  to u = link_from lane.end low (rows lane.group u)

  abbrev HasNone : Execution → Type 0
  HasNone u = HasNoneFrom (rows lane.group u) low lane.end × (to u ≡ 0)

  abbrev HasFirst : Execution → Type 0
  HasFirst u = IsFirstBefore (rows lane.group u) low lane.end (to u)

  in_lane : (u : Execution) → (f : HasFirst u) → IsInRange lane f.0
  in_lane u f = let le = f.2 in (omega arith, f.3)

  -- where the first row is the same at the first and at the last moment, it is in between
  back : to end ≡ to t → to mid ≡ to t
  back e = ⊎_elim
      (λ (z : HasNone mid). z.1 ∙ sym (⊎_elim
      (λ (y : HasNone t). y.1)
      (λ (y : HasFirst t). absurd (z.0 y.0 (to t)
      (row_stays o lane c y.0 (to t) is n t valid_mid stay s first (in_lane t y) y.1) y.2 y.3))
      (row_or_none (rows lane.group t) low lane.end
      (rising_at o lane.group t (valid_before o n t valid_mid)))))
      (λ (f : HasFirst mid). found f)
      (row_or_none (rows lane.group mid) low lane.end (rising_at o lane.group mid valid_mid))
    where
      found : HasFirst mid → to mid ≡ to t
      found f =
          let there : look (rows lane.group end) f.0 ≡ Some (to mid) =
          row_stays o lane c f.0 (to mid) is l mid valid later s_mid between (in_lane mid f) f.1 in
          ⊎_elim
          (λ (z : HasNone end). absurd (z.0 f.0 (to mid) there f.2 f.3))
          (λ (z : HasFirst end). ⊎_elim
          (λ (y : HasNone t). absurd ((buffers_hold o end valid).places lane.group z.0 (to end) z.1
          (e ∙ y.1)))
          (λ (y : HasFirst t).
          let here : look (rows lane.group mid) y.0 ≡ Some (to t) =
          row_stays o lane c y.0 (to t) is n t valid_mid stay s first (in_lane t y) y.1 in
          let still : look (rows lane.group end) y.0 ≡ Some (to t) =
          row_stays o lane c y.0 (to t) is l mid valid later s_mid between (in_lane t y) here in
          let one = last.standing z.0 (to end) z.1 (in_lane end z) in
          let two = last.standing y.0 (to t) still (in_lane t y) in
          let same = (row_is (sym one ∙ (ap (λ (x : ℕ). role o x end) e ∙ two))).1 in
          let most = f.4 y.0 (to t) here y.2 in
          let least = z.4 f.0 (to mid) there f.2 in
          let equal : f.0 ≡ y.0 = omega arith in
          some_is (sym f.1 ∙ (ap (look (rows lane.group mid)) equal ∙ here)))
          (row_or_none (rows lane.group t) low lane.end
          (rising_at o lane.group t (valid_before o n t valid_mid))))
          (row_or_none (rows lane.group end) low lane.end (rising_at o lane.group end valid))

pub lane_no_return : LeftLaneLinksDoNotComeBack
lane_no_return o lane c q is l n t valid stay later s first between last into e = ⊎_elim
    (λ (z : q ≡ 0).
    let head = λ (u : Execution) (x : IsLinkedLane o lane u).
    ap (λ (y : ℕ). word o u (lane_link lane y)) z ∙ x.head in
    head (n ++ t) between
    ∙ (back o lane c lane.low is (omega arith) l n t valid stay later s first between last
    (sym (head (l ++ (n ++ t)) last) ∙ (e ∙ head t first))
    ∙ sym (head t first)))
    (λ (z : (k : ℕ) × (role o q t ≡ InBuffer lane.group k) × IsInRange lane k).
    let valid_m = valid_before o l (n ++ t) valid in
    let s_m = stands_in_on c lane.group n t stay s in
    let some = row_place o t lane.group z.0 q (valid_before o n t valid_m) z.1 in
    let here_m = place_on o c lane.group is q z.0 n t valid_m stay s (inr z.1) ∙ z.1 in
    let here_l = place_on o c lane.group is q z.0 l (n ++ t) valid later s_m (inr here_m) ∙ here_m in
    let link = λ (u : Execution) (x : IsLinkedLane o lane u) (here : role o q u ≡ InBuffer lane.group z.0).
    ap (word o u) (row_link q some) ∙ x.links z.0 q here z.2 in
    let low = (z.2).0 in
    link (n ++ t) between here_m
    ∙ (back o lane c (z.0 + 1) is (omega arith) l n t valid stay later s first between last
    (sym (link (l ++ (n ++ t)) last here_l) ∙ (e ∙ link t first z.1))
    ∙ sym (link t first z.1)))
    into
  where
    row_link : (p : ℕ) → p ≢ 0 → lane_link lane p ≡ PlaceWord p Link
    row_link zero some = absurd (some refl)
    row_link (suc i) some = refl
