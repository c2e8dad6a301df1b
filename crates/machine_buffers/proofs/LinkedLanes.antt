-- A row that is linked into a lane takes its place there; and what the links of a lane say.
use Rattle.std.proofs.Common.{◌≡◌, ◌≢◌, ℕ, zero, suc, ◌+◌, ◌<◌, ◌≤◌, ◌⊎◌, inl, inr, ⊎_elim, Option}
use Rattle.std.proofs.Common.{Some, None, refl, sym, ap, ◌∙◌, subst, arith}
use mathlib.Core.Logic.{dite}
use native.Mathlib.Decide.{ℕ_discrete}
use Rattle.index_machine.specs.Execution.{Execution}
use Rattle.index_machine.specs.Rows.{InBuffer, role}
use Rattle.index_machine.specs.Words.{word}
use Rattle.index_machine.specs.declared.opening.Opening.{Opening}
use Rattle.machine_buffers.proofs.NextRows.{HasNoneFrom, IsFirstBefore, IsGap, from_before_put}
use Rattle.machine_buffers.proofs.NextRows.{from_behind_put, from_gap_put, from_over_gap, here_before, put_outside}
use Rattle.machine_buffers.proofs.NextRows.{less_or_not, row_or_none}
use Rattle.machine_buffers.specs.Lanes.{IsBefore, IsInRange, IsLinkedLane, Lane}
use Rattle.machine_buffers.specs.Lanes.{KeepsLane, LinksInto, before_end, lane_link}
use Rattle.machine_buffers.specs.Lanes.{place_of_row, link_from}
use Rattle.index_machine.proofs.Options.{some_is}
use Rattle.machine_readers.specs.Buffers.{RowsAreListed, rows}
use Rattle.map_model.proofs.Histories.{look-put-else, look-put-here}
use Rattle.map_model.specs.Map.{IsRising, Map, first_from, look, put}
use Rattle.word_layout.specs.Words.{PlaceWord}
use Rattle.word_layout.specs.declared.places.Part.TheVariants.{Link}

pub row_is : {g k h j : ℕ} → InBuffer g k ≡ InBuffer h j → (g ≡ h) × (k ≡ j)
row_is e = (cc, cc)

-- the row from a key on, by what is first from there on
same_from : (end : Option ℕ) (i j : ℕ) (m n : Map) → first_from m i ≡ first_from n j →
    link_from end i m ≡ link_from end j n
same_from end i j m n e = ap (λ (f : Option (ℕ × ℕ)). place_of_row (before_end end f)) e

put_from : (end : Option ℕ) (low k p : ℕ) (n : Map) → IsBefore k end →
    first_from n low ≡ Some (k, p) → link_from end low n ≡ p
put_from end low k p n is e =
    ap (λ (f : Option (ℕ × ℕ)). place_of_row (before_end end f)) e
    ∙ ap place_of_row (here_before end (k, p) is)

-- ---- where a link of a lane leads ----

-- the least key from which on the link behind a place leads to the first row: the lane's for its head, and
-- the next one for a row
abbrev pub LeadsFrom : (o : Opening) → Lane → ℕ → Execution → Type 0
LeadsFrom o lane q t =
    (low : ℕ) × (word o t (lane_link lane q) ≡ link_from lane.end low (rows lane.group t))
    × (lane.low ≤ low)
    × (((q ≡ 0) × (low ≡ lane.low))
    ⊎ ((j : ℕ) × (role o q t ≡ InBuffer lane.group j) × IsInRange lane j × (low ≡ j + 1)))

pub leads_from : (o : Opening) (lane : Lane) (q : ℕ) (t : Execution) → IsLinkedLane o lane t →
    (q ≡ 0) ⊎ ((j : ℕ) × (role o q t ≡ InBuffer lane.group j) × IsInRange lane j) →
    LeadsFrom o lane q t
leads_from o lane zero t is into = (lane.low, is.head, omega arith, inl (refl, refl))
leads_from o lane (suc n) t is into = ⊎_elim
    (λ (z : suc n ≡ 0). absurd (omega (arith, z)))
    (λ (z : (j : ℕ) × (role o (suc n) t ≡ InBuffer lane.group j) × IsInRange lane j).
    let le = (z.2).0 in
    (z.0 + 1, is.links z.0 (suc n) z.1 z.2, omega arith, inr (z.0, z.1, z.2, refl)))
    into

-- ---- a row that is linked ----

module _ (o : Opening) (lane : Lane) (k p before : ℕ) (t later : Execution)
    (rising : IsRising (rows lane.group t)) (listed : RowsAreListed o t)
    (some : (j q : ℕ) → role o q t ≡ InBuffer lane.group j → q ≢ 0)
    (old : IsLinkedLane o lane t) (links : LinksInto o lane k p before t later) where
  abbrev m : Map
  m = rows lane.group t

  start : LeadsFrom o lane before t
  start = leads_from o lane before t old (⊎_elim (λ (z : before ≡ 0). inl z)
      (λ (z : (j : ℕ) × (role o before t ≡ InBuffer lane.group j) × IsInRange lane j × (j < k)).
      inr (z.0, z.1, z.2)) links.behind)

  abbrev low : ℕ
  low = start.0

  -- the link stands before the key
  before_key : low ≤ k
  before_key = ⊎_elim
      (λ (z : (before ≡ 0) × (low ≡ lane.low)). let is = z.1 in let le = links.in_range.0 in omega arith)
      (λ (z : (j : ℕ) × (role o before t ≡ InBuffer lane.group j) × IsInRange lane j × (low ≡ j + 1)).
      ⊎_elim
      (λ (y : before ≡ 0). absurd (some z.0 before z.1 y))
      (λ (y : (j : ℕ) × (role o before t ≡ InBuffer lane.group j) × IsInRange lane j × (j < k)).
      let same = (row_is (sym z.1 ∙ y.1)).1 in let lt = y.3 in let is = z.3 in omega arith)
      links.behind) start.3

  -- no row has a key from there up to the new one
  gap : IsGap m low k
  gap i q e = ⊎_elim (λ (lt : i < low). inl lt)
      (λ (le : low ≤ i). inr (⊎_elim
      (λ (z : HasNoneFrom m low lane.end × (link_from lane.end low m ≡ 0)). past i q e le z.0)
      (λ (z : IsFirstBefore m low lane.end (link_from lane.end low m)).
      let least = z.4 i q e le in
      let there : role o (link_from lane.end low m) t ≡ InBuffer lane.group z.0 =
      let up = z.2 in let least_of = start.2 in
      old.standing z.0 (link_from lane.end low m) z.1 (omega arith, z.3) in
      let up = links.ahead z.0 (subst (λ (y : ℕ). role o y t ≡ InBuffer lane.group z.0) (sym start.1)
      there) in omega arith)
      (row_or_none m low lane.end rising)))
      (less_or_not i low)
    where
      -- what stands past the end stands behind the key
      behind_end : (end : Option ℕ) (i : ℕ) → IsBefore k end → (IsBefore i end → ⊥) → k < i
      behind_end None i is never = absurd (never tt)
      behind_end (Some end) i is never = ⊎_elim (λ (lt : i < end). absurd (never lt))
          (λ (le : end ≤ i). let lt : k < end = is in omega arith) (less_or_not i end)

      past : (i q : ℕ) → look m i ≡ Some q → low ≤ i → HasNoneFrom m low lane.end → k < i
      past i q e le none = behind_end lane.end i links.in_range.1 (none i q e le)

  -- the link behind the place leads to the new row, which is the first from there on
  behind_now : word o later (lane_link lane before) ≡ link_from lane.end low (put m k p)
  behind_now =
      links.linked
      ∙ sym (put_from lane.end low k p (put m k p) links.in_range.1
      (from_gap_put m low k p rising before_key gap))

  -- the new one leads to what was the first
  link_of_new : word o later (PlaceWord p Link) ≡ link_from lane.end (k + 1) (put m k p)
  link_of_new =
      links.kept
      ∙ (links.leads ∙ (start.1
      ∙ (sym (same_from lane.end (k + 1) low m m (from_over_gap m low k rising before_key gap))
      ∙ sym (same_from lane.end (k + 1) (k + 1) (put m k p) m (from_behind_put m (k + 1) k p (omega arith))))))

  -- the row from the key of another row on is the one that was there
  kept_from : (j q : ℕ) → look m j ≡ Some q → IsInRange lane j → (before ≡ q → ⊥) →
      link_from lane.end (j + 1) (put m k p) ≡ link_from lane.end (j + 1) m
  kept_from j q e is other = ⊎_elim
      (λ (lt : j < low). ⊎_elim
      (λ (z : (before ≡ 0) × (low ≡ lane.low)). let same = z.1 in let le = is.0 in absurd (omega arith))
      (λ (z : (i : ℕ) × (role o before t ≡ InBuffer lane.group i) × IsInRange lane i × (low ≡ i + 1)).
      let here : look m z.0 ≡ Some before = listed lane.group z.0 before z.1 in
      let differ : j ≢ z.0 = λ s. other (some_is (sym here ∙ (ap (look m) (sym s) ∙ e))) in
      let same = z.3 in let le = before_key in
      same_from lane.end (j + 1) (j + 1) (put m k p) m
      (from_before_put m (j + 1) k p z.0 before rising (omega arith) (omega arith) here))
      start.3)
      (λ (gt : k < j). same_from lane.end (j + 1) (j + 1) (put m k p) m
      (from_behind_put m (j + 1) k p (omega arith)))
      (gap j q e)

  -- an old row leads on
  link_of_old : (j q : ℕ) → role o q t ≡ InBuffer lane.group j → IsInRange lane j →
      word o later (PlaceWord q Link) ≡ link_from lane.end (j + 1) (put m k p)
  link_of_old j q e is = dite (ℕ_discrete before q)
      (λ (z : before ≡ q). behind_row q z (some j q e) e)
      (λ (n : before ≢ q).
      links.others j q e is (λ s. n (sym s))
      ∙ (old.links j q e is
      ∙ sym (kept_from j q (listed lane.group j q e) is n)))
    where
      behind_row : (r : ℕ) → before ≡ r → r ≢ 0 → role o r t ≡ InBuffer lane.group j →
          word o later (PlaceWord r Link) ≡ link_from lane.end (j + 1) (put m k p)
      behind_row zero z none at = absurd (none refl)
      behind_row (suc n) z none at = ⊎_elim
          (λ (w : (before ≡ 0) × (low ≡ lane.low)). absurd (none (sym z ∙ w.0)))
          (λ (w : (i : ℕ) × (role o before t ≡ InBuffer lane.group i) × IsInRange lane i
          × (low ≡ i + 1)).
          let same = (row_is (sym w.1 ∙ (ap (λ (y : ℕ). role o y t) z ∙ at))).1 in
          ap (λ (y : ℕ). word o later (lane_link lane y)) (sym z)
          ∙ (behind_now
          ∙ ap (λ (y : ℕ). link_from lane.end y (put m k p)) (w.3 ∙ ap (λ (y : ℕ). y + 1) same)))
          start.3

  -- the head leads to the first row
  head_now : word o later lane.head ≡ link_from lane.end lane.low (put m k p)
  head_now = ⊎_elim
      (λ (z : (before ≡ 0) × (low ≡ lane.low)).
      ap (λ (y : ℕ). word o later (lane_link lane y)) (sym z.0)
      ∙ (behind_now ∙ ap (λ (y : ℕ). link_from lane.end y (put m k p)) z.1))
      (λ (z : (i : ℕ) × (role o before t ≡ InBuffer lane.group i) × IsInRange lane i × (low ≡ i + 1)).
      let le = (z.2).0 in let is = z.3 in let more = before_key in
      links.head (some z.0 before z.1)
      ∙ (old.head
      ∙ sym (same_from lane.end lane.low lane.low (put m k p) m
      (from_before_put m lane.low k p z.0 before rising (omega arith) (omega arith)
      (listed lane.group z.0 before z.1)))))
      start.3

  -- its rows stand in the buffer
  standing_now : (j q : ℕ) → look (put m k p) j ≡ Some q → IsInRange lane j →
      role o q later ≡ InBuffer lane.group j
  standing_now j q e is = dite (ℕ_discrete j k)
      (λ (z : j ≡ k).
      let same : p ≡ q = some_is (sym (look-put-here m k p) ∙ (ap (look (put m k p)) (sym z) ∙ e)) in
      ap (λ (y : ℕ). role o y later) (sym same)
      ∙ (links.row ∙ ap (λ (y : ℕ). InBuffer lane.group y) (sym z)))
      (λ (n : j ≢ k).
      let there = old.standing j q (sym (look-put-else m k p j n) ∙ e) is in
      links.stay j q there is)

  links_now : (j q : ℕ) → role o q later ≡ InBuffer lane.group j → IsInRange lane j →
      word o later (PlaceWord q Link) ≡ link_from lane.end (j + 1) (put m k p)
  links_now j q e is = dite (ℕ_discrete p q)
      (λ (z : p ≡ q).
      let same = (row_is (sym links.row ∙ (ap (λ (y : ℕ). role o y later) z ∙ e))).1 in
      ap (λ (y : ℕ). word o later (PlaceWord y Link)) (sym z)
      ∙ (link_of_new ∙ ap (λ (y : ℕ). link_from lane.end (y + 1) (put m k p)) same))
      (λ (n : p ≢ q). link_of_old j q (links.came j q e is n) is)

  pub linked_on : IsLinkedLane o lane later
  linked_on = record {
    head = head_now ∙ ap (link_from lane.end lane.low) (sym links.rows);
    links = λ j q e is. links_now j q e is ∙ ap (link_from lane.end (j + 1)) (sym links.rows);
    standing = λ j q e is.
        standing_now j q (ap (λ (y : Map). look y j) (sym links.rows) ∙ e) is;
  }

-- ---- a lane into which none is linked ----

module _ (o : Opening) (lane : Lane) (t later : Execution) (rising : IsRising (rows lane.group t))
    (old : IsLinkedLane o lane t) (keeps : KeepsLane o lane t later) where
  -- a link from within the range leads to what was there
  same_link : (low : ℕ) → lane.low ≤ low →
      link_from lane.end low (rows lane.group later) ≡ link_from lane.end low (rows lane.group t)
  same_link low up = ⊎_elim
      (λ (z : rows lane.group later ≡ rows lane.group t). ap (link_from lane.end low) z)
      (λ (z : (k : ℕ) × (place : ℕ) × (IsInRange lane k → ⊥) × (look (rows lane.group t) k ≡ None)
      × (rows lane.group later ≡ put (rows lane.group t) k place)).
      ap (link_from lane.end low) z.4
      ∙ put_outside (rows lane.group t) low z.0 z.1 lane.end rising z.3
      (λ le is. z.2 (omega arith, is)))
      keeps.rows

  -- its rows stand in the buffer
  standing_kept : (k place : ℕ) → look (rows lane.group later) k ≡ Some place → IsInRange lane k →
      role o place later ≡ InBuffer lane.group k
  standing_kept k place e is = ⊎_elim
      (λ (z : rows lane.group later ≡ rows lane.group t).
      keeps.stay k place (old.standing k place (ap (λ (m : Map). look m k) (sym z) ∙ e) is) is)
      (λ (z : (j : ℕ) × (p : ℕ) × (IsInRange lane j → ⊥) × (look (rows lane.group t) j ≡ None)
      × (rows lane.group later ≡ put (rows lane.group t) j p)).
      let differ : k ≢ z.0 = λ s. z.2 (subst (IsInRange lane) s is) in
      keeps.stay k place (old.standing k place
      (sym (look-put-else (rows lane.group t) z.0 z.1 k differ)
      ∙ (ap (λ (m : Map). look m k) (sym z.4) ∙ e)) is) is)
      keeps.rows

  pub linked_kept : IsLinkedLane o lane later
  linked_kept = record {
    head = keeps.head ∙ (old.head ∙ sym (same_link lane.low (omega arith)));
    links = λ k place e is.
        let le = is.0 in
        let there = keeps.came k place e is in
        keeps.links k place there is
        ∙ (old.links k place there is ∙ sym (same_link (k + 1) (omega arith)));
    standing = standing_kept;
  }
