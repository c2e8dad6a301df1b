-- The lane of a key is found by halving.
--
-- The fact to remember: the cuts rise, so a cut that is not above the key is that of its lane or of one
-- before it.
use Rattle.std.proofs.Common.{◌≡◌, ◌≢◌, ℕ, zero, suc, ◌+◌, ◌-◌, ◌/◌, ◌<◌, ◌≤◌}
use Rattle.std.proofs.Common.{List, [], ◌∷◌, length, refl, sym, ◌∙◌, subst, arith}
use mathlib.Core.Logic.{dite}
use native.Mathlib.Decide.{ℕ_discrete}
use Rattle.word_layout.specs.Headers.{most_lanes}
use Rattle.word_layout.specs.declared.headers.HeaderWord.TheVariants.{Cut, Lanes}
use Rattle.index_machine.specs.declared.events.Action.{Action}
use Rattle.index_machine.specs.declared.events.Action.TheVariants.{LoadHeader}
use Rattle.index_machine.specs.declared.opening.Opening.{Opening}
use Rattle.index_machine.proofs.Executions.{valid_before}
use Rattle.index_machine.specs.Conditions.{Valid}
use Rattle.index_machine.specs.Execution.{Execution}
use Rattle.index_machine.specs.Lanes.{HasLane, cut, lanes}
use Rattle.word_layout.specs.Parts.{greatest_key}
use Rattle.machine_buffers.specs.Walks.{AreRisingLanes}
use Rattle.machine_buffers.proofs.BegunLanes.{cuts_rise, has_same, keys_have_lanes}
use Rattle.index_rule.specs.declared.board.Board.{Board}
use Rattle.index_rule.specs.declared.hand.Hand.{Hand}
use Rattle.index_rule.specs.Buffers.{TellsBegun}
use Rattle.index_rule.specs.Hands.{IsHandOf, Makes, MakesAll, known, opening_of}
use Rattle.index_rule.specs.Moments.{AddsNoEntry}
use Rattle.index_rule.proofs.Lanes.{cut_above}
use Rattle.index_rule.proofs.Stepping.{valid_after, valid_known}
use Rattle.sorted_group.specs.Loads.{AreLaneLoads, IsCutLoad, LoadsLanes}
use Rattle.sorted_group.specs.Standing.{CanFollow, CanSearch, IsOfBuffer}
use Rattle.sorted_group.proofs.BufferLoads.{AreBufferLoads, IsBufferLoad, follow_on, lanes_still}
use Rattle.sorted_group.proofs.BufferLoads.{log_on, search_on}

-- ---- cuts ----

-- a later lane has no smaller cut
cut_up : (o : Opening) (g : ℕ) (t : Execution) → AreRisingLanes o g t → (i d : ℕ) →
    i + d < lanes o g t → cut o g i t ≤ cut o g (i + d) t
cut_up o g t rising i zero lt =
    let same : i ≡ i + 0 = omega arith in
    let here : cut o g i t ≤ cut o g i t = omega arith in
    subst (λ (z : ℕ). cut o g i t ≤ cut o g z t) same here
cut_up o g t rising i (suc d) lt =
    let before = cut_up o g t rising i d (omega arith) in
    let up = rising.rising (i + d) (omega arith) in
    let same : (i + d) + 1 ≡ i + suc d = omega arith in
    let here : cut o g i t ≤ cut o g ((i + d) + 1) t = omega arith in
    subst (λ (z : ℕ). cut o g i t ≤ cut o g z t) same here

-- a lane whose cut is not above the key is the key's or stands before it
not_above : (o : Opening) (g lane i k : ℕ) (t : Execution) → AreRisingLanes o g t →
    HasLane o g lane k t → i < lanes o g t → cut o g i t ≤ k → i ≤ lane
not_above o g lane i k t rising has lt le =
    dite (ℕ_discrete (i - lane) 0)
    (λ (z : i - lane ≡ 0). omega arith)
    (λ (z : i - lane ≢ 0).
    let above = cut_above o g lane k t rising has i (omega arith) lt in omega arith)

-- and one whose cut is above it stands behind
pub lane_before : (o : Opening) (g lane i k : ℕ) (t : Execution) → AreRisingLanes o g t →
    HasLane o g lane k t → k < cut o g i t → lane < i
lane_before o g lane i k t rising has lt =
    dite (ℕ_discrete (i - lane) 0)
    (λ (z : i - lane ≡ 0).
    let same : i + (lane - i) ≡ lane = omega arith in
    let is_lane = has.is_lane in
    let up : cut o g i t ≤ cut o g lane t =
    subst (λ (y : ℕ). cut o g i t ≤ cut o g y t) same
    (cut_up o g t rising i (lane - i) (omega arith)) in
    let from = has.from in
    omega arith)
    (λ (z : i - lane ≢ 0). omega arith)

-- ---- the halving ----

-- after so many loads there are so many lanes left but one, of which three more cuts at most tell
pub record IsHalved (loads left : ℕ) : Type 0 where
  pub some : 1 ≤ loads
  pub few : loads ≤ 4
  pub first : loads ≡ 1 → left ≤ 7
  pub second : loads ≡ 2 → left ≤ 3
  pub third : loads ≡ 3 → left ≤ 1
  pub last : loads ≡ 4 → left ≡ 0

halves : (loads left rest : ℕ) → IsHalved loads left → 1 ≤ left → rest + rest ≤ left →
    IsHalved (loads + 1) rest
halves loads left rest old more half =
    let some = old.some in
    let few = old.few in
    record {
      some = omega arith;
      few = dite (ℕ_discrete loads 4)
          (λ (z : loads ≡ 4). let none = old.last z in absurd (omega arith))
          (λ (z : loads ≢ 4). omega arith);
      first = λ e. absurd (omega arith);
      second = λ e. let before = old.first (omega arith) in omega arith;
      third = λ e. let before = old.second (omega arith) in omega arith;
      last = λ e. let before = old.third (omega arith) in omega arith;
    }

-- what the hand knows as it has narrowed the lanes down to those from `low` to `high`
pub record IsChoosing (b : Board) (g key low high : ℕ) (h m : Hand) : Type 0 where
  pub can : CanFollow b g m
  pub search : CanSearch b g h → CanSearch b g m
  pub number : m.number ≡ h.number
  pub log : AddsNoEntry h m
  pub valid : Valid (opening_of b) (known m)
  pub actions : List Action
  pub are : AreLaneLoads g actions
  pub makes : MakesAll b h actions m
  pub halved : IsHalved (length actions) (high - low)
  pub lane : ℕ
  pub has : HasLane (opening_of b) g lane key (known m)
  pub from : low ≤ lane
  pub to : lane ≤ high
  pub in_lanes : high < lanes (opening_of b) g (known m)

-- there are few lanes
pub few_lanes : (b : Board) (g many : ℕ) (h m : Hand) → IsHandOf b h →
    Makes b h (LoadHeader g Lanes many) m → TellsBegun (opening_of b) g Lanes many (known h) (known m) →
    many ≤ most_lanes
few_lanes b g many h m of l tells =
    let o = opening_of b in
    let told : lanes o g (known m) ≡ many = tells.1 in
    let few = (cuts_rise o (known m) (valid_known b h m (LoadHeader g Lanes many) of l) g).few in
    omega arith

pub few_left : (b : Board) (g key low high : ℕ) (h m : Hand) → IsChoosing b g key low high h m →
    high < most_lanes
few_left b g key low high h m on =
    let few = (cuts_rise (opening_of b) (known m) on.valid g).few in
    let in_lanes = on.in_lanes in omega arith

-- the number of lanes was loaded
pub begins_choice : (b : Board) (g key many : ℕ) (h m : Hand) → key ≤ greatest_key →
    CanFollow b g h → CanFollow b g m → (CanSearch b g h → CanSearch b g m) →
    m.number ≡ h.number → AddsNoEntry h m → IsOfBuffer (opening_of b) g key (known h) →
    Makes b h (LoadHeader g Lanes many) m → many ≡ lanes (opening_of b) g (known m) →
    many ≤ most_lanes → (1 ≤ many) × IsChoosing b g key 0 (many - 1) h m
begins_choice b g key many h m le first can search number log belongs l is few =
    let o = opening_of b in
    let d = LoadHeader g Lanes many in
    let after = valid_after b h m d first.of l in
    let valid = valid_before o l.acts.0 (known h) after.1 in
    let found = keys_have_lanes o (known h) valid g key le belongs in
    let lane : ℕ = found.0 in
    let has : HasLane o g lane key (known m) =
    has_same o g lane key (known h) (known m) (lanes_still b g h m d refl l first) found.1 in
    let is_lane = has.is_lane in
    let one : 1 ≤ many = omega arith in (
      one,
      record {
        can = can;
        search = search;
        number = number;
        log = log;
        valid = valid_known b h m d first.of l;
        actions = d ∷ [];
        are = (many, refl);
        makes = (h, refl, l);
        halved = record {
          some = omega arith;
          few = omega arith;
          first = λ e. omega arith;
          second = λ e. absurd (omega (arith, e));
          third = λ e. absurd (omega (arith, e));
          last = λ e. absurd (omega (arith, e));
        };
        lane = lane;
        has = has;
        from = omega arith;
        to = omega arith;
        in_lanes = omega arith;
      },
    )

-- one more cut is loaded
loads_more : (g middle found : ℕ) (ds : List Action) → AreLaneLoads g ds →
    AreLaneLoads g (LoadHeader g (Cut middle) found ∷ ds)
loads_more g middle found [] are = absurd are
loads_more g middle found (d ∷ ds) are = (refl, are)

module _ (b : Board) (g key low high middle found : ℕ) (h m n : Hand)
    (on : IsChoosing b g key low high h m) (left : low < high)
    (at : middle ≡ (low + high + 1) / 2) (l : Makes b m (LoadHeader g (Cut middle) found) n)
    (tells : TellsBegun (opening_of b) g (Cut middle) found (known m) (known n)) where
  abbrev d : Action
  d = LoadHeader g (Cut middle) found

  -- the middle is one of the lanes that are left, and not the first one
  pub middle_within : (low < middle) × (middle ≤ high)
  middle_within = (omega arith, omega arith)

  rising : AreRisingLanes (opening_of b) g (known n)
  rising = cuts_rise (opening_of b) (known n) (valid_known b m n d on.can.of l) g

  has_still : HasLane (opening_of b) g on.lane key (known n)
  has_still =
      has_same (opening_of b) g on.lane key (known m) (known n) (lanes_still b g m n d refl l on.can)
      on.has

  many_still : lanes (opening_of b) g (known n) ≡ lanes (opening_of b) g (known m)
  many_still = lanes_still b g m n d refl l on.can Lanes

  narrowed : (low2 high2 : ℕ) → IsHalved (length on.actions + 1) (high2 - low2) →
      low2 ≤ on.lane → on.lane ≤ high2 → high2 ≤ high → IsChoosing b g key low2 high2 h n
  narrowed low2 high2 halved from to within =
      let in_lanes = on.in_lanes in
      let many = many_still in
      record {
        can = follow_on b g m n d refl l on.can;
        search = λ first. search_on b g m n d refl l (on.search first);
        number = l.number ∙ on.number;
        log = log_on b g m n d refl l h on.can.of on.log;
        valid = valid_known b m n d on.can.of l;
        actions = d ∷ on.actions;
        are = loads_more g middle found on.actions on.are;
        makes = (m, on.makes, l);
        halved = subst (λ (z : ℕ). IsHalved z (high2 - low2)) (omega arith) halved;
        lane = on.lane;
        has = has_still;
        from = from;
        to = to;
        in_lanes = omega arith;
      }

  -- the key is in the middle lane or behind it
  pub goes_up : found ≤ key → IsChoosing b g key middle high h n
  goes_up le =
      let within = middle_within in
      let in_lanes = on.in_lanes in
      let many = many_still in
      let told : cut (opening_of b) g middle (known n) ≡ found = tells.1 in
      let to = on.to in
      narrowed middle high
      (halves (length on.actions) (high - low) (high - middle) on.halved (omega arith) (omega arith))
      (not_above (opening_of b) g on.lane middle key (known n) rising has_still (omega arith)
      (omega arith))
      to (omega arith)

  -- or before it
  pub goes_down : key < found → IsChoosing b g key low (middle - 1) h n
  goes_down lt =
      let within = middle_within in
      let told : cut (opening_of b) g middle (known n) ≡ found = tells.1 in
      let before = lane_before (opening_of b) g on.lane middle key (known n) rising has_still
      (omega arith) in
      narrowed low (middle - 1)
      (halves (length on.actions) (high - low) (middle - 1 - low) on.halved (omega arith)
      (omega arith))
      on.from (omega arith) (omega arith)

-- ---- the lane that is left ----

module _ (b : Board) (g key low high : ℕ) (h m : Hand) (on : IsChoosing b g key low high h m)
    (none : high ≤ low) where
  pub is_left : HasLane (opening_of b) g low key (known m)
  is_left =
      let from = on.from in
      let to = on.to in
      let same : on.lane ≡ low = omega arith in
      subst (λ (z : ℕ). HasLane (opening_of b) g z key (known m)) same on.has

  pub loaded : LoadsLanes b g 3 h m
  loaded = let few = on.halved.few in (on.actions, on.are, omega arith, on.makes)

-- each of these loads is one of the buffer
pub lane_loads : (g : ℕ) (ds : List Action) → AreLaneLoads g ds → AreBufferLoads g ds
lane_loads g [] are = absurd are
lane_loads g (d ∷ []) are = (subst (IsBufferLoad g) (sym are.1) refl, tt)
lane_loads g (d ∷ (e ∷ ds)) are = (cut_load d are.0, lane_loads g (e ∷ ds) are.1)
  where
    cut_load : (c : Action) → IsCutLoad g c → IsBufferLoad g c
    cut_load (LoadHeader f (Cut lane) found) is = is
    cut_load c is = absurd is
