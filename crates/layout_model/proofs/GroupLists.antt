-- Groups that fit stay so where one of them gets other records that fit.
use Rattle.std.proofs.Common.{◌≡◌, ℕ, ◌<◌, List, length, set, sym, subst, inl, inr}
use Rattle.std.proofs.lemmas.Bool.{cases_eq}
use Rattle.std.proofs.lemmas.List.{get_or-set_other, get_or-set_same, length-set}
use Rattle.std.proofs.lemmas.List.Elements.{All-weaker}
use Rattle.std.specs.Prelude.{slice_index_or}
use Rattle.layout_model.specs.Cells.{Cell}
use Rattle.layout_model.specs.Groups.{Group, cuts_of, group_at, lane_for, no_group, no_lane, pivots_of, with_array, with_lane_rows, with_rows}
use Rattle.layout_model.specs.Stretches.{position_of}
use Rattle.layout_model.specs.WellFormed.{AreGroups, AreRecords, IsGroup, IsKeyAt}
use Rattle.layout_model.proofs.Positions.{cuts_of-with_rows, lane_position-within, pivots_of-set}

-- ---- weaker demands on keys ----

pub AreRecords-weaker : (P Q : ℕ → Type 0) → ((k : ℕ) → P k → Q k) → (cells : List Cell) →
    AreRecords P cells → AreRecords Q cells
AreRecords-weaker P Q step cells all =
    record {
      rising = all.rising;
      own = All-weaker (λ (c : Cell). P c.key) (λ (c : Cell). Q c.key) (λ c has. step c.key has) cells all.own;
      versions = all.versions;
    }

IsKeyAt-weaker : (P Q : ℕ → Type 0) → ((k : ℕ) → P k → Q k) → (begins : List ℕ) (i k : ℕ) →
    IsKeyAt P begins i k → IsKeyAt Q begins i k
IsKeyAt-weaker P Q step begins i k is = record { has = step k is.has; at = is.at }

pub IsGroup-weaker : (P Q : ℕ → Type 0) → ((k : ℕ) → P k → Q k) → (g : Group) → IsGroup P g →
    IsGroup Q g
IsGroup-weaker P Q step g is =
    record {
      array = AreRecords-weaker P Q step g.array is.array;
      some = is.some;
      first = is.first;
      rising = is.rising;
      cuts = All-weaker P Q step (cuts_of g) is.cuts;
      lanes =
          λ i within.
          AreRecords-weaker (IsKeyAt P (cuts_of g) i) (IsKeyAt Q (cuts_of g) i)
          (IsKeyAt-weaker P Q step (cuts_of g) i) (slice_index_or g.lanes i no_lane).rows
          (is.lanes i within);
    }

pub AreGroups-weaker : (P Q : ℕ → Type 0) → ((k : ℕ) → P k → Q k) → (groups : List Group) →
    AreGroups P groups → AreGroups Q groups
AreGroups-weaker P Q step groups all =
    record {
      rising = all.rising;
      each =
          λ i within.
          IsGroup-weaker (IsKeyAt P (pivots_of groups) i) (IsKeyAt Q (pivots_of groups) i)
          (IsKeyAt-weaker P Q step (pivots_of groups) i) (group_at groups i) (all.each i within);
    }

-- ---- other records ----

pub IsGroup-with_array : (Has : ℕ → Type 0) (cells : List Cell) (g : Group) → IsGroup Has g →
    AreRecords Has cells → IsGroup Has (with_array cells g)
IsGroup-with_array Has cells g is all =
    record {
      array = all;
      some = is.some;
      first = is.first;
      rising = is.rising;
      cuts = is.cuts;
      lanes = is.lanes;
    }

pub IsGroup-with_rows : (Has : ℕ → Type 0) (k : ℕ) (rows : List Cell) (g : Group) → IsGroup Has g →
    AreRecords (IsKeyAt Has (cuts_of g) (position_of (cuts_of g) k)) rows →
    IsGroup Has (with_rows k rows g)
IsGroup-with_rows Has k rows g is all =
    let same = cuts_of-with_rows k rows g is.some in
    let at = position_of (cuts_of g) k in
    let lane = with_lane_rows rows (lane_for g k) in
    let long = length-set g.lanes at lane in
    record {
      array = is.array;
      some = rw long is.some;
      first = rw same is.first;
      rising = rw same is.rising;
      cuts = rw same is.cuts;
      lanes =
          λ i within.
          let P : List ℕ → Type 0 =
          λ cuts. AreRecords (IsKeyAt Has cuts i) (slice_index_or (set g.lanes at lane) i no_lane).rows in
          subst P (sym same)
          (elim (cases_eq i at) [
            | inl here ↦
                rw (here, get_or-set_same g.lanes at lane no_lane (lane_position-within g k is.some)) all
            | inr apart ↦
                rw (get_or-set_other g.lanes at i lane no_lane apart) (is.lanes i (rw long at within))
          ]);
    }

-- another group of the same pivot at a position
pub AreGroups-set : (Has : ℕ → Type 0) (groups : List Group) (at : ℕ) (g : Group) →
    at < length groups → g.pivot ≡ (group_at groups at).pivot → AreGroups Has groups →
    IsGroup (IsKeyAt Has (pivots_of groups) at) g → AreGroups Has (set groups at g)
AreGroups-set Has groups at g inside pivot all own =
    let same = pivots_of-set groups at g inside pivot in
    let long = length-set groups at g in
    record {
      rising = rw same all.rising;
      each =
          λ i within.
          let P : List ℕ → Type 0 =
          λ pivots. IsGroup (IsKeyAt Has pivots i) (group_at (set groups at g) i) in
          subst P (sym same)
          (elim (cases_eq i at) [
            | inl here ↦ rw (here, get_or-set_same groups at g no_group inside) own
            | inr apart ↦
                rw (get_or-set_other groups at i g no_group apart) (all.each i (rw long at within))
          ]);
    }
