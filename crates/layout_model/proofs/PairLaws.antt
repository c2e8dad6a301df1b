-- Get, put and remove are look, put and remove of the layout's pairs.
use Rattle.std.proofs.Common.{◌≡◌, ℕ, ◌≤◌, true, false, refl, sym, ◌∙◌, ap, inl, inr}
use Rattle.std.proofs.lemmas.Bool.{cases_eq}
use Rattle.map_model.proofs.Histories.{look-else, look-here, look-put-else, look-put-here}
use Rattle.map_model.proofs.Pairs.{remove-absent, rising-put, rising-remove}
use Rattle.map_model.specs.declared.entries.Change.TheVariants as change
use Rattle.map_model.specs.Map.{Map, look}
use Rattle.map_model.specs.Map as map
use Rattle.word_layout.specs.Shape.{Shape}
use Rattle.layout_model.specs.Calls.{Outcome, last_version, located, new_cell, value_of}
use Rattle.layout_model.specs.Cells.{Cell}
use Rattle.layout_model.specs.Layout.{Layout, part_for}
use Rattle.layout_model.specs.Pairs.{GetsLook, HasPairs, MakesPairs, PutsPut, RemovesRemove}
use Rattle.layout_model.specs.Records.{Found, Spot, cells_for}
use Rattle.layout_model.specs.WellFormed.{IsWellFormed}
use Rattle.layout_model.proofs.Cases.{HasValue, PutDoes, RemoveDoes, put-does, remove-does}
use Rattle.layout_model.proofs.Cases as does
use Rattle.layout_model.proofs.CallsLeave.{raised, row-leaves, written-leaves_at}
use Rattle.layout_model.proofs.Finding.{cell_at-key}
use Rattle.layout_model.proofs.SoundCalls.{probes-keep, row-stands, value-stands}
use Rattle.layout_model.proofs.WrittenLayouts.{Leaves}

-- ---- pairs that are left ----

-- the pairs of a layout whose parts are the same
same-pairs : (h : Shape) (s t : Layout) (m : Map) → t.parts ≡ s.parts → HasPairs h s m →
    HasPairs h t m
same-pairs h s t m is has = record { rising = has.rising; same = λ q. rw is (has.same q) }

-- a record with this value is left, so the pairs have it
put-pairs : (h : Shape) (s t : Layout) (m : Map) (k v : ℕ) (spot : Spot) (new : Cell) →
    HasPairs h s m → Leaves h s t k spot new → new.removed ≡ false → new.value ≡ v →
    HasPairs h t (map.put m k v)
put-pairs h s t m k v spot new has leaves live value =
    record {
      rising = rising-put m k v has.rising;
      same =
          λ q.
          elim (cases_eq q k) [
            | inl here ↦
                rw (here, look-put-here m k v, leaves.own, live) (rw value refl)
            | inr apart ↦
                look-put-else m k v q apart
                ∙ (has.same q ∙ sym (ap value_of (leaves.others q apart)))
          ];
    }

-- a removed record is left, so the pairs lack its key
removed-pairs : (h : Shape) (s t : Layout) (m : Map) (k : ℕ) (spot : Spot) (new : Cell) →
    HasPairs h s m → Leaves h s t k spot new → new.removed ≡ true →
    HasPairs h t (map.remove m k)
removed-pairs h s t m k spot new has leaves gone =
    record {
      rising = rising-remove m k has.rising;
      same =
          λ q.
          elim (cases_eq q k) [
            | inl here ↦
                rw (here, look-here m (change.Remove 0 k), leaves.own, gone) refl
            | inr apart ↦
                look-else m (change.Remove 0 k) q apart
                ∙ (has.same q ∙ sym (ap value_of (leaves.others q apart)))
          ];
    }

-- ---- calls ----

-- a refused call leaves all pairs, and so does one that finds nothing
put-makes : (h : Shape) (k v : ℕ) (s : Layout) (m : Map) (o : Outcome) →
    h.limits.first_version ≤ last_version → IsWellFormed h s → HasPairs h s m → PutDoes h k v s o →
    MakesPairs h m k (map.put m k v) o
put-makes h k v s m o version formed has (does.Overwrites at had less) =
    let new : Cell = record at.cell { value = v } in
    let leaves =
    written-leaves_at h s k at new formed had.there.key (value-stands h s k at formed had less) in
    record {
      told = sym (has.same k ∙ ap value_of had.live);
      left = put-pairs h s _ m k v at.spot (raised at new) has leaves.leaves had.there.live refl;
    }
put-makes h k v s m o version formed has (does.MeetsWornValue at had last) =
    record { told = tt; left = has }
put-makes h k v s m o version formed has (does.MeetsFrozen is) = record { told = tt; left = has }
put-makes h k v s m o version formed has (does.Revives spot row had less) =
    let at : Found = record { spot = spot; cell = row } in
    let new : Cell = record row { value = v; removed = false } in
    let key = cell_at-key (cells_for (part_for h s k) k spot) k row had.there in
    let leaves = written-leaves_at h s k at new formed key (row-stands h s k spot row had less) in
    record {
      told = sym (has.same k ∙ ap value_of had.absent);
      left = put-pairs h s _ m k v spot (raised at new) has leaves.leaves refl refl;
    }
put-makes h k v s m o version formed has (does.MeetsWornRow spot row had last) =
    record { told = tt; left = has }
put-makes h k v s m o version formed has (does.Links spot left none free) =
    let leaves = row-leaves h s spot k v left formed version none in
    record {
      told = sym (has.same k ∙ ap value_of none.absent);
      left = put-pairs h s _ m k v spot (new_cell h k v) has leaves.leaves refl refl;
    }
put-makes h k v s m o version formed has (does.MeetsNoRow spot none free) =
    record { told = tt; left = has }

pub puts_put : PutsPut
puts_put h c k v s m rules formed has =
    put-makes h k v (located h c k s) m _ rules.most_first_version (probes-keep h s c _ formed)
    (same-pairs h s (located h c k s) m refl has) (put-does h c k v s)

remove-makes : (h : Shape) (k : ℕ) (s : Layout) (m : Map) (o : Outcome) → IsWellFormed h s →
    HasPairs h s m → RemoveDoes h k s o → MakesPairs h m k (map.remove m k) o
remove-makes h k s m o formed has (does.MeetsNone absent) =
    let none = has.same k ∙ ap value_of absent in
    record { told = sym none; left = rw (remove-absent m k none) has }
remove-makes h k s m o formed has (does.Removes at had less) =
    let new : Cell = record at.cell { value = 0; removed = true } in
    let leaves =
    written-leaves_at h s k at new formed had.there.key (value-stands h s k at formed had less) in
    record {
      told = sym (has.same k ∙ ap value_of had.live);
      left = removed-pairs h s _ m k at.spot (raised at new) has leaves.leaves refl;
    }
remove-makes h k s m o formed has (does.MeetsWorn at had last) = record { told = tt; left = has }

pub removes_remove : RemovesRemove
removes_remove h c k s m formed has =
    remove-makes h k (located h c k s) m _ (probes-keep h s c _ formed)
    (same-pairs h s (located h c k s) m refl has) (remove-does h c k s)

pub gets_look : GetsLook
gets_look h c k s m has =
    record { told = sym (has.same k); left = same-pairs h s (located h c k s) m refl has }
