-- Calls keep layouts well-formed, and keep their rows.
use Rattle.std.proofs.Common.{◌≡◌, ℕ, suc, ◌<◌, Bool, true, false, List, [], ◌∷◌, length, map, refl, sym, ◌∙◌, ap, arith, inl, inr}
use Rattle.std.proofs.lemmas.Bool.{cases_eq, eq-eqb, ne_eqb}
use Rattle.std.proofs.lemmas.List.{get_or-map, length-map}
use Rattle.std.proofs.lemmas.List.Sums.{sum-map}
use Rattle.std.specs.Prelude.{sum, sum_by}
use Rattle.word_layout.specs.Limits.{KeepsRulesIn}
use Rattle.word_layout.specs.Shape.{Shape, parts_in}
use Rattle.layout_model.specs.Calls.{Outcome, last_version, located, with_probes, with_row, with_written}
use Rattle.layout_model.specs.Cells.{Cell}
use Rattle.layout_model.specs.Layout.{Layout, Part, no_part, part_at, part_for, part_number, with_caller}
use Rattle.layout_model.specs.Records.{Found, HasRemovedRow, Spot, cells_for}
use Rattle.layout_model.specs.Replay.{free, with_awaited}
use Rattle.layout_model.specs.RowLaws.{FreesKeepLayouts, GetsKeepLayouts, HoldsKeepLayouts, IsSound, PutsKeepLayouts, RemovesKeepLayouts, ScansKeepLayouts, part_rows}
use Rattle.layout_model.specs.WellFormed.{IsWellFormed, IsWellFormedPart}
use Rattle.layout_model.proofs.Cases.{HasValue, PutDoes, RemoveDoes, put-does, remove-does}
use Rattle.layout_model.proofs.Cases as does
use Rattle.layout_model.proofs.CallsLeave.{LeavesRow, LeavesWritten, StandsAt, row-leaves, written-leaves_at}
use Rattle.layout_model.proofs.Finding.{cell_at-key}
use Rattle.layout_model.proofs.KeptParts.{cursor-same}
use Rattle.layout_model.proofs.Positions.{part_number-within}
use Rattle.layout_model.proofs.Values.{no_value, value_there}

-- ---- records that are written ----

-- a record with a value is the only one of its key
pub value-stands : (h : Shape) (s : Layout) (k : ℕ) (at : Found) → IsWellFormed h s →
    HasValue (part_for h s k) k at → (at.cell.version ≡ last_version → ⊥) → StandsAt h s k at
value-stands h s k at formed has less =
    let part = formed.parts (part_number h k) (part_number-within h k) in
    record {
      only =
          λ other also.
          part.one_value k other at.spot also (value_there (part_for h s k) k at has);
      there = has.there.there;
      less = less;
    }

-- a removed row, where no record of its key has a value
pub row-stands : (h : Shape) (s : Layout) (k : ℕ) (spot : Spot) (row : Cell) →
    HasRemovedRow (part_for h s k) k spot row → (row.version ≡ last_version → ⊥) →
    StandsAt h s k (record { spot = spot; cell = row })
row-stands h s k spot row has less =
    record {
      only = λ other also. absurd (no_value (part_for h s k) k has.absent other also);
      there = has.there;
      less = less;
    }

-- ---- what is kept ----

-- a layout that differs in probes alone
pub probes-keep : (h : Shape) (s : Layout) (c more : ℕ) → IsWellFormed h s →
    IsWellFormed h (with_probes c more s)
probes-keep h s c more formed =
    record { many = formed.many; parts = formed.parts; awaited = formed.awaited }

pub probes-sound : (h : Shape) (s : Layout) (c more : ℕ) → IsSound h s →
    IsSound h (with_probes c more s)
probes-sound h s c more sound =
    record { formed = probes-keep h s c more sound.formed; rows = sound.rows; groups = sound.groups }

written-sound : (h : Shape) (s : Layout) (k : ℕ) (at : Found) (new : Cell) → IsSound h s →
    LeavesWritten h s k at new → IsSound h (with_written h at new s)
written-sound h s k at new sound leaves =
    record {
      formed = leaves.leaves.formed;
      rows = rw leaves.rows sound.rows;
      groups = λ i part. rw (leaves.leaves.groups i) (sound.groups i part);
    }

row-sound : (h : Shape) (s : Layout) (spot : Spot) (k v left : ℕ) → IsSound h s →
    suc left ≡ s.free_rows → LeavesRow h s spot k v left → IsSound h (with_row h spot k v left s)
row-sound h s spot k v left sound free leaves =
    let rows = leaves.rows in
    let all = sound.rows in
    record {
      formed = leaves.leaves.formed;
      rows = omega (arith, rows, all, free);
      groups = λ i part. rw (leaves.leaves.groups i) (sound.groups i part);
    }

-- ---- put and remove ----

put-sound : (h : Shape) (k v : ℕ) (s : Layout) (o : Outcome) → KeepsRulesIn h → IsSound h s →
    PutDoes h k v s o → IsSound h o.left
put-sound h k v s o rules sound (does.Overwrites at has less) =
    written-sound h s k at _ sound
    (written-leaves_at h s k at (record at.cell { value = v }) sound.formed has.there.key
    (value-stands h s k at sound.formed has less))
put-sound h k v s o rules sound (does.MeetsWornValue at has last) = sound
put-sound h k v s o rules sound (does.MeetsFrozen is) = sound
put-sound h k v s o rules sound (does.Revives spot row has less) =
    let at : Found = record { spot = spot; cell = row } in
    written-sound h s k at _ sound
    (written-leaves_at h s k at (record row { value = v; removed = false }) sound.formed
    (cell_at-key (cells_for (part_for h s k) k spot) k row has.there)
    (row-stands h s k spot row has less))
put-sound h k v s o rules sound (does.MeetsWornRow spot row has last) = sound
put-sound h k v s o rules sound (does.Links spot left none free) =
    row-sound h s spot k v left sound free
    (row-leaves h s spot k v left sound.formed rules.most_first_version none)
put-sound h k v s o rules sound (does.MeetsNoRow spot none free) = sound

pub puts_keep : PutsKeepLayouts
puts_keep h c k v s rules sound =
    put-sound h k v (located h c k s) _ rules (probes-sound h s c _ sound) (put-does h c k v s)

remove-sound : (h : Shape) (k : ℕ) (s : Layout) (o : Outcome) → IsSound h s → RemoveDoes h k s o →
    IsSound h o.left
remove-sound h k s o sound (does.MeetsNone absent) = sound
remove-sound h k s o sound (does.Removes at has less) =
    written-sound h s k at _ sound
    (written-leaves_at h s k at (record at.cell { value = 0; removed = true }) sound.formed
    has.there.key (value-stands h s k at sound.formed has less))
remove-sound h k s o sound (does.MeetsWorn at has last) = sound

pub removes_keep : RemovesKeepLayouts
removes_keep h c k s sound =
    remove-sound h k (located h c k s) _ (probes-sound h s c _ sound) (remove-does h c k s)

-- ---- get and scan ----

pub gets_keep : GetsKeepLayouts
gets_keep h c k s sound = probes-sound h s c _ sound

pub scans_keep : ScansKeepLayouts
scans_keep h c from wanted s sound = probes-sound h s c _ sound

-- ---- callers who are held and freed ----

-- whoever was held is held once one more caller is
held-more : (c other : ℕ) (held : ℕ → Bool) → held other ≡ true →
    with_caller c true held other ≡ true
held-more c other held is =
    elim (cases_eq c other) [
      | inl same ↦ rw (eq-eqb c other same) refl
      | inr apart ↦ rw (ne_eqb c other apart) is
    ]

pub holds_keep : HoldsKeepLayouts
holds_keep h c s sound =
    record {
      formed =
          record {
            many = sound.formed.many;
            parts = sound.formed.parts;
            awaited =
                λ i part other awaits.
                held-more c other s.held (sound.formed.awaited i part other awaits);
          };
      rows = sound.rows;
      groups = sound.groups;
    }

-- a caller who is not freed is awaited and held as before
freed-less : (c other : ℕ) (awaited held : ℕ → Bool) →
    (awaited other ≡ true → held other ≡ true) → with_caller c false awaited other ≡ true →
    with_caller c false held other ≡ true
freed-less c other awaited held was is =
    elim (cases_eq c other) [
      | inl same ↦ cc (rw (eq-eqb c other same) at is)
      | inr apart ↦ rw (ne_eqb c other apart) (was (rw (ne_eqb c other apart) at is))
    ]

-- whom a barrier waits for matters to nothing else of a part
awaited-formed : (h : Shape) (i : ℕ) (p : Part) (callers : ℕ → Bool) → IsWellFormedPart h i p →
    IsWellFormedPart h i (with_awaited callers p)
awaited-formed h i p callers formed =
    record {
      some = formed.some;
      first = formed.first;
      chain = formed.chain;
      span = formed.span;
      fits = formed.fits;
      phases = formed.phases;
      coming = formed.coming;
      coming_at = formed.coming_at;
      coming_phases = formed.coming_phases;
      one_value =
          λ k one other has also.
          formed.one_value k one other (record { cell = has.cell; live = has.live })
          (record { cell = also.cell; live = also.live });
      gone = formed.gone;
      cursor = cursor-same p.stage p (with_awaited callers p) refl refl formed.cursor;
      slots = formed.slots;
    }

-- the part whose barrier waits no more for a caller
abbrev without : ℕ → Part → Part
without c p = with_awaited (with_caller c false p.awaited) p

freed-part : (c i : ℕ) (s : Layout) → i < length s.parts →
    part_at (free c s) i ≡ without c (part_at s i)
freed-part c i s within = get_or-map (without c) s.parts i no_part no_part within

same-rows : (c : ℕ) (parts : List Part) → map part_rows (map (without c) parts) ≡ map part_rows parts
same-rows c [] = refl
same-rows c (p ∷ ps) = ap (λ (rest : List ℕ). part_rows p ∷ rest) (same-rows c ps)

freed-rows : (c : ℕ) (parts : List Part) →
    sum_by part_rows (map (without c) parts) ≡ sum_by part_rows parts
freed-rows c parts =
    sym (sum-map part_rows (map (without c) parts))
    ∙ (ap sum (same-rows c parts) ∙ sum-map part_rows parts)

pub frees_keep : FreesKeepLayouts
frees_keep h c s sound =
    let formed = sound.formed in
    let long = length-map s.parts (without c) in
    let is = λ (i : ℕ) (part : i < parts_in h). freed-part c i s (rw formed.many part) in
    record {
      formed =
          record {
            many = rw long formed.many;
            parts =
                λ i part.
                rw (is i part)
                (awaited-formed h i (part_at s i) (with_caller c false (part_at s i).awaited)
                (formed.parts i part));
            awaited =
                λ i part other awaits.
                freed-less c other (part_at s i).awaited s.held (formed.awaited i part other)
                (rw (is i part) at awaits);
          };
      rows = rw (freed-rows c s.parts) sound.rows;
      groups = λ i part. rw (is i part) (sound.groups i part);
    }
