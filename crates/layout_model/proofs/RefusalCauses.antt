-- Exactly when a put and a remove are refused, by what they come to.
use Rattle.std.proofs.Common.{◌≡◌, ◌⊎◌, ◌↔◌, ℕ, Some, None, refl, sym, ◌∙◌, arith, inl, inr}
use Rattle.word_layout.specs.Shape.{Shape}
use Rattle.layout_model.specs.CallLaws.{ChangesOnlyProbes}
use Rattle.layout_model.specs.Calls.{AgainFrozen, Full, Outcome, Worn, located, last_version, probes_for_key}
use Rattle.layout_model.specs.Cells.{Cell}
use Rattle.layout_model.specs.Layout.{Layout, Part, part_for}
use Rattle.layout_model.specs.Records.{Found, HasNoRow, HasRemovedRow, IsFrozenFor, Spot}
use Rattle.layout_model.specs.Refusals.{HasWornRow, HasWornValue, IsDoneOrWorn, IsFullFor, IsRefusal, PutsAreFrozen, PutsAreFull, PutsAreWorn, RefusedPutsChangeOnlyProbes, RefusedRemovesChangeOnlyProbes, RemovesAreDoneOrWorn, RemovesAreWorn}
use Rattle.layout_model.proofs.CallChanges.{one_spot, probes-added}
use Rattle.layout_model.proofs.Cases.{HasValue, PutDoes, RemoveDoes, put-does, remove-does}
use Rattle.layout_model.proofs.Cases as does

-- ---- full ----

put-full : (h : Shape) (c k v : ℕ) (s : Layout) (o : Outcome) →
    PutDoes h k v (located h c k s) o → (o.reply ≡ Full) ↔ IsFullFor h s k
put-full h c k v s o (does.Overwrites at has less) =
    (λ e. cc, λ full. cc (has.live, full.no_row.absent))
put-full h c k v s o (does.MeetsWornValue at has last) =
    (λ e. cc, λ full. cc (has.live, full.no_row.absent))
put-full h c k v s o (does.MeetsFrozen is) =
    (λ e. cc, λ full. cc (rw is.frozen at full.no_row.named))
put-full h c k v s o (does.Revives spot row has less) =
    (λ e. cc, λ full. absurd (one_spot (part_for h s k) k spot full.spot row has full.no_row))
put-full h c k v s o (does.MeetsWornRow spot row has last) =
    (λ e. cc, λ full. absurd (one_spot (part_for h s k) k spot full.spot row has full.no_row))
put-full h c k v s o (does.Links spot left none free) =
    (λ e. cc, λ full. absurd (omega (arith, full.none_free, free)))
put-full h c k v s o (does.MeetsNoRow spot none free) =
    (λ e. record { spot = spot; no_row = none; none_free = free }, λ full. refl)

pub puts_are_full : PutsAreFull
puts_are_full h c k v s = put-full h c k v s _ (put-does h c k v s)

-- ---- worn ----

-- the record that a put of the key writes has the last version
abbrev MeetsWornRecord : Part → ℕ → Type 0
MeetsWornRecord p k = HasWornValue p k ⊎ HasWornRow p k

-- a value that is not worn is the only one
value_less : (p : Part) (k : ℕ) (at : Found) → HasValue p k at → (at.cell.version ≡ last_version → ⊥) →
    MeetsWornRecord p k → ⊥
value_less p k at has less (inl value) =
    let same : Some at ≡ Some value.at = sym has.live ∙ value.live in
    let is : at ≡ value.at = cc in
    less (rw is value.worn)
value_less p k at has less (inr row) = cc (has.live, row.row.absent)

-- a removed row that is not worn is the only one
row_less : (p : Part) (k : ℕ) (spot : Spot) (row : Cell) → HasRemovedRow p k spot row →
    (row.version ≡ last_version → ⊥) → MeetsWornRecord p k → ⊥
row_less p k spot row has less (inl value) = cc (has.absent, value.live)
row_less p k spot row has less (inr worn) =
    let same : Some spot ≡ Some worn.spot = sym has.named ∙ worn.row.named in
    let named : worn.spot ≡ spot = cc in
    let there = rw named at worn.row.there in
    let found : Some row ≡ Some worn.cell = sym has.there ∙ there in
    let is : row ≡ worn.cell = cc in
    less (rw is worn.worn)

-- a key without a row at its spot has no worn one
none_worn : (p : Part) (k : ℕ) (spot : Spot) → HasNoRow p k spot → MeetsWornRecord p k → ⊥
none_worn p k spot none (inl value) = cc (none.absent, value.live)
none_worn p k spot none (inr worn) = one_spot p k worn.spot spot worn.cell worn.row none

-- nor has one whose group is frozen
frozen_worn : (p : Part) (k : ℕ) → IsFrozenFor p k → MeetsWornRecord p k → ⊥
frozen_worn p k is (inl value) = cc (is.absent, value.live)
frozen_worn p k is (inr worn) = cc (rw is.frozen at worn.row.named)

put-worn : (h : Shape) (c k v : ℕ) (s : Layout) (o : Outcome) →
    PutDoes h k v (located h c k s) o → (o.reply ≡ Worn) ↔ MeetsWornRecord (part_for h s k) k
put-worn h c k v s o (does.Overwrites at has less) =
    (λ e. cc, λ worn. absurd (value_less (part_for h s k) k at has less worn))
put-worn h c k v s o (does.MeetsWornValue at has last) =
    (λ e. inl (record { at = at; live = has.live; worn = last }), λ worn. refl)
put-worn h c k v s o (does.MeetsFrozen is) =
    (λ e. cc, λ worn. absurd (frozen_worn (part_for h s k) k is worn))
put-worn h c k v s o (does.Revives spot row has less) =
    (λ e. cc, λ worn. absurd (row_less (part_for h s k) k spot row has less worn))
put-worn h c k v s o (does.MeetsWornRow spot row has last) =
    (λ e. inr (record { spot = spot; cell = row; row = has; worn = last }), λ worn. refl)
put-worn h c k v s o (does.Links spot left none free) =
    (λ e. cc, λ worn. absurd (none_worn (part_for h s k) k spot none worn))
put-worn h c k v s o (does.MeetsNoRow spot none free) =
    (λ e. cc, λ worn. absurd (none_worn (part_for h s k) k spot none worn))

pub puts_are_worn : PutsAreWorn
puts_are_worn h c k v s = put-worn h c k v s _ (put-does h c k v s)

remove-worn : (h : Shape) (c k : ℕ) (s : Layout) (o : Outcome) →
    RemoveDoes h k (located h c k s) o → (o.reply ≡ Worn) ↔ HasWornValue (part_for h s k) k
remove-worn h c k s o (does.MeetsNone absent) = (λ e. cc, λ worn. cc (absent, worn.live))
remove-worn h c k s o (does.Removes at has less) =
    (λ e. cc, λ worn. absurd (value_less (part_for h s k) k at has less (inl worn)))
remove-worn h c k s o (does.MeetsWorn at has last) =
    (λ e. record { at = at; live = has.live; worn = last }, λ worn. refl)

pub removes_are_worn : RemovesAreWorn
removes_are_worn h c k s = remove-worn h c k s _ (remove-does h c k s)

remove-ends : (h : Shape) (c k : ℕ) (s : Layout) (o : Outcome) →
    RemoveDoes h k (located h c k s) o → IsDoneOrWorn o.reply
remove-ends h c k s o (does.MeetsNone absent) = inl (None, refl)
remove-ends h c k s o (does.Removes at has less) = inl (Some at.cell.value, refl)
remove-ends h c k s o (does.MeetsWorn at has last) = inr refl

pub removes_are_done_or_worn : RemovesAreDoneOrWorn
removes_are_done_or_worn h c k s = remove-ends h c k s _ (remove-does h c k s)

-- ---- frozen ----

put-frozen : (h : Shape) (c k v : ℕ) (s : Layout) (o : Outcome) →
    PutDoes h k v (located h c k s) o → (o.reply ≡ AgainFrozen) ↔ IsFrozenFor (part_for h s k) k
put-frozen h c k v s o (does.Overwrites at has less) = (λ e. cc, λ is. cc (has.live, is.absent))
put-frozen h c k v s o (does.MeetsWornValue at has last) = (λ e. cc, λ is. cc (has.live, is.absent))
put-frozen h c k v s o (does.MeetsFrozen is) = (λ e. is, λ _. refl)
put-frozen h c k v s o (does.Revives spot row has less) =
    (λ e. cc, λ is. cc (rw is.frozen at has.named))
put-frozen h c k v s o (does.MeetsWornRow spot row has last) =
    (λ e. cc, λ is. cc (rw is.frozen at has.named))
put-frozen h c k v s o (does.Links spot left none free) =
    (λ e. cc, λ is. cc (rw is.frozen at none.named))
put-frozen h c k v s o (does.MeetsNoRow spot none free) =
    (λ e. cc, λ is. cc (rw is.frozen at none.named))

pub puts_are_frozen : PutsAreFrozen
puts_are_frozen h c k v s = put-frozen h c k v s _ (put-does h c k v s)

-- ---- what a refused call leaves ----

located-changes : (h : Shape) (c k : ℕ) (s : Layout) →
    ChangesOnlyProbes c (probes_for_key h s k) s (located h c k s)
located-changes h c k s =
    record {
      parts = refl;
      free_rows = refl;
      held = refl;
      probes = probes-added c (probes_for_key h s k) s (located h c k s) refl;
    }

put-refused : (h : Shape) (c k v : ℕ) (s : Layout) (o : Outcome) →
    PutDoes h k v (located h c k s) o → IsRefusal o.reply →
    ChangesOnlyProbes c (probes_for_key h s k) s o.left
put-refused h c k v s o (does.Overwrites at has less) refused = absurd refused
put-refused h c k v s o (does.MeetsWornValue at has last) refused = located-changes h c k s
put-refused h c k v s o (does.MeetsFrozen is) refused = located-changes h c k s
put-refused h c k v s o (does.Revives spot row has less) refused = absurd refused
put-refused h c k v s o (does.MeetsWornRow spot row has last) refused = located-changes h c k s
put-refused h c k v s o (does.Links spot left none free) refused = absurd refused
put-refused h c k v s o (does.MeetsNoRow spot none free) refused = located-changes h c k s

pub refused_puts_change_only_probes : RefusedPutsChangeOnlyProbes
refused_puts_change_only_probes h c k v s = put-refused h c k v s _ (put-does h c k v s)

remove-refused : (h : Shape) (c k : ℕ) (s : Layout) (o : Outcome) →
    RemoveDoes h k (located h c k s) o → IsRefusal o.reply →
    ChangesOnlyProbes c (probes_for_key h s k) s o.left
remove-refused h c k s o (does.MeetsNone absent) refused = absurd refused
remove-refused h c k s o (does.Removes at has less) refused = absurd refused
remove-refused h c k s o (does.MeetsWorn at has last) refused = located-changes h c k s

pub refused_removes_change_only_probes : RefusedRemovesChangeOnlyProbes
refused_removes_change_only_probes h c k s = remove-refused h c k s _ (remove-does h c k s)
