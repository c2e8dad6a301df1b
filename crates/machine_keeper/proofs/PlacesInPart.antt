-- The places of a group have keys of the group's part.
use Rattle.std.proofs.Common.{◌≡◌, ℕ, ◌≤◌, inl, inr, ⊎_elim, Some, [], ◌∷◌, sym, ap, ◌∙◌, subst}
use Rattle.word_layout.specs.Parts.{greatest_key, part_with}
use Rattle.word_layout.proofs.PartGroups.{group-part, part_with-has, part_with-key, part_with-within}
use Rattle.word_layout.specs.declared.phase.Phase.TheVariants.{Opened}
use Rattle.index_machine.proofs.OfParts.{group_in_part, successor_exists, successor_in_part}
use Rattle.index_machine.proofs.OpeningPlan.{opening_group-part}
use Rattle.index_machine.proofs.OpeningRows.{opening_role-array, opening_role-buffer}
use Rattle.index_machine.specs.Conditions.{Valid}
use Rattle.index_machine.specs.Execution.{Execution, event}
use Rattle.index_machine.specs.Groups.{phase}
use Rattle.index_machine.specs.Keepers.{part_of}
use Rattle.index_machine.specs.KeyRanges.{group_of, successor}
use Rattle.index_machine.specs.Permissions.{IsBufferFor}
use Rattle.index_machine.specs.Places.{IsInGroup}
use Rattle.index_machine.specs.Rows.{InArray, InBuffer, role}
use Rattle.index_machine.specs.Words.{shape}
use Rattle.index_machine.specs.declared.events.Action.{Action}
use Rattle.index_machine.specs.declared.events.Action.TheVariants.{LinkRow, StoreRedirect}
use Rattle.index_machine.specs.declared.opening.Opening.{Opening}
use Rattle.machine_barriers.proofs.Reaches.{may_as}
use Rattle.machine_readers.proofs.Roles.{IsLinkOf, array_back, row_back}

-- the key of a place is one of the part of the place's group
abbrev pub PlacesInPart : Opening → Execution → Type 0
PlacesInPart o t =
    (g k p : ℕ) → IsInGroup o t g k p → k ≤ greatest_key → part_of o g ≡ part_with (shape o).bounds k

-- a new group is of the part of its keys
new_in_part : (o : Opening) (t : Execution) (k g : ℕ) → Valid o t → successor k t ≡ Some g →
    part_of o g ≡ part_with (shape o).bounds k
new_in_part o t k g valid is =
    sym (part_with-key (shape o).bounds (part_of o g) k o.layout.cut
    (group-part (shape o) g (successor_exists o t k g valid is)) (successor_in_part o t k g valid is))

-- so is the group of a key
pub owner_in_part : (o : Opening) (t : Execution) (k g : ℕ) → Valid o t → k ≤ greatest_key →
    group_of o k t ≡ g → part_of o g ≡ part_with (shape o).bounds k
owner_in_part o t k g valid small is =
    ap (part_of o) (sym is)
    ∙ group_in_part o t (part_with (shape o).bounds k) k valid
    (part_with-within (shape o).bounds k) (part_with-has (shape o).bounds k o.layout.cut small)

places_step : (o : Opening) (t : Execution) (b : ℕ) (d : Action) → Valid o (event b d ∷ t) →
    PlacesInPart o t → PlacesInPart o (event b d ∷ t)
places_step o t b d valid old g k p s small = ⊎_elim
    (λ (e : role o p (event b d ∷ t) ≡ InArray g k). ⊎_elim
    (λ (z : role o p t ≡ InArray g k). old g k p (inl z) small)
    (λ (z : (to : ℕ) × (d ≡ StoreRedirect g p k to)).
    new_in_part o t k g valid.1 (may_as o t b d (StoreRedirect g p k z.0) z.1 valid.0).belongs)
    (array_back o t b d p g k e))
    (λ (e : role o p (event b d ∷ t) ≡ InBuffer g k). ⊎_elim
    (λ (z : role o p t ≡ InBuffer g k). old g k p (inr z) small)
    (λ (z : IsLinkOf g p k d).
    let m = may_as o t b d (LinkRow g z.lane p z.change z.before z.next) z.is valid.0 in
    let of_key = subst (λ (j : ℕ). IsBufferFor o j g t) z.key m.belongs in
    ⊎_elim (λ (y : group_of o k t ≡ g). owner_in_part o t k g valid.1 small y)
    (λ (y : (f : ℕ) × (phase (group_of o k t) t ≡ Opened f) × (successor k t ≡ Some g)).
    new_in_part o t k g valid.1 y.2) of_key)
    (row_back o t b d p g k e))
    s

pub places_in_part : (o : Opening) (t : Execution) → Valid o t → PlacesInPart o t
places_in_part o [] valid = λ g k p s small. ⊎_elim
    (λ (e : role o p [] ≡ InArray g k).
    ap (part_of o) (opening_role-array o p g k e).0 ∙ opening_group-part o k small)
    (λ (e : role o p [] ≡ InBuffer g k). opening_role-buffer o p g k e)
    s
places_in_part o (e ∷ t) valid = places_step o t e.by e.action valid (places_in_part o t valid.1)
