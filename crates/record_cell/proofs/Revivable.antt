-- What a caller may revive it may revive to the end of its read section: as long as the row is a tombstone,
-- its key has no live place.
--
-- The fact to remember: nobody has an insert permission into an opened group, and in a group that was seen
-- open the key's row is the tombstone itself.
use Rattle.std.proofs.Common.{◌≡◌, inl, inr, ⊎_elim, ℕ, true, Some, None, []}
use Rattle.std.proofs.Common.{◌++◌, refl, sym, ap, ◌∙◌, subst}
use Rattle.word_layout.specs.declared.phase.Phase.TheVariants.{Opened}
use Rattle.index_machine.specs.declared.opening.Opening.{Opening}
use Rattle.index_machine.specs.Conditions.{Valid}
use Rattle.index_machine.specs.Execution.{Execution}
use Rattle.index_machine.specs.Forms.{is_removed}
use Rattle.index_machine.specs.Groups.{phase}
use Rattle.index_machine.specs.KeyRanges.{group_of, successor}
use Rattle.index_machine.specs.LivePlaces.{live_place}
use Rattle.index_machine.specs.Permissions.{IsBufferFor, MayInsertInto}
use Rattle.index_machine.specs.Places.{form}
use Rattle.index_machine.specs.Rows.{InArray, InBuffer, Role, role, role_key}
use Rattle.index_machine.specs.Sections.{IsCaller}
use Rattle.machine_readers.proofs.FormsMet.{groups_hold}
use Rattle.machine_readers.proofs.FromOpening.{one_place_each}
use Rattle.machine_readers.specs.Readers.{BufferHasNone}
use Rattle.machine_readers.specs.Redirects.{RedirectsInto}
use Rattle.machine_readers.specs.Targets.{IsDirect}
use Rattle.index_rule.specs.Records.{IsRevivable, key_at, or_zero}
use Rattle.index_rule.specs.Elsewhere.{HasNoneBehindOpened, HasNoneElsewhere}
use Rattle.index_rule.proofs.Elsewhere.{IsOpenTo, KnowsNoneElsewhere, elsewhere_now, elsewhere_on}
use Rattle.index_rule.proofs.Elsewhere.{lives_nowhere}
use Rattle.record_cell.specs.Reviving.{WhatMayBeRevivedStaysSo}
use Rattle.index_rule.proofs.Standing.{at_role}
use Rattle.index_machine.proofs.Executions.{valid_before}

-- the caller has an insert permission
permission : (o : Opening) (c k g : ℕ) (t : Execution) → KnowsNoneElsewhere o c k g t →
    MayInsertInto c g t
permission o c k g t either =
    ⊎_elim (λ (w : IsOpenTo o c k g t). inl w.seen)
    (λ (w : HasNoneBehindOpened o c k g t). inr (w.first, w.made, w.seen)) either

-- the key's row belongs in the group
belongs : (o : Opening) (c k g : ℕ) (t : Execution) → KnowsNoneElsewhere o c k g t →
    IsBufferFor o k g t
belongs o c k g t either =
    ⊎_elim (λ (w : IsOpenTo o c k g t). inl w.of_key)
    (λ (w : HasNoneBehindOpened o c k g t). ⊎_elim
    (λ (z : (group_of o k t ≡ w.old) × (phase w.old t ≡ Opened w.first)
    × (successor k t ≡ Some g)). inr (w.first, ap (λ (i : ℕ). phase i t) z.0 ∙ z.1, z.2))
    (λ (z : (group_of o k t ≡ g)
    × ((a : ℕ) → role o a t ≡ InArray g k → RedirectsInto o t w.old k a)). inl z.0)
    w.behind) either

-- so the row is a record itself
pub row_is_direct : (o : Opening) (c k g place : ℕ) (t : Execution) → Valid o t →
    KnowsNoneElsewhere o c k g t → role o place t ≡ InBuffer g k → IsDirect (form o place t)
row_is_direct o c k g place t valid either row =
    (groups_hold o t valid g k (belongs o c k g t either)).rows place row

-- so while the row is removed, it may come to life
pub revivable : (o : Opening) (c k g place : ℕ) (t : Execution) → IsCaller o c → Valid o t →
    KnowsNoneElsewhere o c k g t → role o place t ≡ InBuffer g k →
    is_removed (form o place t) ≡ true → IsRevivable o c place t
revivable o c k g place t is valid either row gone =
    let key : k ≡ key_at o place t = sym (ap (λ (r : Role). or_zero (role_key r)) row) in
    let may = lives_nowhere o c k g t is valid either rows in
    subst
    (λ (j : ℕ). (group : ℕ) × (role o place t ≡ InBuffer group j) × MayInsertInto c group t
    × IsBufferFor o j group t × (live_place o j t ≡ None)) key
    (g, row, permission o c k g t either, may.0, may.1)
  where
    rows : BufferHasNone o t g k
    rows p there =
        ap (λ (z : ℕ). is_removed (form o z t))
        ((one_place_each o t valid).rows p place g k there row) ∙ gone

-- ---- the law ----

-- what the caller knows now is what it may be asked for
as_asked : (o : Opening) (c k g : ℕ) (t : Execution) → KnowsNoneElsewhere o c k g t →
    HasNoneElsewhere o c k g t
as_asked o c k g t either =
    ⊎_elim
    (λ (w : IsOpenTo o c k g t).
    inl
    (record {
      stood = record {
        earlier = t;
        newer = [];
        since = refl;
        stays = tt;
        stands = w.stands;
        of_key = w.of_key;
      };
      seen = w.seen;
      array = w.array;
    }))
    (λ (w : HasNoneBehindOpened o c k g t). inr w) either

pub stays_revivable : WhatMayBeRevivedStaysSo
stays_revivable o c place n t valid stay at may =
    let is = at.reading.caller in
    record {
      group = may.group;
      key = may.key;
      row = at_role o c place n t valid stay at ∙ may.row;
      elsewhere = as_asked o c may.key may.group (n ++ t)
          (elsewhere_on o c may.key may.group is n t valid stay
          (elsewhere_now o c may.key may.group t is (valid_before o n t valid) may.elsewhere));
    }
