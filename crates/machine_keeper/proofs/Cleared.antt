-- A part is cleared until its keeper opens a group, and again once the old groups are gone.
use Rattle.std.proofs.Common.{◌≡◌, ◌≢◌, ℕ, ◌+◌, ◌⊎◌, inl, inr, ⊎_elim, [], ◌∷◌, ◌++◌, refl, sym, ap}
use Rattle.std.proofs.Common.{◌∙◌, subst}
use mathlib.Core.Logic.{dite}
use native.Mathlib.Decide.{ℕ_discrete}
use Rattle.word_layout.proofs.PartGroups.{group-part}
use Rattle.word_layout.specs.declared.phase.Phase.TheVariants.{Frozen, Open, Opened}
use Rattle.index_machine.proofs.Executions.{choice-other, valid_before}
use Rattle.index_machine.proofs.OfParts.{group_in_part, one_part, opened_in_part, rebuild_in_part}
use Rattle.index_machine.proofs.OfParts.{spot_is_part, successor_exists, successor_in_part}
use Rattle.index_machine.proofs.Options.{some_is}
use Rattle.index_machine.specs.Conditions.{Valid}
use Rattle.index_machine.specs.Execution.{Execution, event}
use Rattle.index_machine.specs.Groups.{phase, rebuild}
use Rattle.index_machine.specs.Keepers.{IsPartKeeper, part_of}
use Rattle.index_machine.specs.KeyRanges.{group_of}
use Rattle.index_machine.specs.Permissions.{AreGone}
use Rattle.index_machine.specs.RebuildConditions.{MayInstall, part_of_spot}
use Rattle.index_machine.specs.Words.{limits, shape}
use Rattle.index_machine.specs.declared.events.Action.{Action}
use Rattle.index_machine.specs.declared.events.Action.TheVariants.{Freeze, Install, NewGroup}
use Rattle.index_machine.specs.declared.events.Action.TheVariants.{StoreOpened, Thaw}
use Rattle.index_machine.specs.declared.events.InstallWord.{InstallWord}
use Rattle.index_machine.specs.declared.opening.Opening.{Opening}
use Rattle.machine_barriers.proofs.OpenedGroups.{begun_back, frozen_not, gone_on, open_not, opened_back}
use Rattle.machine_barriers.proofs.OpenedGroups.{opened_groups_hold}
use Rattle.machine_barriers.proofs.Reaches.{may_as}
use Rattle.machine_chain.proofs.UnderWay.{under_way_holds}
use Rattle.machine_chain.specs.Chain.{IsUnderWay}
use Rattle.machine_chain.specs.Keepers.{KeeperOpensNone, OpensNoGroup}
use Rattle.machine_keeper.specs.Clearing.{ClearedPartsStay, GroupsOfClearedPartsAreNeededByNone}
use Rattle.machine_keeper.specs.Clearing.{IsCleared, PartsAreClearedAtFirst, RebuildsClearParts}

-- ---- one step ----

module _ (o : Opening) (t : Execution) (b : ℕ) (d : Action) (part : ℕ) (valid : Valid o (event b d ∷ t))
    (none : IsPartKeeper o b part → OpensNoGroup d) where
  -- what is opened in the part was opened before
  was_opened : (g f : ℕ) → part_of o g ≡ part → phase g (event b d ∷ t) ≡ Opened f → phase g t ≡ Opened f
  was_opened g f mine at = go d refl at
    where
      go : (e : Action) → d ≡ e → phase g (event b e ∷ t) ≡ Opened f → phase g t ≡ Opened f
      go (Freeze h) is now = (opened_back h g Frozen (phase g t) f frozen_not now).1
      go (Thaw h) is now = (opened_back h g Open (phase g t) f open_not now).1
      go (NewGroup h low high i) is now = (begun_back h g (phase g t) f now).2
      go (StoreOpened h i) is now = dite (ℕ_discrete h g)
          (λ (z : h ≡ g).
          let keeper = (may_as o t b d (StoreOpened h i) is valid.0).keeper in
          absurd (subst OpensNoGroup is
          (none (keeper ∙ ap (λ (p : ℕ). (limits o).callers + p) (ap (part_of o) z ∙ mine)))))
          (λ (n : h ≢ g). sym (choice-other h g (Opened i) (phase g t) n) ∙ now)
      go e is now = now

  -- the old groups of a rebuild of the part stay gone
  gone_still : (f : ℕ) → part_of o f ≡ part → AreGone o f t → AreGone o f (event b d ∷ t)
  gone_still f mine all h at =
      let named = opened_in_part o (event b d ∷ t) valid h f at in
      gone_on o t b d valid.0 (opened_groups_hold o t valid.1) h f
      (was_opened h f (sym named ∙ mine) at) all

  cleared_step : IsCleared o part t → IsCleared o part (event b d ∷ t)
  cleared_step cleared g f mine at =
      let of_f = opened_in_part o (event b d ∷ t) valid g f at ∙ mine in
      gone_still f of_f
      (λ h then. cleared h f (sym (opened_in_part o t valid.1 h f then) ∙ of_f) then) g at

-- ---- over an execution ----

pub cleared_on : ClearedPartsStay
cleared_on o part [] t valid none cleared = cleared
cleared_on o part (e ∷ newer) t valid none cleared =
    cleared_step o (newer ++ t) e.by e.action part valid none.0
    (cleared_on o part newer t valid.1 none.1 cleared)

pub cleared_at_first : PartsAreClearedAtFirst
cleared_at_first o part [] valid none = λ g f mine at. open_not at
cleared_at_first o part (e ∷ t) valid none =
    cleared_step o t e.by e.action part valid none.0 (cleared_at_first o part t valid.1 none.1)

-- ---- after an install ----

-- each opened group of the part is of this rebuild, or all old groups of its own are gone
abbrev IsClearedBut : Opening → ℕ → ℕ → Execution → Type 0
IsClearedBut o part first t =
    (g f : ℕ) → part_of o g ≡ part → phase g t ≡ Opened f → (f ≡ first) ⊎ AreGone o f t

but_step : (o : Opening) (t : Execution) (b : ℕ) (d : Action) (part first : ℕ) →
    Valid o (event b d ∷ t) → (IsPartKeeper o b part → OpensNoGroup d) →
    IsClearedBut o part first t → IsClearedBut o part first (event b d ∷ t)
but_step o t b d part first valid none old g f mine at = ⊎_elim
    (λ (z : f ≡ first). inl z)
    (λ (z : AreGone o f t).
    inr (gone_still o t b d part valid none f (opened_in_part o (event b d ∷ t) valid g f at ∙ mine) z))
    (old g f mine (was_opened o t b d part valid none g f mine at))

but_on : (o : Opening) (part first : ℕ) (newer t : Execution) → Valid o (newer ++ t) →
    KeeperOpensNone o part newer → IsClearedBut o part first t → IsClearedBut o part first (newer ++ t)
but_on o part first [] t valid none old = old
but_on o part first (e ∷ newer) t valid none old =
    but_step o (newer ++ t) e.by e.action part first valid none.0
    (but_on o part first newer t valid.1 none.1 old)

-- as a rebuild is installed, nothing is left of the others in its part
installed_but : (o : Opening) (t : Execution) (b : ℕ) (spot : InstallWord) (lead low high : ℕ) →
    Valid o (event b (Install spot lead low high) ∷ t) → IsClearedBut o (part_of_spot o spot) lead t
installed_but o t b spot lead low high valid g f mine at =
    let may : MayInstall o t b spot lead low high = valid.0 in
    let m = may.opened low may.first.0 in
    let new : m.1 ≡ lead = some_is (sym m.3 ∙ may.first.1) in
    let name : m.0 ≡ lead =
    some_is (sym m.4 ∙ (ap (λ (i : ℕ). rebuild i t) new ∙ may.named))
    in
    let under : IsUnderWay o lead t = (low, m.2 ∙ ap (λ (i : ℕ). Opened i) name) in
    let exists = successor_exists o t low lead valid.1 may.first.1 in
    let of_lead : part_of o lead ≡ part_of_spot o spot =
    one_part o (part_of o lead) (part_of_spot o spot) low (group-part (shape o) lead exists)
    (spot_is_part o t b spot lead low high valid.2 may)
    (successor_in_part o t low lead valid.1 may.first.1) may.in_part.0
    in
    ⊎_elim
    (λ (z : (f ≡ lead) × ((k : ℕ) × (group_of o k t ≡ g))). inl z.0)
    (λ (z : AreGone o f t). inr z)
    ((under_way_holds o t valid.1 lead under).alone g f (mine ∙ sym of_lead) at)

pub rebuilds_clear : RebuildsClearParts
rebuilds_clear o b spot lead low high newer t valid none all g f mine at =
    let T : Execution = event b (Install spot lead low high) ∷ t in
    let v = valid_before o newer T valid in
    let part : ℕ = part_of_spot o spot in
    ⊎_elim
    (λ (z : f ≡ lead). all g (at ∙ ap (λ (i : ℕ). Opened i) z))
    (λ (z : AreGone o f (newer ++ T)). z g at)
    (but_on o part lead newer T valid none
    (but_step o t b (Install spot lead low high) part lead v (λ is. tt)
    (installed_but o t b spot lead low high v)) g f mine at)

-- ---- in a cleared part ----

pub needed_by_none : GroupsOfClearedPartsAreNeededByNone
needed_by_none o t valid part is_part cleared = (
  λ k f key at.
      (cleared (group_of o k t) f (group_in_part o t part k valid is_part key) at).unowned k refl,
  λ g mine. record {
    settled = λ f at h then.
        cleared h f
        (sym (opened_in_part o t valid h f then) ∙ (opened_in_part o t valid g f at ∙ mine)) then;
    replaced = λ h at. cleared h g (sym (opened_in_part o t valid h g at) ∙ mine) at;
    past = λ f made h at.
        cleared h f
        (sym (opened_in_part o t valid h f at) ∙ (rebuild_in_part o t valid g f made ∙ mine)) at;
  },
)
