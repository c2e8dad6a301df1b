-- Keys have groups of the table, and what is no key has none; a group that had a key before answers
-- for none.
use Rattle.std.proofs.Common.{◌≡◌, ℕ, ◌<◌, ◌≤◌, ◌⊎◌, ⊎_elim, Some, Bool, true}
use Rattle.std.proofs.Common.{false, [], ◌∷◌, refl, sym, ap, ◌∙◌, subst, cond, arith}
use Rattle.word_layout.specs.Shape.{group_total}
use Rattle.index_machine.proofs.OfParts.{key_most}
use Rattle.index_machine.proofs.OpeningGroups.{opening_next-none}
use Rattle.index_machine.proofs.OpeningPlan.{opening_group-beyond, opening_group-exists}
use Rattle.index_machine.specs.Keepers.{part_of}
use Rattle.index_machine.specs.Conditions.{Allowed, Valid}
use Rattle.index_machine.specs.Execution.{Execution, event}
use Rattle.index_machine.specs.Groups.{phase, rebuild, unless_named}
use Rattle.index_machine.specs.KeyRanges.{group_of, predecessor, successor}
use Rattle.index_machine.specs.Openings.{within}
use Rattle.word_layout.specs.Parts.{greatest_key}
use Rattle.index_machine.specs.RebuildConditions.{MayInstall}
use Rattle.index_machine.specs.Words.{shape}
use Rattle.index_machine.specs.declared.events.Action.{Action}
use Rattle.index_machine.specs.declared.events.Action.TheVariants.{Install, NewGroup, StoreHeader}
use Rattle.index_machine.specs.declared.events.InstallWord.{InstallWord}
use Rattle.index_machine.specs.declared.events.InstallWord.TheVariants.{NextOf}
use Rattle.index_machine.specs.declared.opening.Opening.{Opening}
use Rattle.machine_barriers.proofs.OpenedGroups.{open_not}
use Rattle.machine_barriers.proofs.Reaches.{may_as}
use Rattle.machine_buffers.proofs.OutOfUse.{group_in, group_out}
use Rattle.machine_chain.proofs.Chained.{install_keys, left_of}
use Rattle.index_machine.proofs.Ranges.{in_range}
use Rattle.machine_chain.proofs.Cases.{both_ways, in_or_out}
use Rattle.machine_chain.proofs.UnderWay.{under_way_holds}
use Rattle.machine_chain.proofs.Words.{ChangesNext, next_kept}
use Rattle.machine_chain.specs.Chain.{KeysHaveGroups, OldAreUnchained, next_of}
use Rattle.index_machine.proofs.Options.{named_before, none_some, some_is}
use Rattle.machine_readers.proofs.InstalledRedirects.{remembered_back}
use Rattle.machine_readers.proofs.StandingCallers.{groups_before_are_opened}
use Rattle.word_layout.specs.declared.headers.HeaderWord.TheVariants as header

-- the group before, after an install that has the key, and after one that has not
pub before_in : (o : Opening) (t : Execution) (b : ℕ) (spot : InstallWord) (lead low high k : ℕ) →
    within low k high ≡ true →
    predecessor o k (event b (Install spot lead low high) ∷ t) ≡ Some (group_of o k t)
before_in o t b spot lead low high k here =
    ap (λ (i : Bool). cond i (Some (group_of o k t)) (predecessor o k t)) here

pub before_out : (o : Opening) (t : Execution) (b : ℕ) (spot : InstallWord) (lead low high k : ℕ) →
    within low k high ≡ false →
    predecessor o k (event b (Install spot lead low high) ∷ t) ≡ predecessor o k t
before_out o t b spot lead low high k out =
    ap (λ (i : Bool). cond i (Some (group_of o k t)) (predecessor o k t)) out

pub install_spot : {s r : InstallWord} {a b c x y z : ℕ} → Install s a b c ≡ Install r x y z → s ≡ r
install_spot e = cc

-- the number behind the last group has no next word
none_on : (o : Opening) (t : Execution) (b : ℕ) (d : Action) → Allowed o t b d →
    KeysHaveGroups o t → next_of o (group_total (shape o)) (event b d ∷ t) ≡ 0
none_on o t b d may old = ⊎_elim
    (λ (z : next_of o (group_total (shape o)) (event b d ∷ t) ≡ next_of o (group_total (shape o)) t).
    z ∙ old.none_behind)
    (λ (z : ChangesNext (group_total (shape o)) d). ⊎_elim
    (λ (y : (v : ℕ) × (d ≡ StoreHeader (group_total (shape o)) header.Next v)).
    let m = may_as o t b d (StoreHeader (group_total (shape o)) header.Next y.0) y.1 may in
    let bad = m.exists in absurd (omega (arith, bad)))
    (λ (y : (lead : ℕ) × (low : ℕ) × (high : ℕ)
    × (d ≡ Install (NextOf (group_total (shape o))) lead low high)).
    let m = may_as o t b d (Install (NextOf (group_total (shape o))) y.0 y.1 y.2) y.3 may in
    let keys = install_keys o t b (NextOf (group_total (shape o))) y.0 y.1 y.2 m in
    let l = left_of o t b (NextOf (group_total (shape o))) y.0 y.1 y.2 (group_total (shape o)) m refl in
    let low_is = l.1 in
    let lt = old.within l.0 (omega (arith, keys.0, keys.1, low_is)) in
    let bad : (group_total (shape o)) < group_total (shape o) =
    subst (λ (x : ℕ). x < group_total (shape o)) l.2 lt in absurd (omega (arith, bad)))
    z) (next_kept o t b d (group_total (shape o)))

keys_step : (o : Opening) (t : Execution) (b : ℕ) (d : Action) → Allowed o t b d →
    KeysHaveGroups o t → KeysHaveGroups o (event b d ∷ t)
keys_step o t b (Install spot lead low high) may old =
    let keys = install_keys o t b spot lead low high may in
    record {
      beyond = λ k lt. ⊎_elim
          (λ (here : within low k high ≡ true).
          let r = in_range low high k here in absurd (omega (arith, lt, r.1, keys.1)))
          (λ (out : within low k high ≡ false).
          group_out o t b spot lead low high k out ∙ old.beyond k lt)
          (in_or_out (within low k high));
      within = λ k le. ⊎_elim
          (λ (here : within low k high ≡ true).
          let m = may.opened k here in
          subst (λ (y : ℕ). y < group_total (shape o))
          (sym (group_in o t b spot lead low high k m.1 here m.3)) (old.new k m.1 m.3).1)
          (λ (out : within low k high ≡ false).
          subst (λ (y : ℕ). y < group_total (shape o))
          (sym (group_out o t b spot lead low high k out)) (old.within k le))
          (in_or_out (within low k high));
      new = λ k g e. old.new k g e;
      none_behind = none_on o t b (Install spot lead low high) may old;
      old = λ k g e. ⊎_elim
          (λ (here : within low k high ≡ true).
          let r = in_range low high k here in omega (arith, r.1, keys.1))
          (λ (out : within low k high ≡ false).
          old.old k g (sym (before_out o t b spot lead low high k out) ∙ e))
          (in_or_out (within low k high));
    }
keys_step o t b (NewGroup h low high f) may old = record {
  beyond = λ k lt. old.beyond k lt;
  within = λ k le. old.within k le;
  new = λ k g e. new k g e (in_or_out (within low k high));
  none_behind = none_on o t b (NewGroup h low high f) may old;
  old = λ k g e. old.old k g (remembered_back t b h low high f g (predecessor o k t) e).0;
}
  where
    new : (k g : ℕ) → successor k (event b (NewGroup h low high f) ∷ t) ≡ Some g →
        (within low k high ≡ true) ⊎ (within low k high ≡ false) →
        (k ≤ greatest_key) × (g < group_total (shape o))
    new k g e w = ⊎_elim
        (λ (here : within low k high ≡ true).
        let r = in_range low high k here in
        let is : h ≡ g = some_is (sym (ap
        (λ (y : Bool). cond y (Some h) (unless_named h (successor k t))) here) ∙ e) in
        let top = key_most o (part_of o h) high may.in_part.1 in
        (omega (arith, r.1, top), subst (λ (y : ℕ). y < group_total (shape o)) is may.exists))
        (λ (out : within low k high ≡ false).
        old.new k g (named_before h (successor k t) g (sym (ap
        (λ (y : Bool). cond y (Some h) (unless_named h (successor k t))) out) ∙ e)).1) w
keys_step o t b d may old = record {
  beyond = λ k lt. old.beyond k lt;
  within = λ k le. old.within k le;
  new = λ k g e. old.new k g e;
  none_behind = none_on o t b d may old;
  old = λ k g e. old.old k g e;
}

-- every table has a group
pub keys_have_groups : (o : Opening) (t : Execution) → Valid o t → 0 < group_total (shape o) →
    KeysHaveGroups o t
keys_have_groups o [] valid some = record {
  beyond = λ k lt. opening_group-beyond o k lt;
  within = λ k le. opening_group-exists o k le;
  new = λ k g e. none_some e;
  none_behind = opening_next-none o;
  old = λ k g e. none_some e;
}
keys_have_groups o (e ∷ t) valid some =
    keys_step o t e.by e.action valid.0 (keys_have_groups o t valid.1 some)

-- ---- groups before ----

unchained_install : (o : Opening) (t : Execution) (b : ℕ) (spot : InstallWord)
    (lead low high : ℕ) → Valid o t → MayInstall o t b spot lead low high → OldAreUnchained o t →
    OldAreUnchained o (event b (Install spot lead low high) ∷ t)
unchained_install o t b spot lead low high valid may old k g j e z = ⊎_elim
    (λ (here : within low k high ≡ true).
    let was : group_of o k t ≡ g =
    some_is (sym (before_in o t b spot lead low high k here) ∙ e) in ⊎_elim
    (λ (new : within low j high ≡ true).
    let m = may.opened j new in
    let is : m.1 ≡ g = sym (group_in o t b spot lead low high j m.1 new m.3) ∙ z in
    (under_way_holds o t valid m.0 (j, m.2)).unchained k g
    (ap (λ (y : ℕ). rebuild y t) (sym is) ∙ m.4) was)
    (λ (other : within low j high ≡ false).
    let is : group_of o j t ≡ g = sym (group_out o t b spot lead low high j other) ∙ z in
    both_ways here (may.whole k j (was ∙ sym is) ∙ other))
    (in_or_out (within low j high)))
    (λ (out : within low k high ≡ false).
    let was : predecessor o k t ≡ Some g = sym (before_out o t b spot lead low high k out) ∙ e in
    ⊎_elim
    (λ (new : within low j high ≡ true).
    let m = may.opened j new in
    let is : m.1 ≡ g = sym (group_in o t b spot lead low high j m.1 new m.3) ∙ z in
    let p = groups_before_are_opened o t valid k g was in
    open_not (sym m.5 ∙ (ap (λ (y : ℕ). phase y t) is ∙ p.1)))
    (λ (other : within low j high ≡ false).
    old k g j was (sym (group_out o t b spot lead low high j other) ∙ z))
    (in_or_out (within low j high)))
    (in_or_out (within low k high))

unchained_step : (o : Opening) (t : Execution) (b : ℕ) (d : Action) → Valid o t →
    Allowed o t b d → OldAreUnchained o t → OldAreUnchained o (event b d ∷ t)
unchained_step o t b (Install spot lead low high) valid may old k g j e z =
    unchained_install o t b spot lead low high valid may old k g j e z
unchained_step o t b (NewGroup h low high f) valid may old k g j e z =
    old k g j (remembered_back t b h low high f g (predecessor o k t) e).0 z
unchained_step o t b d valid may old k g j e z = old k g j e z

pub old_unchained : (o : Opening) (t : Execution) → Valid o t → OldAreUnchained o t
old_unchained o [] valid = λ k g j e z. none_some e
old_unchained o (e ∷ t) valid =
    unchained_step o t e.by e.action valid.1 valid.0 (old_unchained o t valid.1)
