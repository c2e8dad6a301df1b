-- A group that answers for a key, or did, is of the table, and so is the one that its next word names.
use Rattle.std.proofs.Common.{◌≡◌, ℕ, ◌<◌, ◌≤◌, ⊎_elim, Bool, true, false, cond, Some, [], ◌∷◌, ◌++◌, ◌+◌}
use Rattle.std.proofs.Common.{refl, sym, ap, ◌∙◌, ◌^◌, subst, arith}
use Rattle.std.proofs.Math.Nat.{mul-le-mul_right}
use Rattle.word_layout.specs.Parts.{greatest_key}
use Rattle.word_layout.specs.Shape.{group_total}
use Rattle.index_machine.specs.declared.events.Action.{Action}
use Rattle.index_machine.specs.declared.events.Action.TheVariants.{Install, NewGroup}
use Rattle.index_machine.specs.declared.opening.Opening.{Opening}
use Rattle.index_machine.specs.Conditions.{Valid}
use Rattle.index_machine.specs.Execution.{Execution, event}
use Rattle.index_machine.specs.KeyRanges.{group_of, predecessor}
use Rattle.index_machine.specs.Openings.{within}
use Rattle.index_machine.specs.Reaching.{stands_in}
use Rattle.index_machine.specs.Sections.{IsCaller}
use Rattle.index_machine.specs.Words.{limits, shape}
use Rattle.index_machine.proofs.Options.{none_some, some_is}
use Rattle.machine_chain.proofs.NewGroups.{keys_hold}
use Rattle.machine_chain.proofs.PartKeys.{end_is_key}
use Rattle.machine_chain.proofs.Walking.{answers_while, lead_on}
use Rattle.machine_chain.specs.Walks.{AnswersFor}
use Rattle.machine_readers.proofs.ReadSections.{stands_in_on}
use Rattle.root_table.specs.Standing.{LeadsIntoTable}
use Rattle.machine_readers.proofs.InstalledRedirects.{remembered_back}

-- the groups of keys are of the table
of_key_exists : (o : Opening) (t : Execution) → Valid o t → (k : ℕ) →
    group_of o k t < group_total (shape o) → (g : ℕ) → group_of o k t ≡ g → g < group_total (shape o)
of_key_exists o t valid k below g is = subst (λ (z : ℕ). z < group_total (shape o)) is below

-- each of them that had a key before an install was its group once
before_step : (o : Opening) (t : Execution) (b : ℕ) (d : Action) (k g : ℕ) → Valid o t → k ≤ greatest_key →
    ((h : ℕ) → predecessor o k t ≡ Some h → h < group_total (shape o)) →
    predecessor o k (event b d ∷ t) ≡ Some g → g < group_total (shape o)
before_step o t b (Install spot lead low high) k g valid key old e = go (within low k high) refl
  where
    go : (w : Bool) → within low k high ≡ w → g < group_total (shape o)
    go false z =
        old g (sym (ap (λ (i : Bool). cond i (Some (group_of o k t)) (predecessor o k t)) z) ∙ e)
    go true z =
        of_key_exists o t valid k ((keys_hold o t valid).within k key) g
        (some_is (sym (ap (λ (i : Bool). cond i (Some (group_of o k t)) (predecessor o k t)) z) ∙ e))
before_step o t b (NewGroup n low high i) k g valid key old e =
    old g (remembered_back t b n low high i g (predecessor o k t) e).0
before_step o t b d k g valid key old e = old g e

before_exists : (o : Opening) (t : Execution) → Valid o t → (k g : ℕ) → k ≤ greatest_key →
    predecessor o k t ≡ Some g → g < group_total (shape o)
before_exists o [] valid k g key e = none_some e
before_exists o (a ∷ t) valid k g key e =
    before_step o t a.by a.action k g valid.1 key (λ h. before_exists o t valid.1 k h key) e

-- a group that answers for a key, or did, is of the table
pub answers_exist : (o : Opening) (t : Execution) → Valid o t → (k g : ℕ) → k ≤ greatest_key →
    AnswersFor o k g t → g < group_total (shape o)
answers_exist o t valid k g key answers =
    ⊎_elim (λ (z : group_of o k t ≡ g). of_key_exists o t valid k ((keys_hold o t valid).within k key) g z)
    (λ (z : predecessor o k t ≡ Some g). before_exists o t valid k g key z) answers

-- so is the one that its next word names, to the end of the read section of a caller that stands there
pub answers_lead_on : (o : Opening) (c g k : ℕ) (t : Execution) → IsCaller o c →
    stands_in c g t ≡ true → k ≤ greatest_key → AnswersFor o k g t → LeadsIntoTable o c g t
answers_lead_on o c g k t is s key answers newer valid stays n next =
    let there = stands_in_on c g newer t stays s in
    let still = answers_while o c g k is newer t valid stays s answers in
    let m = (lead_on o (newer ++ t) valid c g k is there key still).next n next in
    let below = m.2 in
    let most = end_is_key o k in
    answers_exist o (newer ++ t) valid (m.0 + 1) n (omega (arith, below, most)) m.4

-- there are few groups
pub few_groups : (o : Opening) → group_total (shape o) ≤ 2 ^ 20
few_groups o =
    let few = o.layout.cut.few in
    let most = o.layout.kept.most_groups in
    omega (arith, mul-le-mul_right (limits o).groups few, most)
