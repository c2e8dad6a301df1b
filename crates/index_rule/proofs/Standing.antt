-- What stays where a hand stands, while its read section goes on or while others step.
--
-- The fact to remember: a place where a caller stands keeps its role, so it keeps its key.
use Rattle.std.proofs.Common.{arith, ◌≡◌, ◌≢◌, ℕ, ◌%◌, inl, inr, ⊎_elim, true}
use Rattle.std.proofs.Common.{Some, [], ◌∷◌, ◌++◌, refl, sym, ap, ◌∙◌, subst}
use Rattle.word_layout.specs.Places.{IsPlace}
use Rattle.index_machine.specs.declared.events.Action.{Action}
use Rattle.index_machine.specs.declared.events.Action.TheVariants.{Enter, Leave, NewGroup, Retire}
use Rattle.index_machine.specs.declared.opening.Opening.{Opening}
use Rattle.index_machine.specs.Execution.{Execution, event, Without}
use Rattle.index_machine.specs.Words.{shape}
use Rattle.index_machine.specs.Sections.{IsReading, crossings}
use Rattle.index_machine.specs.Keepers.{IsGroupKeeper, IsKeeperAt}
use Rattle.index_machine.specs.Sections.{IsNoCrossing, StaysInside}
use Rattle.index_machine.specs.Places.{IsInGroup}
use Rattle.index_machine.specs.Rows.{InArray, InBuffer, role, role_key}
use Rattle.index_machine.specs.Reaching.{reached}
use Rattle.index_machine.specs.RecordConditions.{HasKey, IsAt, IsInArrayOf, KeepsPlace}
use Rattle.index_machine.specs.Conditions.{Allowed, Valid}
use Rattle.index_machine.proofs.Executions.{choice-other}
use Rattle.index_machine.proofs.Placing.{placed, buffer_row}
use Rattle.machine_readers.specs.Readers.{KeepsKey}
use Rattle.machine_readers.proofs.FromOpening.{places_stay, reached_keys, reached_stay}
use Rattle.machine_readers.proofs.Reached.{reached_on}
use Rattle.machine_readers.proofs.ReachedForms.{keyed_in_group}
use Rattle.machine_readers.proofs.ReadSections.{stands_in_on}
use Rattle.machine_readers.proofs.Roles.{EndsRole, role_stays}

-- ---- read sections ----

-- a hand that makes no event stays in its read section
pub stays_inside : (c : ℕ) (n : Execution) → Without c n → StaysInside c n
stays_inside c [] out = tt
stays_inside c (e ∷ n) out = ((λ own. absurd (out.0 own)), stays_inside c n out.1)

crossings_step : (c b : ℕ) (d : Action) (t : Execution) → (b ≡ c → IsNoCrossing d) →
    crossings c (event b d ∷ t) ≡ crossings c t
crossings_step c b (Enter n) t within = choice-other b c _ (crossings c t) within
crossings_step c b (Leave n) t within = choice-other b c _ (crossings c t) within
crossings_step c b d t within = refl

crossings_stay : (c : ℕ) (n t : Execution) → StaysInside c n → crossings c (n ++ t) ≡ crossings c t
crossings_stay c [] t stay = refl
crossings_stay c (e ∷ n) t stay =
    crossings_step c e.by e.action (n ++ t) stay.0 ∙ crossings_stay c n t stay.1

pub reading_on : (o : Opening) (c : ℕ) (n t : Execution) → StaysInside c n → IsReading o c t →
    IsReading o c (n ++ t)
reading_on o c n t stay reading =
    record {
      caller = reading.caller;
      inside = ap (λ (z : ℕ). z % 2) (crossings_stay c n t stay) ∙ reading.inside;
    }

-- ---- places where a caller stands ----

-- such a place has a key
pub at_keyed : (o : Opening) (c p : ℕ) (t : Execution) → Valid o t → IsAt o c p t → HasKey o p t
at_keyed o c p t valid at =
    ⊎_elim (λ (z : IsInArrayOf o c p t). (z.1, ap role_key z.2))
    (λ (z : reached c p t ≡ true). reached_keys o t valid c p at.reading.caller z) at.there

-- and keeps its role
pub at_role : (o : Opening) (c p : ℕ) (n t : Execution) → Valid o (n ++ t) → StaysInside c n →
    IsAt o c p t → role o p (n ++ t) ≡ role o p t
at_role o c p n t valid stay at =
    ⊎_elim
    (λ (z : IsInArrayOf o c p t).
    places_stay o c z.0 z.1 p at.reading.caller n t valid stay z.3 (inl z.2))
    (λ (z : reached c p t ≡ true). reached_stay o c p at.reading.caller n t valid stay z) at.there

-- the caller still stands there
pub at_on : (o : Opening) (c p : ℕ) (n t : Execution) → Valid o (n ++ t) → StaysInside c n →
    IsAt o c p t → IsAt o c p (n ++ t)
at_on o c p n t valid stay at =
    record {
      reading = reading_on o c n t stay at.reading;
      there = ⊎_elim
          (λ (z : IsInArrayOf o c p t).
          inl (z.0, z.1, at_role o c p n t valid stay at ∙ z.2, stands_in_on c z.0 n t stay z.3))
          (λ (z : reached c p t ≡ true). inr (reached_on c p n t stay z)) at.there;
    }

-- and keeps its key, between two of its loads
pub keeps_key_on : (o : Opening) (c p k : ℕ) (n t : Execution) → Valid o (n ++ t) →
    StaysInside c n → IsAt o c p t → role_key (role o p t) ≡ Some k → KeepsKey o p k n t
keeps_key_on o c p k [] t valid stay at e = tt
keeps_key_on o c p k (a ∷ n) t valid stay at e = (
  ap role_key (at_role o c p n t valid.1 stay.1 at) ∙ e,
  keeps_key_on o c p k n t valid.1 stay.1 at e,
)

-- ---- places of keys ----

-- a place that has a key is a place of the table
pub keyed_place : (o : Opening) (t : Execution) → Valid o t → (p : ℕ) → HasKey o p t →
    IsPlace (shape o) p
keyed_place o t valid p keyed =
    let there = keyed_in_group o t p keyed.0 keyed.1 in
    ⊎_elim
    (λ (z : role o p t ≡ InArray there.0 keyed.0).
    let array = (placed o t valid).arrayed there.0 keyed.0 p z in
    inr (there.0, array.group_exists, array.in_array))
    (λ (z : role o p t ≡ InBuffer there.0 keyed.0). inl (buffer_row o t valid p there.0 keyed.0 z))
    there.1

-- ---- places of a keeper's part ----

-- a place is in one group
one_group : (o : Opening) (t : Execution) (g h j k p : ℕ) → IsInGroup o t g j p →
    IsInGroup o t h k p → g ≡ h
one_group o t g h j k p here there = ⊎_elim
    (λ (z : role o p t ≡ InArray g j). ⊎_elim
    (λ (w : role o p t ≡ InArray h k). let e : InArray g j ≡ InArray h k = sym z ∙ w in cc)
    (λ (w : role o p t ≡ InBuffer h k). let e : InArray g j ≡ InBuffer h k = sym z ∙ w in cc) there)
    (λ (z : role o p t ≡ InBuffer g j). ⊎_elim
    (λ (w : role o p t ≡ InArray h k). let e : InBuffer g j ≡ InArray h k = sym z ∙ w in cc)
    (λ (w : role o p t ≡ InBuffer h k). let e : InBuffer g j ≡ InBuffer h k = sym z ∙ w in cc) there)
    here

-- who keeps a place is the keeper of the group that it is in
pub same_keeper : (o : Opening) (c b g k p : ℕ) (t : Execution) → IsGroupKeeper o c g →
    IsInGroup o t g k p → KeepsPlace o t b p → b ≡ c
same_keeper o c b g k p t keeper here keeps =
    subst (IsGroupKeeper o b) (one_group o t keeps.0 g keeps.1 k p keeps.2 here) keeps.3
    ∙ sym keeper

-- such a place has a key
pub kept_keyed : (o : Opening) (c p : ℕ) (t : Execution) → KeepsPlace o t c p → HasKey o p t
kept_keyed o c p t keeps = (
  keeps.1,
  ⊎_elim (λ (z : role o p t ≡ InArray keeps.0 keeps.1). ap role_key z)
      (λ (z : role o p t ≡ InBuffer keeps.0 keeps.1). ap role_key z) keeps.2,
)

-- and is one where the keeper may look
pub kept_place : (o : Opening) (c p : ℕ) (t : Execution) → Valid o t → KeepsPlace o t c p →
    IsKeeperAt o c p
kept_place o c p t valid keeps =
    let keeper = keeps.3 in
    ⊎_elim
    (λ (z : role o p t ≡ InArray keeps.0 keeps.1).
    inr (keeps.0, (placed o t valid).arrayed keeps.0 keeps.1 p z, keeps.3))
    (λ (z : role o p t ≡ InBuffer keeps.0 keeps.1).
    inl (omega arith, buffer_row o t valid p keeps.0 keeps.1 z)) keeps.2

-- only the keeper of its part takes a place out of its role
kept_step : (o : Opening) (t : Execution) (b : ℕ) (d : Action) (c p : ℕ) → KeepsPlace o t c p →
    Allowed o t b d → b ≢ c → role o p (event b d ∷ t) ≡ role o p t
kept_step o t b d c p keeps may other =
    let keyed = kept_keyed o c p t keeps in
    ⊎_elim (λ (z : role o p (event b d ∷ t) ≡ role o p t). z)
    (λ (z : EndsRole o t p d). absurd (other (ends z))) (role_stays o t b d p keyed.0 may keyed.1)
  where
    may_as : (x : Action) → d ≡ x → Allowed o t b x
    may_as x same = subst (Allowed o t b) same may

    ends : EndsRole o t p d → b ≡ c
    ends out =
        ⊎_elim
        (λ (w : (n : ℕ) × (d ≡ Retire p n)).
        same_keeper o c b keeps.0 keeps.1 p t keeps.3 keeps.2 (may_as (Retire p w.0) w.1).keeper)
        (λ (w : (g : ℕ) × (low : ℕ) × (high : ℕ) × (f : ℕ) × (j : ℕ)
        × (d ≡ NewGroup g low high f) × (role o p t ≡ InArray g j)).
        let keeper = (may_as (NewGroup w.0 w.1 w.2 w.3) w.5).keeper in
        same_keeper o c b keeps.0 keeps.1 p t keeps.3 keeps.2 (w.0, w.4, inl w.6, keeper)) out

-- a place that keeps its role is kept by whom it was
kept_as : (o : Opening) (c p : ℕ) (n t : Execution) → role o p (n ++ t) ≡ role o p t →
    KeepsPlace o t c p → KeepsPlace o (n ++ t) c p
kept_as o c p n t same keeps = (
  keeps.0,
  keeps.1,
  ⊎_elim (λ (z : role o p t ≡ InArray keeps.0 keeps.1). inl (same ∙ z))
      (λ (z : role o p t ≡ InBuffer keeps.0 keeps.1). inr (same ∙ z)) keeps.2,
  keeps.3,
)

-- so a place of its part stays there
pub kept_role : (o : Opening) (c p : ℕ) (n t : Execution) → Valid o (n ++ t) → Without c n →
    KeepsPlace o t c p → role o p (n ++ t) ≡ role o p t
kept_role o c p [] t valid out keeps = refl
kept_role o c p (e ∷ n) t valid out keeps =
    let before = kept_role o c p n t valid.1 out.1 keeps in
    kept_step o (n ++ t) e.by e.action c p (kept_as o c p n t before keeps) valid.0 out.0 ∙ before

pub kept_on : (o : Opening) (c p : ℕ) (n t : Execution) → Valid o (n ++ t) → Without c n →
    KeepsPlace o t c p → KeepsPlace o (n ++ t) c p
kept_on o c p n t valid out keeps = kept_as o c p n t (kept_role o c p n t valid out keeps) keeps
