-- What a caller knows while its read section lasts.
use Rattle.std.proofs.Common.{◌≡◌, ℕ, ◌+◌, Bool, true, false, [], ◌∷◌, ◌++◌, cond, refl, sym, ap}
use Rattle.std.proofs.Common.{◌∙◌, subst, ⊎_elim}
use Rattle.std.specs.Prelude.{◌==◌, ◌&&◌}
use Rattle.index_machine.proofs.Executions.{choice-other}
use Rattle.index_machine.specs.Conditions.{Allowed, Valid}
use Rattle.index_machine.specs.Execution.{Execution, event}
use Rattle.index_machine.specs.Groups.{name_used_again, phase}
use Rattle.index_machine.specs.KeyRanges.{group_of, or_else, successor}
use Rattle.index_machine.specs.Openings.{within}
use Rattle.index_machine.specs.Permissions.{IsUnopened}
use Rattle.index_machine.specs.Places.{IsInGroup}
use Rattle.index_machine.specs.Reaching.{saw_open, saw_opened, stands_in}
use Rattle.index_machine.specs.Rows.{InArray, InBuffer, role}
use Rattle.index_machine.specs.Sections.{IsCaller, IsNoCrossing, StaysInside}
use Rattle.index_machine.specs.declared.events.Action.{Action}
use Rattle.index_machine.specs.declared.events.Action.TheVariants.{Enter, Freeze, Install, Leave}
use Rattle.index_machine.specs.declared.events.Action.TheVariants.{LoadNext, LoadPhase}
use Rattle.index_machine.specs.declared.events.Action.TheVariants.{LoadSlotGroup, NewGroup}
use Rattle.index_machine.specs.declared.events.Action.TheVariants.{StoreOpened, Thaw}
use Rattle.index_machine.specs.declared.opening.Opening.{Opening}
use Rattle.machine_barriers.proofs.OpenedGroups.{frozen_not, open_not}
use Rattle.machine_readers.proofs.Roles.{array_stays, row_stays}
use Rattle.word_layout.specs.Phase.{word_of_phase}
use Rattle.word_layout.specs.declared.phase.Phase.{Phase}
use Rattle.word_layout.specs.declared.phase.Phase.TheVariants.{Frozen, Open, Opened}

still_in : (b c : ℕ) (x : Bool) → (b ≡ c → ⊥) → x ≡ true → cond (b == c) false x ≡ true
still_in b c x never e = choice-other b c false x never ∙ e

more : (w v x : Bool) → x ≡ true → cond w (cond v true x) x ≡ true
more true true x e = refl
more true false x e = e
more false v x e = e

stands_in_step : (c g b : ℕ) (d : Action) (t : Execution) → (b ≡ c → IsNoCrossing d) →
    stands_in c g t ≡ true → stands_in c g (event b d ∷ t) ≡ true
stands_in_step c g b (Enter n) t within e = still_in b c (stands_in c g t) within e
stands_in_step c g b (Leave n) t within e = still_in b c (stands_in c g t) within e
stands_in_step c g b (LoadSlotGroup part side i found) t within e =
    more (b == c) (found == g) (stands_in c g t) e
stands_in_step c g b (LoadNext h found) t within e =
    more (b == c) (found == g + 1) (stands_in c g t) e
stands_in_step c g b (LoadPhase h found) t within e =
    more (b == c) (found == word_of_phase (Opened g)) (stands_in c g t) e
stands_in_step c g b d t within e = e

pub stands_in_on : (c g : ℕ) (n t : Execution) → StaysInside c n → stands_in c g t ≡ true →
    stands_in c g (n ++ t) ≡ true
stands_in_on c g [] t stay e = e
stands_in_on c g (x ∷ n) t stay e =
    stands_in_step c g x.by x.action (n ++ t) stay.0 (stands_in_on c g n t stay.1 e)

saw_open_step : (c g b : ℕ) (d : Action) (t : Execution) → (b ≡ c → IsNoCrossing d) →
    saw_open c g t ≡ true → saw_open c g (event b d ∷ t) ≡ true
saw_open_step c g b (Enter n) t within e = still_in b c (saw_open c g t) within e
saw_open_step c g b (Leave n) t within e = still_in b c (saw_open c g t) within e
saw_open_step c g b (LoadPhase h found) t within e =
    more (b == c) ((h == g) && (found == word_of_phase Open)) (saw_open c g t) e
saw_open_step c g b d t within e = e

pub saw_open_on : (c g : ℕ) (n t : Execution) → StaysInside c n → saw_open c g t ≡ true →
    saw_open c g (n ++ t) ≡ true
saw_open_on c g [] t stay e = e
saw_open_on c g (x ∷ n) t stay e =
    saw_open_step c g x.by x.action (n ++ t) stay.0 (saw_open_on c g n t stay.1 e)

saw_opened_step : (c f b : ℕ) (d : Action) (t : Execution) → (b ≡ c → IsNoCrossing d) →
    saw_opened c f t ≡ true → saw_opened c f (event b d ∷ t) ≡ true
saw_opened_step c f b (Enter n) t within e = still_in b c (saw_opened c f t) within e
saw_opened_step c f b (Leave n) t within e = still_in b c (saw_opened c f t) within e
saw_opened_step c f b (LoadPhase h found) t within e =
    more (b == c) (found == word_of_phase (Opened f)) (saw_opened c f t) e
saw_opened_step c f b d t within e = e

pub saw_opened_on : (c f : ℕ) (n t : Execution) → StaysInside c n → saw_opened c f t ≡ true →
    saw_opened c f (n ++ t) ≡ true
saw_opened_on c f [] t stay e = e
saw_opened_on c f (x ∷ n) t stay e =
    saw_opened_step c f x.by x.action (n ++ t) stay.0 (saw_opened_on c f n t stay.1 e)

phase_not : {X : Type 0} {x : Phase} {f : ℕ} (g h : ℕ) (t : Execution) → phase g t ≡ x →
    (x ≡ Opened f → ⊥) → g ≡ h → phase h t ≡ Opened f → X
phase_not g h t e never z at = absurd (never (sym e ∙ (ap (λ (y : ℕ). phase y t) z ∙ at)))

-- an opened group stays opened while a caller stands there
pub opened_step : (o : Opening) (t : Execution) (b : ℕ) (d : Action) (c g f : ℕ) → Allowed o t b d →
    IsCaller o c → stands_in c g t ≡ true → phase g t ≡ Opened f →
    phase g (event b d ∷ t) ≡ Opened f
opened_step o t b (Freeze h) c g f may is s e =
    choice-other h g Frozen (phase g t) (λ z. phase_not h g t may.was open_not z e) ∙ e
opened_step o t b (Thaw h) c g f may is s e =
    choice-other h g Open (phase g t) (λ z. phase_not h g t may.was frozen_not z e) ∙ e
opened_step o t b (StoreOpened h i) c g f may is s e =
    choice-other h g (Opened i) (phase g t) (λ z. phase_not h g t may.frozen frozen_not z e) ∙ e
opened_step o t b (NewGroup h low high i) c g f may is s e =
    choice-other h g Open (name_used_again h (phase g t))
    (λ z. may.gone.empty c is (subst (λ (y : ℕ). stands_in c y t ≡ true) (sym z) s))
    ∙ (ap (name_used_again h) e
    ∙ choice-other f h Open (Opened f) (λ z. (may.replaced g
    (e ∙ ap (λ (y : ℕ). Opened y) z)).empty c is s))
opened_step o t b d c g f may is s e = e

-- the group_of of a key that isn't opened stays
pub group_step : (o : Opening) (t : Execution) (b : ℕ) (d : Action) (k g : ℕ) → Allowed o t b d →
    IsUnopened g t → group_of o k t ≡ g → group_of o k (event b d ∷ t) ≡ g
group_step o t b (Install spot lead low high) k g may un e = go (within low k high) refl
  where
    go : (w : Bool) → within low k high ≡ w →
        cond w (or_else (successor k t) (group_of o k t)) (group_of o k t) ≡ g
    go false z = e
    go true z = let m = may.opened k z in absurd (un m.0 (ap (λ (y : ℕ). phase y t) (sym e) ∙ m.2))
group_step o t b d k g may un e = e

module _ (o : Opening) (c g : ℕ) (is : IsCaller o c) where
  -- a caller's group stays the group_of of the key as long as it isn't opened
  pub group_on : (k : ℕ) (n t : Execution) → Valid o (n ++ t) → StaysInside c n →
      stands_in c g t ≡ true → IsUnopened g (n ++ t) → group_of o k t ≡ g →
      group_of o k (n ++ t) ≡ g
  group_on k [] t valid stay s un e = e
  group_on k (x ∷ n) t valid stay s un e = let before : IsUnopened g (n ++ t) = λ f z.
      un f (opened_step o (n ++ t) x.by x.action c g f valid.0 is
      (stands_in_on c g n t stay.1 s) z) in
      group_step o (n ++ t) x.by x.action k g valid.0 before
      (group_on k n t valid.1 stay.1 s before e)

  pub array_on : (a k : ℕ) (n t : Execution) → Valid o (n ++ t) → StaysInside c n →
      stands_in c g t ≡ true → role o a t ≡ InArray g k → role o a (n ++ t) ≡ InArray g k
  array_on a k [] t valid stay s e = e
  array_on a k (x ∷ n) t valid stay s e = array_stays o (n ++ t) x.by x.action c a g k valid.0 is
      (stands_in_on c g n t stay.1 s) (array_on a k n t valid.1 stay.1 s e)

  row_on : (a k : ℕ) (n t : Execution) → Valid o (n ++ t) → StaysInside c n →
      stands_in c g t ≡ true → role o a t ≡ InBuffer g k → role o a (n ++ t) ≡ InBuffer g k
  row_on a k [] t valid stay s e = e
  row_on a k (x ∷ n) t valid stay s e = row_stays o (n ++ t) x.by x.action c a g k valid.0 is
      (stands_in_on c g n t stay.1 s) (row_on a k n t valid.1 stay.1 s e)

  -- a place of the group keeps its role
  pub place_on : (a k : ℕ) (n t : Execution) → Valid o (n ++ t) → StaysInside c n →
      stands_in c g t ≡ true → IsInGroup o t g k a → role o a (n ++ t) ≡ role o a t
  place_on a k n t valid stay s there =
      ⊎_elim (λ (e : role o a t ≡ InArray g k). array_on a k n t valid stay s e ∙ sym e)
      (λ (e : role o a t ≡ InBuffer g k). row_on a k n t valid stay s e ∙ sym e) there
