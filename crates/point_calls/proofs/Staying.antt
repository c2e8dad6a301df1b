-- A hand whose count of crossings stays has not left its read section.
use Rattle.std.proofs.Common.{◌≡◌, ℕ, ◌+◌, ◌≤◌, Bool, true, false, cond, [], ◌∷◌, ◌++◌, refl, sym, ap, ◌∙◌, subst, arith}
use Rattle.std.proofs.Common.{◌==◌, eq-eqb, eqb-true}
use Rattle.index_machine.specs.declared.events.Action.{Action}
use Rattle.index_machine.specs.declared.events.Action.TheVariants.{Enter, Leave}
use Rattle.index_machine.specs.Conditions.{Valid}
use Rattle.index_machine.specs.Execution.{Continues, Execution}
use Rattle.index_machine.specs.Reaching.{stands_in}
use Rattle.index_machine.specs.Sections.{IsNoCrossing, StaysInside, crossings, crossings_after}
use Rattle.machine_chain.proofs.Walking.{buffers_walkable}
use Rattle.machine_readers.proofs.ReadSections.{stands_in_on}
use Rattle.index_rule.specs.declared.board.Board.{Board}
use Rattle.index_rule.specs.declared.hand.Hand.{Hand}
use Rattle.index_rule.specs.Calls.{CanCall}
use Rattle.index_rule.specs.Hands.{known, opening_of}
use Rattle.sorted_group.specs.Standing.{CanSearch}
use Rattle.index_rule.specs.Moments.{IsWithin}
use Rattle.index_machine.proofs.Executions.{continues_trans}
use Rattle.point_calls.specs.PointCalls.{IsOneSection}

-- ---- counts ----

-- the count after an action is no less, and greater where the hand crossed
counts_up : (mine : Bool) (d : Action) (count : ℕ) → count ≤ crossings_after mine d count
counts_up true (Enter n) count = omega arith
counts_up false (Enter n) count = omega arith
counts_up true (Leave n) count = omega arith
counts_up false (Leave n) count = omega arith
counts_up mine d count = omega arith

crosses_not : (d : Action) (count : ℕ) → crossings_after true d count ≡ count → IsNoCrossing d
crosses_not (Enter n) count same = absurd (omega (arith, same))
crosses_not (Leave n) count same = absurd (omega (arith, same))
crosses_not d count same = tt

grows : (c : ℕ) (n t : Execution) → crossings c t ≤ crossings c (n ++ t)
grows c [] t = omega arith
grows c (e ∷ n) t =
    let before = grows c n t in
    let step = counts_up (e.by == c) e.action (crossings c (n ++ t)) in
    omega (arith, before, step)

own_stays : (c b : ℕ) (d : Action) (count : ℕ) → crossings_after (b == c) d count ≡ count → b ≡ c →
    IsNoCrossing d
own_stays c b d count same mine =
    crosses_not d count
    (subst (λ (z : Bool). crossings_after z d count ≡ count) (eq-eqb b c mine) same)

-- so where the count is what it was, the hand crossed at no event
pub inside_by_count : (c : ℕ) (n t : Execution) → crossings c (n ++ t) ≡ crossings c t → StaysInside c n
inside_by_count c [] t same = tt
inside_by_count c (e ∷ n) t same =
    let before = grows c n t in
    let step = counts_up (e.by == c) e.action (crossings c (n ++ t)) in
    let was : crossings c (n ++ t) ≡ crossings c t = omega (arith, before, step, same) in
    let still : crossings_after (e.by == c) e.action (crossings c (n ++ t)) ≡ crossings c (n ++ t) =
    omega (arith, same, was) in
    (own_stays c e.by e.action (crossings c (n ++ t)) still, inside_by_count c n t was)

crossings_stay : (c : ℕ) (n t : Execution) → StaysInside c n → crossings c (n ++ t) ≡ crossings c t
crossings_stay c [] t stays = refl
crossings_stay c (e ∷ n) t stays =
    one_stays (e.by == c) refl e.action stays.0 ∙ crossings_stay c n t stays.1
  where
    one_stays : (mine : Bool) → (e.by == c) ≡ mine → (d : Action) → (e.by ≡ c → IsNoCrossing d) →
        crossings_after (e.by == c) d (crossings c (n ++ t)) ≡ crossings c (n ++ t)
    one_stays true is d stays = kept d (stays (eqb-true e.by c is))
      where
        kept : (d : Action) → IsNoCrossing d →
            crossings_after (e.by == c) d (crossings c (n ++ t)) ≡ crossings c (n ++ t)
        kept (Enter x) none = absurd none
        kept (Leave x) none = absurd none
        kept d none = refl
    one_stays false is (Enter x) stays = ap (λ (z : Bool). cond z (crossings c (n ++ t) + 1) (crossings c (n ++ t))) is
    one_stays false is (Leave x) stays = ap (λ (z : Bool). cond z (crossings c (n ++ t) + 1) (crossings c (n ++ t))) is
    one_stays false is d stays = refl

-- ---- hands ----

-- what the hand knows goes on from what it knew, within its read section
pub record StaysIn (h k : Hand) : Type 0 where
  pub newer : Execution
  pub on : newer ++ known h ≡ known k
  pub stays : StaysInside h.number newer
  pub number : k.number ≡ h.number

pub stays_in : (start h k : Hand) → h.number ≡ start.number → k.number ≡ start.number →
    IsOneSection start h → IsOneSection start k → Continues (known h) (known k) → StaysIn h k
stays_in start h k first last before after on =
    let number : k.number ≡ h.number = last ∙ sym first in
    record {
      newer = on.0;
      on = on.1;
      stays = inside_by_count h.number on.0 (known h)
          (ap (crossings h.number) on.1
          ∙ (ap (λ (z : ℕ). crossings z (known k)) (sym number) ∙ (after ∙ sym before)));
      number = number;
    }

module _ (h k : Hand) (s : StaysIn h k) where
  -- a fact of a hand and an execution, at the end
  pub at_end : (P : ℕ → Execution → Type 0) → P h.number (s.newer ++ known h) → P k.number (known k)
  at_end P p = subst (λ (z : ℕ × Execution). P z.0 z.1) (λ i. (sym s.number i, s.on i)) p

-- a caller that stands in a group still does, and can search there
pub search_stays : (b : Board) (g : ℕ) (h k : Hand) → StaysIn h k → Valid (opening_of b) (known k) →
    CanCall b k → CanSearch b g h → CanSearch b g k
search_stays b g h k s valid can search =
    let stands : stands_in k.number g (known k) ≡ true =
    at_end h k s (λ c t. stands_in c g t ≡ true)
    (stands_in_on h.number g s.newer (known h) s.stays search.stands) in
    record {
      call = can;
      stands = stands;
      walkable = buffers_walkable (opening_of b) (known k) valid k.number g can.reading.caller stands;
      in_table = search.in_table;
    }

-- ---- moments in between ----

-- the moment lies between what the hand knew and what it knows, within its read section
pub record IsMidway (h : Hand) (moment : Execution) (k : Hand) : Type 0 where
  pub first : Execution
  pub to : first ++ known h ≡ moment
  pub before : StaysInside h.number first
  pub second : Execution
  pub from : second ++ moment ≡ known k
  pub behind : StaysInside h.number second

pub midway : (h k : Hand) (moment : Execution) → StaysIn h k → IsWithin h k moment → IsMidway h moment k
midway h k moment s w =
    let c : ℕ = h.number in
    let x : Continues (known h) moment =
    continues_trans (known h) (w.1 ++ known h) moment (w.1, refl) w.4 in
    let y : Continues moment (known k) = w.5 in
    let low : crossings c (known h) ≤ crossings c moment =
    subst (λ (z : Execution). crossings c (known h) ≤ crossings c z) x.1 (grows c x.0 (known h)) in
    let high : crossings c moment ≤ crossings c (known k) =
    subst (λ (z : Execution). crossings c moment ≤ crossings c z) y.1 (grows c y.0 moment) in
    let same : crossings c (known k) ≡ crossings c (known h) =
    ap (crossings c) (sym s.on) ∙ crossings_stay c s.newer (known h) s.stays in
    let there : crossings c moment ≡ crossings c (known h) = omega (arith, low, high, same) in
    let last : crossings c (known k) ≡ crossings c moment = same ∙ sym there in
    record {
      first = x.0;
      to = x.1;
      before = inside_by_count c x.0 (known h) (ap (crossings c) x.1 ∙ there);
      second = y.0;
      from = y.1;
      behind = inside_by_count c y.0 moment (ap (crossings c) y.1 ∙ last);
    }
