-- A walk from a slot along next words ends in the group that answers for the key, or did.
use Rattle.std.proofs.Common.{◌≡◌, ℕ, ◌+◌, inl, inr, ⊎_elim, Some}
use Rattle.std.proofs.Common.{true, false, [], ◌∷◌, ◌++◌, refl, sym, ◌∙◌, subst, arith}
use Rattle.index_machine.specs.Keepers.{IsGroupKeeper, IsPartKeeper}
use Rattle.machine_chain.proofs.PartKeys.{key_lies, part_of_key, same_end}
use Rattle.index_machine.proofs.Executions.{choice-same, own_step, valid_before}
use Rattle.index_machine.proofs.RepresentingAll.{represented}
use Rattle.index_machine.specs.Conditions.{Valid}
use Rattle.index_machine.specs.Execution.{Execution, event}
use Rattle.index_machine.specs.KeyRanges.{group_of, predecessor}
use Rattle.index_machine.specs.Permissions.{IsUnopened}
use Rattle.index_machine.specs.Reaching.{SeesSlot, stands_in, stands_in_after}
use Rattle.index_machine.specs.RecordConditions.{MayWalk}
use Rattle.index_machine.specs.Represents.{has_stale_phase}
use Rattle.index_machine.specs.Sections.{IsCaller, IsReading, StaysInside}
use Rattle.index_machine.specs.declared.events.Action.TheVariants.{LoadNext, LoadSlotGroup}
use Rattle.index_machine.specs.declared.opening.Opening.{Opening}
use Rattle.machine_barriers.proofs.Reaches.{caller_not_keeper}
use Rattle.machine_buffers.proofs.Walks.{before, of_keys, true_before, true_of_keys}
use Rattle.machine_chain.proofs.Answers.{answers_lead, answers_on}
use Rattle.machine_chain.proofs.Pivots.{start_at_pivot}
use Rattle.machine_chain.proofs.Slots.{slots_lead}
use Rattle.machine_chain.proofs.Standing.{place_next, standing}
use Rattle.machine_chain.proofs.Words.{pivot_same}
use Rattle.machine_chain.specs.Chain.{pivot_of}
use Rattle.machine_chain.specs.Laws.{AnswersStay, AnswersWhileUnopened, BuffersWhereCallersStand}
use Rattle.machine_chain.specs.Laws.{GroupsLeadOn, NextWordsAreReachable, PhasesWhereCallersStand}
use Rattle.machine_chain.specs.Laws.{PivotsAreLeastKeys, PivotsStay, WalksBegin, WalksEnd}
use Rattle.machine_chain.specs.Laws.{WalksGoOn}
use Rattle.machine_chain.specs.Walks.{AnswersFor, IsAwaitedBy}
use Rattle.machine_readers.proofs.ReadSections.{opened_step, stands_in_on}
use Rattle.machine_readers.proofs.StandingCallers.{groups_before_are_opened}

-- ---- what stays while a caller stands in the group ----

pub answers_while : AnswersStay
answers_while o c g k is [] t valid stay s a = a
answers_while o c g k is (e ∷ n) t valid stay s a =
    answers_on o (n ++ t) e.by e.action k g valid.1 valid.0
    (λ gone. gone.empty c is (stands_in_on c g n t stay.1 s))
    (answers_while o c g k is n t valid.1 stay.1 s a)

pub pivots_while : PivotsStay
pivots_while o c g is [] t valid stay s = refl
pivots_while o c g is (e ∷ n) t valid stay s =
    let there = stands_in_on c g n t stay.1 s in
    pivot_same o (n ++ t) e.by e.action g valid.0 (λ gone y u. gone.empty c is there)
    (λ low high f m z. m.gone.empty c is there)
    ∙ pivots_while o c g is n t valid.1 stay.1 s

-- ---- loads ----

walker : (o : Opening) (c g : ℕ) (t : Execution) → IsCaller o c → MayWalk o c g t →
    stands_in c g t ≡ true
walker o c g t is m = ⊎_elim (λ (z : IsReading o c t × (stands_in c g t ≡ true)). z.1)
    (λ (z : IsGroupKeeper o c g). caller_not_keeper o c is (omega arith)) m

pub next_words : NextWordsAreReachable
next_words o t valid c g found walks e = record {
  allowed = walks;
  found_word = e;
  says = λ is n z. let s = walker o c g t is walks in
      (place_next o t c g n valid is s (standing o t valid c g is s) (e ∙ z)).1;
}

-- where a caller stands the phase word is true
pub not_stale : (o : Opening) (t : Execution) → Valid o t → (c g : ℕ) → IsCaller o c →
    stands_in c g t ≡ true → has_stale_phase g t ≡ false
not_stale o t valid c g is s = ⊎_elim
    (λ (z : (k : ℕ) × AnswersFor o k g t). ⊎_elim
    (λ (y : group_of o z.0 t ≡ g). true_of_keys o t valid g (inl (z.0, y)))
    (λ (y : predecessor o z.0 t ≡ Some g). true_before o t valid c g z.0 is s y) z.1)
    (λ (z : IsAwaitedBy o c g t). true_of_keys o t valid g (inr (z.1, z.4)))
    (standing o t valid c g is s)

pub phases_true : PhasesWhereCallersStand
phases_true o t valid c g found is walks e =
    let s = walker o c g t is walks in
    record {
      allowed = walks;
      found_word = e;
      says = sym ((represented o t valid).phases g (not_stale o t valid c g is s)) ∙ e;
    }

pub buffers_walkable : BuffersWhereCallersStand
buffers_walkable o t valid c g is s = ⊎_elim
    (λ (z : (k : ℕ) × AnswersFor o k g t). ⊎_elim
    (λ (y : group_of o z.0 t ≡ g). of_keys o t valid g (inl (z.0, y)))
    (λ (y : predecessor o z.0 t ≡ Some g). before o t valid c g z.0 is s y) z.1)
    (λ (z : IsAwaitedBy o c g t). of_keys o t valid g (inr (z.1, z.4)))
    (standing o t valid c g is s)

pub lead_on : GroupsLeadOn
lead_on o t valid c g k is s le a = answers_lead o t c g k valid is s le a

pub least_keys : PivotsAreLeastKeys
least_keys o t valid c g k is s le a = start_at_pivot o t c g k valid is s le a

-- ---- walks ----

pub walks_begin : WalksBegin
walks_begin o c part side i g k is is_part key t valid le =
    let m = valid.0 in
    let sees : SeesSlot c part side i t = ⊎_elim (λ (y : IsReading o c t × SeesSlot c part side i t). y.1)
    (λ (y : IsPartKeeper o c part). caller_not_keeper o c is (omega arith)) m.allowed in
    let l = (slots_lead o t valid.1).leads part side i is_part (inr (c, is, sees)) in
    let low = l.1 in
    let starts = (part_of_key o part k is_part key).0 in
    let from = l.3.from in (
      (
        l.0,
        omega (arith, low, le),
        subst (λ (y : ℕ). AnswersFor o l.0 y t) m.says l.2,
        omega (arith, starts, from),
      ),
      own_step (stands_in_after g) false c (LoadSlotGroup part side i g) t
          ∙ choice-same g g true (stands_in c g t) refl,
    )

pub walks_go_on : WalksGoOn
walks_go_on o c g n k is key newer t valid stay from =
    let T : Execution = event c (LoadNext g (n + 1)) ∷ t in
    let valid_T : Valid o T = valid_before o newer T valid in
    let m = valid_T.0 in
    let s : stands_in c g t ≡ true = walker o c g t is m.allowed in
    let low = from.1 in
    let l = (answers_lead o t c g from.0 valid_T.1 is s (omega (arith, low, key)) from.2).next n
    m.found_word in
    let stands : stands_in c n T ≡ true =
    own_step (stands_in_after n) false c (LoadNext g (n + 1)) t
    ∙ choice-same (n + 1) (n + 1) true (stands_in c n t) refl in
    let here : stands_in c g T ≡ true = stands_in_on c g (event c (LoadNext g (n + 1)) ∷ []) t
    ((λ z. tt), tt) s in
    let pivot : pivot_of o n (newer ++ T) ≡ l.0 + 1 =
    pivots_while o c n is newer T valid stay stands ∙ l.3 in
    let starts = from.3 in
    let far = l.1 in (
      (λ le. (
        (
          l.0 + 1,
          omega (arith, le, pivot),
          answers_while o c n (l.0 + 1) is newer T valid stay stands l.4,
          omega (arith, starts, far),
        ),
        stands_in_on c n newer T stay stands,
      )),
      (λ lt. answers_while o c g k is newer T valid stay here
          (l.5 k low (omega (arith, lt, pivot)))),
    )

pub walks_end : WalksEnd
walks_end o c g k is key t valid from =
    let m = valid.0 in
    let s : stands_in c g t ≡ true = walker o c g t is m.allowed in
    let low = from.1 in
    let lies = key_lies o k key in
    let same = same_end o k from.0 from.3 (omega (arith, low, lies.1)) in
    (answers_lead o t c g from.0 valid.1 is s (omega (arith, low, key)) from.2).end m.found_word
    k low (omega (arith, lies.1, same))

-- ---- which group it is ----

-- where a caller stands a group that is not opened was not opened before
unopened_before : (o : Opening) (c g : ℕ) → IsCaller o c → (n t : Execution) → Valid o (n ++ t) →
    StaysInside c n → stands_in c g t ≡ true → IsUnopened g (n ++ t) → IsUnopened g t
unopened_before o c g is [] t valid stay s un = un
unopened_before o c g is (e ∷ n) t valid stay s un =
    unopened_before o c g is n t valid.1 stay.1 s (λ f z.
    un f (opened_step o (n ++ t) e.by e.action c g f valid.0 is
    (stands_in_on c g n t stay.1 s) z))

pub while_unopened : AnswersWhileUnopened
while_unopened o c g k is newer t valid stay s a un =
    let valid_t = valid_before o newer t valid in
    let before = unopened_before o c g is newer t valid stay s un in
    ⊎_elim (λ (z : group_of o k t ≡ g). z)
    (λ (z : predecessor o k t ≡ Some g).
    let p = groups_before_are_opened o t valid_t k g z in absurd (before p.0 p.1)) a
