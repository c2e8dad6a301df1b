-- A whole walk ends in the group that answers for the key, or did.
use Rattle.std.proofs.Common.{◌≡◌, ℕ, zero, suc, ◌+◌, ◌<◌, ◌≤◌, ⊎_elim, true, [], ◌∷◌, ◌++◌}
use Rattle.std.proofs.Common.{sym, subst}
use Rattle.index_machine.proofs.Executions.{valid_before}
use Rattle.index_machine.specs.Conditions.{Valid}
use Rattle.index_machine.specs.Execution.{Execution, event}
use Rattle.index_machine.specs.Reaching.{stands_in}
use Rattle.index_machine.specs.declared.events.Action.TheVariants.{LoadNext, LoadSlotGroup}
use Rattle.machine_chain.proofs.Walking.{answers_while, walks_begin, walks_end, walks_go_on}
use Rattle.machine_chain.specs.Chain.{pivot_of}
use Rattle.machine_chain.specs.Walks.{AnswersFor, BeginsBefore}
use Rattle.machine_chain.specs.WholeWalks.{WalksEndAtTheGroupOfTheKey}
use Rattle.machine_chain.specs.WholeWalks.{WalksStayBehindTheKey}
use Rattle.machine_readers.proofs.ReadSections.{stands_in_on}

pub behind_key : WalksStayBehindTheKey
behind_key o c k zero g is key now valid w =
    let part : ℕ = w.0 in
    let side : ℕ = w.1 in
    let i : ℕ = w.2 in
    let loaded : Execution = event c (LoadSlotGroup part side i g) ∷ w.3 in
    let v : Valid o (w.4 ++ loaded) = subst (λ (y : Execution). Valid o y) (sym w.5.0) valid in
    let b = walks_begin o c part side i g k is w.7 w.8 w.3 (valid_before o w.4 loaded v) w.6 in
    subst (λ (y : Execution). BeginsBefore o k g y × (stands_in c g y ≡ true)) w.5.0 (
      (b.0.0, b.0.1, answers_while o c g b.0.0 is w.4 loaded v w.5.1 b.1 b.0.2, b.0.3),
      stands_in_on c g w.4 loaded w.5.1 b.1,
    )
behind_key o c k (suc n) g is key now valid w =
    let h : ℕ = w.0 in
    let loaded : Execution = event c (LoadNext h (g + 1)) ∷ w.1 in
    let v : Valid o (w.2 ++ loaded) = subst (λ (y : Execution). Valid o y) (sym w.4.0) valid in
    let from = behind_key o c k n h is key w.1 (valid_before o w.2 loaded v).1 w.3 in
    subst (λ (y : Execution). BeginsBefore o k g y × (stands_in c g y ≡ true)) w.4.0
    ((walks_go_on o c h g k is key w.2 w.1 v w.4.1 from.0).0
    (subst (λ (y : Execution). pivot_of o g y ≤ k) (sym w.4.0) w.5))

pub ends_at : WalksEndAtTheGroupOfTheKey
ends_at o c k g is key now valid w =
    let found : ℕ = w.1 in
    let loaded : Execution = event c (LoadNext g found) ∷ w.2 in
    let v : Valid o (w.3 ++ loaded) = subst (λ (y : Execution). Valid o y) (sym w.5.0) valid in
    let v_loaded = valid_before o w.3 loaded v in
    let from = behind_key o c k w.0 g is key w.2 v_loaded.1 w.4 in
    let there : stands_in c g loaded ≡ true =
    stands_in_on c g (event c (LoadNext g found) ∷ []) w.2 ((λ z. tt), tt) from.1 in
    subst (λ (y : Execution). AnswersFor o k g y × (stands_in c g y ≡ true)) w.5.0 (
      ⊎_elim
          (λ (z : found ≡ 0).
          answers_while o c g k is w.3 loaded v w.5.1 there (subst
          (λ (y : ℕ). Valid o (event c (LoadNext g y) ∷ w.2) →
          AnswersFor o k g (event c (LoadNext g y) ∷ w.2))
          (sym z) (λ u. walks_end o c g k is key w.2 u from.0) v_loaded))
          (λ (z : (n : ℕ) × (found ≡ n + 1) × (k < pivot_of o n now)).
          subst (λ (y : ℕ). Valid o (w.3 ++ (event c (LoadNext g y) ∷ w.2)) →
          (k < pivot_of o z.0 (w.3 ++ (event c (LoadNext g y) ∷ w.2))) →
          AnswersFor o k g (w.3 ++ (event c (LoadNext g y) ∷ w.2))) (sym z.1)
          (λ u lt. (walks_go_on o c g z.0 k is key w.3 w.2 u w.5.1 from.0).1 lt) v
          (subst (λ (y : Execution). k < pivot_of o z.0 y) (sym w.5.0) z.2))
          w.6,
      stands_in_on c g w.3 loaded w.5.1 there,
    )
