-- A whole walk of a caller, from a slot to the group of its key, as one fact of an execution.
use Rattle.index_machine.specs.Keepers.{IsPart, IsKeyIn}
use Rattle.std.specs.Prelude.{◌≡◌, ◌⊎◌, ℕ, zero, suc, ◌+◌, ◌<◌, ◌≤◌, true, ◌++◌, ◌∷◌}
use Rattle.index_machine.specs.declared.events.Action.TheVariants.{LoadNext, LoadSlotGroup}
use Rattle.index_machine.specs.declared.opening.Opening.{Opening}
use Rattle.index_machine.specs.Execution.{Execution, event}
use Rattle.word_layout.specs.Parts.{greatest_key}
use Rattle.index_machine.specs.Reaching.{stands_in}
use Rattle.index_machine.specs.Sections.{IsCaller, StaysInside}
use Rattle.index_machine.specs.Conditions.{Valid}
use Rattle.machine_chain.specs.Chain.{pivot_of}
use Rattle.machine_chain.specs.Walks.{AnswersFor, BeginsBefore, slot_pivot}

-- the newer events lead from the one execution to the other, and the caller's read section goes on over them
abbrev pub GoesOnFrom : ℕ → Execution → Execution → Execution → Type 0
GoesOnFrom caller loaded newer now = (newer ++ loaded ≡ now) × StaysInside caller newer

-- by so many next words the caller has come to this group: from the group of a slot whose pivot is
-- at most the key, and from each group to the next one, whose pivot is at most the key
abbrev pub HasWalkedTo : Opening → ℕ → ℕ → ℕ → ℕ → Execution → Type 0
HasWalkedTo o caller k zero group now =
    (part : ℕ) × (side : ℕ) × (i : ℕ) × (t : Execution) × (newer : Execution)
    × GoesOnFrom caller (event caller (LoadSlotGroup part side i group) ∷ t) newer now
    × (slot_pivot o part side i t ≤ k) × IsPart o part × IsKeyIn o part k
HasWalkedTo o caller k (suc steps) group now =
    (before : ℕ) × (t : Execution) × (newer : Execution) × HasWalkedTo o caller k steps before t
    × GoesOnFrom caller (event caller (LoadNext before (group + 1)) ∷ t) newer now
    × (pivot_of o group now ≤ k)

-- it ended there: there is no next group, or the next one's pivot is greater than the key
abbrev pub HasEndedAt : Opening → ℕ → ℕ → ℕ → Execution → Type 0
HasEndedAt o caller k group now =
    (steps : ℕ) × (found : ℕ) × (t : Execution) × (newer : Execution)
    × HasWalkedTo o caller k steps group t
    × GoesOnFrom caller (event caller (LoadNext group found) ∷ t) newer now
    × ((found ≡ 0) ⊎ ((next : ℕ) × (found ≡ next + 1) × (k < pivot_of o next now)))

-- ---- the laws, over all executions ----

-- on its way the caller stands in groups that begin at the key or before
abbrev pub WalksStayBehindTheKey : Type 0
WalksStayBehindTheKey =
    (o : Opening) (caller k steps group : ℕ) → IsCaller o caller → k ≤ greatest_key →
    (now : Execution) → Valid o now → HasWalkedTo o caller k steps group now →
    BeginsBefore o k group now × (stands_in caller group now ≡ true)

-- where it ends the group answers for the key, or did before the key's last install
abbrev pub WalksEndAtTheGroupOfTheKey : Type 0
WalksEndAtTheGroupOfTheKey =
    (o : Opening) (caller k group : ℕ) → IsCaller o caller → k ≤ greatest_key →
    (now : Execution) → Valid o now → HasEndedAt o caller k group now →
    AnswersFor o k group now × (stands_in caller group now ≡ true)
