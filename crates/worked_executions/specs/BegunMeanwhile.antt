-- A beginning that is refused: a rebuild is under way, and callers are led to its new groups.
--
-- The table is that of the name that is used again.
use Rattle.std.specs.Prelude.{◌≡◌, ℕ, [], ◌∷◌}
use Rattle.word_layout.specs.declared.headers.HeaderWord.TheVariants as header
use Rattle.index_machine.specs.declared.events.Action.TheVariants.{Freeze, NewGroup, StoreHeader}
use Rattle.index_machine.specs.declared.events.Action.TheVariants.{StoreOpened}
use Rattle.index_machine.specs.declared.opening.Opening.{Opening}
use Rattle.index_machine.specs.Execution.{Execution, event}
use Rattle.word_layout.specs.Shape.{in_one_part}
use Rattle.index_machine.specs.Words.{shape}
use Rattle.word_layout.specs.Parts.{greatest_key}
use Rattle.index_machine.specs.Conditions.{Valid}
use Rattle.worked_executions.specs.NameUsedAgain.{four_groups, split_in_two}

-- groups 1 and 2 answer for the keys up to 4 and behind it, and the rebuild named 3 made 3 and 0
-- for these keys, 3 with one lane and 0 with one from 5 on and one from 8 on: 1 is opened to it, and 2
-- not yet
abbrev pub opened_in_part : Execution
opened_in_part =
    event 1 (StoreOpened 1 3)
    ∷ event 1 (NewGroup 0 5 greatest_key 3)
    ∷ event 1 (StoreHeader 0 (header.Cut 1) 8)
    ∷ event 1 (StoreHeader 0 (header.Cut 0) 5)
    ∷ event 1 (StoreHeader 0 header.Lanes 2)
    ∷ event 1 (StoreHeader 0 header.Phase 0)
    ∷ event 1 (NewGroup 3 0 4 3)
    ∷ event 1 (StoreHeader 3 header.Lanes 1)
    ∷ event 1 (StoreHeader 3 header.Next 1)
    ∷ event 1 (Freeze 1)
    ∷ split_in_two

-- on some table with these limits, opened without rows, this is valid, and no group can be begun
-- next: a caller of 1 goes to 3, whose next word names 0, and were 0 begun for another rebuild now,
-- nothing would say what the caller finds there
abbrev pub NoGroupIsBegunMeanwhile : Type 0
NoGroupIsBegunMeanwhile =
    (o : Opening) × (shape o ≡ in_one_part four_groups) × (o.rows ≡ []) × Valid o opened_in_part
    × ((hand group low high first : ℕ) →
    Valid o (event hand (NewGroup group low high first) ∷ opened_in_part) → ⊥)
