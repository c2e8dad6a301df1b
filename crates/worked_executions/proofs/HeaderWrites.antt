-- A keeper writes the header of a group row of its part that is out of use, word by word.
--
-- The fact to remember: each write leaves the row out of use, so the next one is allowed too.
use Rattle.std.proofs.Common.{◌≢◌, ℕ, ◌<◌, ◌∷◌, Some, inl}
use Rattle.word_layout.specs.Shape.{group_total}
use Rattle.index_machine.specs.Conditions.{Valid}
use Rattle.index_machine.specs.Execution.{Execution, event}
use Rattle.index_machine.specs.KeyRanges.{successor}
use Rattle.index_machine.specs.Permissions.{IsGone}
use Rattle.index_machine.specs.RebuildConditions.{IsSettled}
use Rattle.index_machine.specs.Sections.{IsHand}
use Rattle.index_machine.specs.Keepers.{IsGroupKeeper}
use Rattle.index_machine.specs.Words.{shape}
use Rattle.index_machine.specs.declared.events.Action.TheVariants.{StoreHeader}
use Rattle.index_machine.specs.declared.opening.Opening.{Opening}
use Rattle.word_layout.specs.Headers.{IsHeaderWord}
use Rattle.word_layout.specs.declared.headers.HeaderWord.{HeaderWord}

-- the execution is valid, and the group's row is out of use then: no key has the group, nor is to
-- have it; the hand is that of its keeper
pub record IsFreeRow (o : Opening) (hand group : ℕ) (t : Execution) : Type 0 where
  pub valid : Valid o t
  pub is_hand : IsHand o hand
  pub keeper : IsGroupKeeper o hand group
  pub exists : group < group_total (shape o)
  pub gone : IsGone o group t
  pub settled : IsSettled o group t
  pub unplanned : (k : ℕ) → successor k t ≢ Some group

-- a group that is gone stays so at a write of a header
still_gone : (o : Opening) (g hand group : ℕ) (which : HeaderWord) (value : ℕ) (t : Execution) →
    IsGone o g t → IsGone o g (event hand (StoreHeader group which value) ∷ t)
still_gone o g hand group which value t gone = record {
  unowned = gone.unowned;
  unnamed = gone.unnamed;
  empty = gone.empty;
}

-- the keeper may write this word of the row, which stays out of use
pub written : (o : Opening) (hand group : ℕ) (which : HeaderWord) (value : ℕ) (t : Execution) →
    IsHeaderWord which → IsFreeRow o hand group t →
    IsFreeRow o hand group (event hand (StoreHeader group which value) ∷ t)
written o hand group which value t is_word free = record {
  valid = (
    record {
      keeper = free.keeper;
      exists = free.exists;
      is_word = is_word;
      unowned = free.gone.unowned;
      stage = inl (free.gone, free.settled, free.unplanned);
    },
    free.valid,
    free.is_hand,
  );
  is_hand = free.is_hand;
  keeper = free.keeper;
  exists = free.exists;
  gone = still_gone o group hand group which value t free.gone;
  settled = λ f at g e. still_gone o g hand group which value t (free.settled f at g e);
  unplanned = free.unplanned;
}
