-- What a caller knows of a key that has no value elsewhere than in the buffer of a group: there a row of
-- the key may come to life, or be linked.
use Rattle.std.specs.Prelude.{◌≡◌, ◌⊎◌, ℕ, true, Some, ◌++◌}
use Rattle.word_layout.specs.declared.phase.Phase.TheVariants.{Opened}
use Rattle.index_machine.specs.declared.opening.Opening.{Opening}
use Rattle.index_machine.specs.Execution.{Execution}
use Rattle.index_machine.specs.Groups.{phase, rebuild}
use Rattle.index_machine.specs.KeyRanges.{group_of}
use Rattle.index_machine.specs.Reaching.{saw_open, saw_opened, stands_in}
use Rattle.index_machine.specs.Sections.{StaysInside}
use Rattle.machine_readers.specs.Readers.{ArrayHasNone, BufferHasNone}
use Rattle.machine_readers.specs.Redirects.{IsBehind}

-- at a moment of its read section the caller stood in the group, and this was the key's
pub record StoodInGroupOf (o : Opening) (hand k group : ℕ) (t : Execution) : Type 0 where
  pub earlier : Execution
  pub newer : Execution
  pub since : newer ++ earlier ≡ t
  pub stays : StaysInside hand newer
  pub stands : stands_in hand group earlier ≡ true
  pub of_key : group_of o k earlier ≡ group

-- the caller saw the key's group open, and no place of its array has a value for the key
pub record HasNoneWhereSeenOpen (o : Opening) (hand k group : ℕ) (t : Execution) : Type 0 where
  pub stood : StoodInGroupOf o hand k group t
  pub seen : saw_open hand group t ≡ true
  pub array : ArrayHasNone o t group k

-- the caller stands in the old group, saw it opened to the rebuild that made the group, and neither
-- the array nor the buffer of the old group has a value for the key
pub record HasNoneBehindOpened (o : Opening) (hand k group : ℕ) (t : Execution) : Type 0 where
  pub old : ℕ
  pub first : ℕ
  pub stands : stands_in hand old t ≡ true
  pub opened : phase old t ≡ Opened first
  pub seen : saw_opened hand first t ≡ true
  pub made : rebuild group t ≡ Some first
  pub behind : IsBehind o t old first group k
  pub array : ArrayHasNone o t old k
  pub buffer : BufferHasNone o t old k

-- in one of these two ways the caller has an insert permission into the group's buffer, and knows that
-- no place of the key elsewhere has a value
abbrev pub HasNoneElsewhere : Opening → ℕ → ℕ → ℕ → Execution → Type 0
HasNoneElsewhere o hand k group t =
    HasNoneWhereSeenOpen o hand k group t ⊎ HasNoneBehindOpened o hand k group t
