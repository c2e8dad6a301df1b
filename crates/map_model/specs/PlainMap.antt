-- The plain map as contracts see it, and what one call does to it.
use Rattle.std.specs.Prelude.{◌≡◌, ℕ, ◌-◌, ◌^◌, ◌≤◌, length, Some, None, IsSomeAnd}
use Rattle.map_model.specs.declared.calls.Call.{Call}
use Rattle.map_model.specs.declared.calls.Call.TheVariants.{Put}
use Rattle.map_model.specs.declared.calls.Answer.{Answer}
use Rattle.map_model.specs.declared.calls.Answer.TheVariants.{Full, Worn}
use Rattle.map_model.specs.declared.calls.Near.{Near}
use Rattle.map_model.specs.declared.calls.Near.TheVariants.{Row, Gap}
use Rattle.map_model.specs.Map.{Map, IsRising, look, first_from}
use Rattle.map_model.specs.Answer.{entry_of}
use Rattle.map_model.specs.Entry.{StandsBetween}

-- the pairs of a plain map, and how many keys it has room for
pub record BoundedMap : Type 0 where
  pub pairs : Map
  pub room : ℕ

-- the keys rise, and no more of them are there than there is room for
pub record IsValid (m : BoundedMap) : Type 0 where
  pub rising : IsRising m.pairs
  pub within : length m.pairs ≤ m.room

-- the call would put a new key, and as many keys are there as there is room for
abbrev pub HasNoRoomFor : BoundedMap → Call → Type 0
HasNoRoomFor m (Put k v) = (look m.pairs k ≡ None) × (length m.pairs ≡ m.room)
HasNoRoomFor m call = ⊥

-- the answered call makes one entry, whoever asked and wherever it is placed
pub record MakesEntry (old : BoundedMap) (call : Call) (answer : Answer) (new : BoundedMap)
    : Type 0 where
  pub entry : (caller place : ℕ)
      → IsSomeAnd (entry_of caller place call answer) (λ e. StandsBetween old.pairs e new.pairs)
  pub valid : IsValid new
  pub same_room : new.room ≡ old.room

-- what one call does: the map before, the call, the answer, the map after; no version is ever exhausted
abbrev pub Answers : BoundedMap → Call → Answer → BoundedMap → Type 0
Answers old call Full new = HasNoRoomFor old call × (new ≡ old)
Answers old call Worn new = ⊥
Answers old call answer new = MakesEntry old call answer new

-- what stands next is the first pair from a key on, or nothing up to the greatest key
abbrev pub IsNext : Map → ℕ → Near → Type 0
IsNext m from (Row k v) = first_from m from ≡ Some (k, v)
IsNext m from (Gap hi) = (first_from m from ≡ None) × (hi ≡ 2 ^ 64 - 1) × (from ≤ hi)
