-- Which answers a call has, and the entry that an answered call makes.
use Rattle.std.specs.Prelude.{ℕ, ◌≤◌, Some, None, Option}
use Rattle.map_model.specs.declared.calls.Call.{Call}
use Rattle.map_model.specs.declared.calls.Call.TheVariants.{Get, Put, Remove, Next}
use Rattle.map_model.specs.declared.calls.Answer.{Answer}
use Rattle.map_model.specs.declared.calls.Answer.TheVariants.{Value, Old, Near, Full, Worn}
use Rattle.map_model.specs.declared.calls.Near.TheVariants.{Row, Gap}
use Rattle.map_model.specs.declared.entries.Change.TheVariants as change
use Rattle.map_model.specs.declared.entries.Entry.{Entry}
use Rattle.map_model.specs.declared.entries.Entry.TheVariants.{Made, Look}

-- the answer is of a kind that the call has, and what stands next does not stand before
abbrev pub Fits : Call → Answer → Type 0
Fits (Get k) (Value found) = Unit {0}
Fits (Put k v) (Old old) = Unit {0}
Fits (Put k v) Full = Unit {0}
Fits (Put k v) Worn = Unit {0}
Fits (Remove k) (Old old) = Unit {0}
Fits (Remove k) Worn = Unit {0}
Fits (Next from) (Near (Row k v)) = from ≤ k
Fits (Next from) (Near (Gap hi)) = from ≤ hi
Fits call answer = ⊥

-- what was found at one key, as a pair
abbrev pub pair_at : ℕ → Option ℕ → Option (ℕ × ℕ)
pair_at k None = None
pair_at k (Some v) = Some (k, v)

-- the entry that an answered call makes in its caller's log, at this place of the history; a refusal makes none
abbrev pub entry_of : ℕ → ℕ → Call → Answer → Option Entry
entry_of caller place (Get k) (Value found) = Some (Look place k k (pair_at k found))
entry_of caller place (Put k v) (Old old) = Some (Made place (change.Put caller k v) old)
entry_of caller place (Remove k) (Old (Some v)) =
    Some (Made place (change.Remove caller k) (Some v))
entry_of caller place (Remove k) (Old None) = Some (Look place k k None)
entry_of caller place (Next from) (Near (Row k v)) = Some (Look place from k (Some (k, v)))
entry_of caller place (Next from) (Near (Gap hi)) = Some (Look place from hi None)
entry_of caller place call answer = None
