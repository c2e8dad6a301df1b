-- Each answer of a waiter is of the kind that its call has. The proof stands here, since the waiter's own
-- relation cites it.
use Rattle.std.specs.Prelude.{◌≡◌, ◌≤◌, Some, None, Option}
use Rattle.std.proofs.Common.{subst, sym}
use Rattle.map_model.specs.declared.calls.Call.{Call}
use Rattle.map_model.specs.declared.calls.Call.TheVariants.{Get, Put, Remove, Next}
use Rattle.map_model.specs.declared.calls.Answer.{Answer}
use Rattle.map_model.specs.declared.calls.Answer.TheVariants.{Value, Old, Near, Full, Worn}
use Rattle.map_model.specs.declared.calls.Near.TheVariants.{Row, Gap}
use Rattle.map_model.specs.declared.entries.Entry.{Entry}
use Rattle.map_model.specs.declared.entries.Entry.TheVariants.{Made, Look}
use Rattle.map_model.specs.Answer.{Fits}
use Rattle.map_model.specs.Logs.{AllStandIn, StandsIn}
use Rattle.index_machine.specs.Openings.{opening_map}
use Rattle.xindex_core.specs.Answering.{AddsEntry, Answers}
use Rattle.xindex_core.specs.Callers.{Caller, IsLater, seen_by}

-- ---- the one that adds no entry ----

-- there is no entry
abbrev IsNothing : Option Entry → Type 0
IsNothing None = Unit {0}
IsNothing (Some entry) = ⊥

-- a call and an answer that make no entry added none
no_entry : {X : Type 0} (entry : Entry) → None ≡ Some entry → X
no_entry entry e = absurd (subst IsNothing e tt)

-- ---- a look that is true ----

-- a look does not end before it begins
abbrev IsRisingLook : Option Entry → Type 0
IsRisingLook None = Unit {0}
IsRisingLook (Some (Made place change old)) = Unit {0}
IsRisingLook (Some (Look place lo hi found)) = lo ≤ hi

-- so it is of each that was added
rises : (old : Caller) (call : Call) (answer : Answer) (new : Caller) → IsLater old new →
    (adds : AddsEntry old call answer new) → IsRisingLook (Some adds.entry)
rises old call answer new later adds =
    let stand = subst (AllStandIn (opening_map new.opening) (seen_by new)) adds.added later.truthful.logged.stand in
    go adds.entry stand.0
  where
    go : (entry : Entry) → StandsIn (opening_map new.opening) (seen_by new) entry →
        IsRisingLook (Some entry)
    go (Made place change value) stand = tt
    go (Look place lo hi found) stand = stand.1.0

-- each answer is of the kind that its call has
pub answers-fit : (old : Caller) (call : Call) (answer : Answer) (new : Caller) →
    Answers old call answer new → Fits call answer
answers-fit old (Get k) (Value found) new does = tt
answers-fit old (Get k) (Old value) new does = no_entry does.1.entry does.1.is
answers-fit old (Get k) (Near near) new does = no_entry does.1.entry does.1.is
answers-fit old (Get k) Full new does = absurd does.1
answers-fit old (Get k) Worn new does = absurd does.1
answers-fit old (Put k v) (Value found) new does = no_entry does.1.entry does.1.is
answers-fit old (Put k v) (Old value) new does = tt
answers-fit old (Put k v) (Near near) new does = no_entry does.1.entry does.1.is
answers-fit old (Put k v) Full new does = tt
answers-fit old (Put k v) Worn new does = tt
answers-fit old (Remove k) (Value found) new does = no_entry does.1.entry does.1.is
answers-fit old (Remove k) (Old value) new does = tt
answers-fit old (Remove k) (Near near) new does = no_entry does.1.entry does.1.is
answers-fit old (Remove k) Full new does = absurd does.1
answers-fit old (Remove k) Worn new does = tt
answers-fit old (Next from) (Value found) new does = no_entry does.1.entry does.1.is
answers-fit old (Next from) (Old value) new does = no_entry does.1.entry does.1.is
answers-fit old (Next from) (Near (Row k v)) new does =
    subst IsRisingLook (sym does.1.is) (rises old (Next from) (Near (Row k v)) new does.0 does.1)
answers-fit old (Next from) (Near (Gap hi)) new does =
    subst IsRisingLook (sym does.1.is) (rises old (Next from) (Near (Gap hi)) new does.0 does.1)
answers-fit old (Next from) Full new does = absurd does.1
answers-fit old (Next from) Worn new does = absurd does.1
