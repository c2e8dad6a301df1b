-- That a caller is truthful has one proof at most, so it can stand in a type.
use Rattle.std.specs.Prelude.{ℕ, Option, Some, None, [], ◌∷◌}
use Rattle.std.proofs.Props.{props}
use base.Stored.{Coded-set}
use Rattle.map_model.specs.declared.entries.Change.{Change}
use Rattle.map_model.specs.declared.entries.Change.TheVariants as change
use Rattle.map_model.specs.declared.entries.Entry.{Entry}
use Rattle.map_model.specs.declared.entries.Entry.TheVariants.{Look, Made}
use Rattle.map_model.specs.contracts.entries.Change.{the_row}
use Rattle.map_model.specs.Entry.{IsFound}
use Rattle.map_model.specs.History.{History, IsLegal, MayFollow, after}
use Rattle.map_model.specs.Logs.{AllStandIn, IsLogOf, IsOrdered, Log, StandsIn, map_at}
use Rattle.map_model.specs.Map.{Map}
use Rattle.machine_places.specs.Agreement.{AreByCallers}
use Rattle.index_machine.specs.declared.opening.Opening.{Opening}
use Rattle.index_machine.specs.Openings.{opening_map}
use Rattle.xindex_core.specs.Callers.{Caller, IsTruthful, seen_by}

-- equations of changes have one
Change-set : IsSet Change
Change-set = Coded-set the_row.coded

-- that a look found this
IsFound-prop : (m : Map) (lo hi : ℕ) (found : Option (ℕ × ℕ)) → IsProp (IsFound m lo hi found)
IsFound-prop m lo hi None = Prim.hlevel props
IsFound-prop m lo hi (Some pair) = Prim.hlevel props

-- that it is true at its place
StandsIn-prop : (m : Map) (h : History) (entry : Entry) → IsProp (StandsIn m h entry)
StandsIn-prop m h (Made place change old) = Prim.hlevel (props, Change-set)
StandsIn-prop m h (Look place lo hi found) =
    let is = IsFound-prop (map_at m h place) lo hi found in Prim.hlevel (props, is)

-- that all of a log are
AllStandIn-prop : (m : Map) (h : History) (log : Log) → IsProp (AllStandIn m h log)
AllStandIn-prop m h [] = Prim.hlevel props
AllStandIn-prop m h (e ∷ es) =
    let one = StandsIn-prop m h e in
    let all = AllStandIn-prop m h es in
    Prim.hlevel (props, one, all)

-- that places do not fall
IsOrdered-prop : (log : Log) → IsProp (IsOrdered log)
IsOrdered-prop [] = Prim.hlevel props
IsOrdered-prop (e ∷ es) = let rest = IsOrdered-prop es in Prim.hlevel (props, rest)

-- that a list of entries is a caller's log
IsLogOf-prop : (m : Map) (caller : ℕ) (h : History) (log : Log) → IsProp (IsLogOf m caller h log)
IsLogOf-prop m caller h log =
    let all = AllStandIn-prop m h log in
    let ordered = IsOrdered-prop log in
    Prim.hlevel (props, Change-set, all, ordered)

-- that a change may follow
MayFollow-prop : (m : Map) (c : Change) → IsProp (MayFollow m c)
MayFollow-prop m (change.Put c k v) = Prim.hlevel props
MayFollow-prop m (change.Remove c k) = Prim.hlevel props

-- that a history is legal
IsLegal-prop : (m : Map) (h : History) → IsProp (IsLegal m h)
IsLegal-prop m [] = Prim.hlevel props
IsLegal-prop m (c ∷ cs) =
    let one = MayFollow-prop (after m cs) c in
    let rest = IsLegal-prop m cs in
    Prim.hlevel (props, one, rest)

-- that changes are by callers of the index
AreByCallers-prop : (o : Opening) (h : History) → IsProp (AreByCallers o h)
AreByCallers-prop o [] = Prim.hlevel props
AreByCallers-prop o (c ∷ cs) = let rest = AreByCallers-prop o cs in Prim.hlevel (props, rest)

-- so that a caller is truthful
pub IsTruthful-prop : (c : Caller) → IsProp (IsTruthful c)
IsTruthful-prop c =
    let logged = IsLogOf-prop (opening_map c.opening) c.number (seen_by c) c.log in
    let legal = IsLegal-prop (opening_map c.opening) (seen_by c) in
    let callers = AreByCallers-prop c.opening (seen_by c) in
    Prim.hlevel (props, logged, legal, callers)
