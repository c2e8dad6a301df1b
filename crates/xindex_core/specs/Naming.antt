-- The name of an index, and what is of the index with a name.
--
-- The fact to remember: each of these facts has one proof at most, so it can stand in a type.
use Rattle.std.specs.Prelude.{◌≡◌, ℕ, Option, Some, None, [], ◌∷◌}
use Rattle.std.proofs.Props.{props}
use base.Stored.{Coded-set}
use Rattle.atomic_table.specs.Seated.{TableId, table_id_coded}
use Rattle.index_machine.specs.declared.opening.Opening.{Opening}
use Rattle.index_machine.specs.contracts.opening.Opening.{the_row}
use Rattle.index_machine.specs.Execution.{Execution, Without}
use Rattle.index_machine.specs.Rows.{Role}
use Rattle.index_rule.specs.declared.board.Board.{Board}
use Rattle.index_rule.specs.declared.hand.Hand.{Hand}
use Rattle.index_rule.specs.declared.rows.PrivateRow.{PrivateRow}
use Rattle.point_calls.specs.PointCalls.{HasSpare}
use Rattle.xindex_core.specs.declared.index.Index.{Index}
use Rattle.xindex_core.specs.declared.keeper.Keeper.{Keeper}
use Rattle.xindex_core.specs.declared.pass.Pass.{Pass}
use Rattle.xindex_core.specs.OneProof.{IsTruthful-prop}
use Rattle.xindex_core.specs.Passes.{IsKeeperOf, IsPassOf, caller_with, known_to_keeper, name_of}
use Rattle.xindex_core.specs.Passes.{opening_with}

-- ---- names ----

-- the index has this name: it is this table, and was opened so
pub record IsNameOf (table : TableId) (opening : Option Opening) (i : Index) : Type 0 where
  pub table_is : name_of i ≡ table
  pub opening_is : Some (opening_with i) ≡ opening

-- the keeper is the one of the index with this name
abbrev pub IsKeeperOfName : TableId → Option Opening → Keeper → Type 0
IsKeeperOfName table opening keeper = (i : Index) → IsNameOf table opening i → IsKeeperOf i keeper

-- the pass is one of the index with this name, between two calls
abbrev pub IsPassOfName : TableId → Option Opening → Pass → Type 0
IsPassOfName table opening pass = (i : Index) → IsNameOf table opening i → IsPassOf i pass

-- what is of an index is of the index with its name, whichever this is
abbrev pub NamesSettleTheIndex : Type 0
NamesSettleTheIndex =
    (table : TableId) (opening : Option Opening) (i : Index) → IsNameOf table opening i →
    ((p : Pass) → IsPassOf i p → IsPassOfName table opening p)
    × ((keeper : Keeper) → IsKeeperOf i keeper → IsKeeperOfName table opening keeper)

-- ---- each has one proof ----

-- so have equations of openings
Opening-set : IsSet Opening
Opening-set = Coded-set the_row.coded

-- so have those of tables
TableId-set : IsSet TableId
TableId-set = Coded-set table_id_coded

-- and of roles
Role-set : IsSet Role
Role-set = Prim.hlevel props

-- that a hand holds its spare row, or none
HasSpare-prop : (b : Board) (h : Hand) (spare : Option PrivateRow) → IsProp (HasSpare b h spare)
HasSpare-prop b h None = Prim.hlevel props
HasSpare-prop b h (Some row) = Role-set _ _

-- that an index has a name
pub IsNameOf-prop : (table : TableId) (opening : Option Opening) (i : Index) →
    IsProp (IsNameOf table opening i)
IsNameOf-prop table opening i = Prim.hlevel (props, Opening-set, TableId-set)

-- that a pass is one of an index
pub IsPassOf-prop : (i : Index) (p : Pass) → IsProp (IsPassOf i p)
IsPassOf-prop i p =
    let spare = HasSpare-prop i.board p.hand p.spare in
    let truthful = IsTruthful-prop (caller_with i p) in
    Prim.hlevel (props, Opening-set, TableId-set, spare, truthful)

-- that a hand has made no step
Without-prop : (hand : ℕ) (t : Execution) → IsProp (Without hand t)
Without-prop hand [] = Prim.hlevel props
Without-prop hand (e ∷ t) = let rest = Without-prop hand t in Prim.hlevel (props, rest)

-- that the keeper is one of an index
pub IsKeeperOf-prop : (i : Index) (keeper : Keeper) → IsProp (IsKeeperOf i keeper)
IsKeeperOf-prop i keeper =
    let idle = Without-prop keeper.hand.number (known_to_keeper keeper) in
    Prim.hlevel (props, Opening-set, TableId-set, idle)

-- that the keeper is the one of an index with a name
pub IsKeeperOfName-prop : (table : TableId) (opening : Option Opening) (keeper : Keeper) →
    IsProp (IsKeeperOfName table opening keeper)
IsKeeperOfName-prop table opening keeper = Prim.hlevel IsKeeperOf-prop

-- that a pass is one of such an index
pub IsPassOfName-prop : (table : TableId) (opening : Option Opening) (pass : Pass) →
    IsProp (IsPassOfName table opening pass)
IsPassOfName-prop table opening pass = Prim.hlevel IsPassOf-prop
