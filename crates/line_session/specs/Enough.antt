-- What requests may change, and replies that tell of no refusal.
use Rattle.std.specs.Prelude.{ℕ, ◌+◌, List, [], ◌∷◌}
use Rattle.std.specs.List.{AllByRecursion}
use Rattle.wire_commands.specs.declared.request.Request.{Request}
use Rattle.wire_commands.specs.declared.request.Request.TheVariants.{Put, Remove}
use Rattle.wire_commands.specs.declared.reply.Reply.{Reply}
use Rattle.wire_commands.specs.declared.reply.Reply.TheVariants.{Full, Worn}

-- how many keys a request inserts at most
abbrev pub may_insert : Request → ℕ
may_insert (Put key value) = 1
may_insert request = 0

-- how many changes a request makes at most
abbrev pub may_change : Request → ℕ
may_change (Put key value) = 1
may_change (Remove key) = 1
may_change request = 0

-- what requests come to, all together, by such a number for each
abbrev pub asked : (Request → ℕ) → List Request → ℕ
asked each [] = 0
asked each (request ∷ requests) = each request + asked each requests

-- the reply does not tell that the index refused a call
abbrev pub IsNoRefusal : Reply → Type 0
IsNoRefusal Full = ⊥
IsNoRefusal Worn = ⊥
IsNoRefusal reply = Unit {0}

-- no reply tells that the index refused a call
abbrev pub HasNoRefusal : List Reply → Type 0
HasNoRefusal replies = AllByRecursion IsNoRefusal replies
