-- The loads of keys, by which the array of a group is read.
use Rattle.std.specs.Prelude.{◌≡◌, ℕ, ◌+◌, ◌-◌, ◌<◌, cond, Bool, List, [], ◌∷◌, ◌++◌, length, refl}
use Rattle.std.proofs.Common.{sym, subst, arith, length-append}
use Rattle.word_layout.specs.Addresses.{array_address}
use Rattle.index_machine.specs.declared.events.Action.{Action}
use Rattle.index_machine.specs.declared.events.Action.TheVariants.{LoadKey}
use Rattle.index_machine.specs.declared.opening.Opening.{Opening}
use Rattle.index_machine.specs.Execution.{Execution, own}
use Rattle.index_machine.specs.Words.{limits, shape}
use Rattle.index_rule.specs.declared.board.Board.{Board}
use Rattle.index_rule.specs.declared.hand.Hand.{Hand}
use Rattle.index_rule.specs.Hands.{MakesAll, known, opening_of}

-- ---- how many ----

-- how many keys a hand loaded, after an action, its own or not
abbrev pub key_loads_after : Bool → Action → ℕ → ℕ
key_loads_after mine (LoadKey place key) count = cond mine (count + 1) count
key_loads_after mine _ count = count

-- how many keys the hand loaded
abbrev pub key_loads : ℕ → Execution → ℕ
key_loads hand t = own key_loads_after 0 hand t

-- how many it loaded since then
abbrev pub key_loads_since : Execution → Hand → ℕ
key_loads_since first h = key_loads h.number (known h) - key_loads h.number first

-- ---- which ----

-- the action loads a key of the group's array
abbrev pub IsKeyLoad : Opening → ℕ → Action → Type 0
IsKeyLoad o group (LoadKey place key) =
    (index : ℕ) × (index < (limits o).group_size) × (place ≡ array_address (shape o) group index)
IsKeyLoad o group _ = ⊥

-- so does each of them
abbrev pub AreKeyLoads : Opening → ℕ → List Action → Type 0
AreKeyLoads o group [] = Unit {0}
AreKeyLoads o group (action ∷ actions) = IsKeyLoad o group action × AreKeyLoads o group actions

-- from the one to the other the hand made these loads of keys alone
pub record ReadsOn (b : Board) (group : ℕ) (h k : Hand) : Type 0 where
  pub actions : List Action
  pub are : AreKeyLoads (opening_of b) group actions
  pub makes : MakesAll b h actions k
  pub counted : key_loads k.number (known k) ≡ key_loads h.number (known h) + length actions

-- ---- one behind the other ----

-- it may make none
pub reads_none : (b : Board) (g : ℕ) (h : Hand) → ReadsOn b g h h
reads_none b g h = record { actions = []; are = tt; makes = refl; counted = omega arith }

pub are_joined : (o : Opening) (g : ℕ) (es ds : List Action) → AreKeyLoads o g es →
    AreKeyLoads o g ds → AreKeyLoads o g (es ++ ds)
are_joined o g [] ds new old = old
are_joined o g (e ∷ es) ds new old = (new.0, are_joined o g es ds new.1 old)

pub makes_joined : (b : Board) (h m k : Hand) (es ds : List Action) → MakesAll b h ds m →
    MakesAll b m es k → MakesAll b h (es ++ ds) k
makes_joined b h m k [] ds old new = subst (λ (z : Hand). MakesAll b h ds z) (sym new) old
makes_joined b h m k (e ∷ es) ds old new =
    (new.0, makes_joined b h m new.0 es ds old new.1, new.2)

joined : (b : Board) (g : ℕ) (h m k : Hand) → ReadsOn b g h m → ReadsOn b g m k → ReadsOn b g h k
joined b g h m k first second = record {
  actions = second.actions ++ first.actions;
  are = are_joined (opening_of b) g second.actions first.actions second.are first.are;
  makes = makes_joined b h m k second.actions first.actions first.makes second.makes;
  counted =
      let old = first.counted in
      let new = second.counted in
      omega (arith, length-append second.actions first.actions, old, new);
}

-- loads behind loads, of a reader that stays of its board and group
pub reads_joined : (b c : Board) (g f : ℕ) (h m k : Hand) → c ≡ b → f ≡ g → ReadsOn b g h m →
    ReadsOn c f m k → ReadsOn b g h k
reads_joined b c g f h m k board group first second =
    joined b g h m k first
    (subst (λ (z : ℕ). ReadsOn b z m k) group
    (subst (λ (z : Board). ReadsOn z f m k) board second))
