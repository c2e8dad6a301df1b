-- What a keeper does between a mark and its check, and the redirects that it still has to copy.
--
-- The fact to remember: a keeper knows both by its own events alone.
use Rattle.std.specs.Prelude.{◌≡◌, ℕ, Bool, cond, ◌==◌, Option, Some, None, [], ◌∷◌}
use Rattle.index_machine.specs.declared.events.Action.{Action}
use Rattle.index_machine.specs.declared.events.Action.TheVariants.{PushFree, Retire, Freeze, Thaw}
use Rattle.index_machine.specs.declared.events.Action.TheVariants.{NewGroup, StoreRedirect}
use Rattle.index_machine.specs.declared.events.Action.TheVariants.{StoreOpened, Install, StoreSlot}
use Rattle.index_machine.specs.declared.events.Action.TheVariants.{Close, Copy, StoreDirect}
use Rattle.index_machine.specs.declared.events.Action.TheVariants.{StoreMoved, StoreUnusedGroup}
use Rattle.index_machine.specs.declared.events.Action.TheVariants.{StoreRoot}
use Rattle.index_machine.specs.Execution.{Execution, own}

-- the action changes no group, no redirect, no old place and no slot
abbrev pub KeepsStructure : Action → Type 0
KeepsStructure (PushFree p head) = ⊥
KeepsStructure (Retire p next) = ⊥
KeepsStructure (Freeze g) = ⊥
KeepsStructure (Thaw g) = ⊥
KeepsStructure (NewGroup g low high f) = ⊥
KeepsStructure (StoreRedirect g a k p) = ⊥
KeepsStructure (StoreOpened g f) = ⊥
KeepsStructure (Install at first low high) = ⊥
KeepsStructure (StoreSlot part side i g) = ⊥
KeepsStructure (Close p expected) = ⊥
KeepsStructure (Copy p y) = ⊥
KeepsStructure (StoreDirect a p k r word) = ⊥
KeepsStructure (StoreMoved p) = ⊥
KeepsStructure (StoreUnusedGroup part side i g) = ⊥
KeepsStructure (StoreRoot part w) = ⊥
KeepsStructure _ = Unit {0}

-- what the keeper did by these events changed no structure
abbrev pub KeeperKeepsStructure : ℕ → Execution → Type 0
KeeperKeepsStructure keeper [] = Unit {0}
KeeperKeepsStructure keeper (e ∷ newer) =
    (e.by ≡ keeper → KeepsStructure e.action) × KeeperKeepsStructure keeper newer

-- the redirect to copy in a place after an action, the hand's own or not, where it was this before
abbrev pub pending_redirect_after : ℕ → Bool → Action → Option ℕ → Option ℕ
pending_redirect_after a mine (StoreRedirect g p k to) x = cond mine (cond (p == a) (Some to) x) x
pending_redirect_after a mine (StoreDirect p from k r word) x = cond mine (cond (p == a) None x) x
pending_redirect_after a mine _ x = x

-- the redirect that the hand wrote in this place and did not yet make direct
abbrev pub pending_redirect : ℕ → ℕ → Execution → Option ℕ
pending_redirect hand a t = own (pending_redirect_after a) None hand t
