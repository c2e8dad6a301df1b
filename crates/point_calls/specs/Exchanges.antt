-- How often a call tries an exchange: one that is made and one that fails count alike.
use Rattle.std.specs.Prelude.{ℕ, ◌+◌, ◌≤◌, ◌&&◌, Bool, true, false, cond}
use Rattle.index_machine.specs.declared.events.Action.{Action}
use Rattle.index_machine.specs.declared.events.Action.TheVariants.{Close, FailLink, FailLock}
use Rattle.index_machine.specs.declared.events.Action.TheVariants.{FailPop, FailPush, LinkRow, Lock}
use Rattle.index_machine.specs.declared.events.Action.TheVariants.{PopFree, PushFree}
use Rattle.index_machine.specs.Execution.{Execution, own}
use Rattle.index_rule.specs.declared.hand.Hand.{Hand}
use Rattle.index_rule.specs.Hands.{known}

-- ---- which actions are exchanges ----

-- a version lock was to be exchanged
abbrev pub exchanges_lock : Action → Bool
exchanges_lock (Lock place expected) = true
exchanges_lock (Close place expected) = true
exchanges_lock (FailLock place expected found) = true
exchanges_lock _ = false

-- the head of the free stack was to be exchanged
abbrev pub exchanges_head : Action → Bool
exchanges_head (PopFree place next) = true
exchanges_head (FailPop expected found) = true
exchanges_head (PushFree place head) = true
exchanges_head (FailPush place expected found) = true
exchanges_head _ = false

-- a link of a buffer was to be exchanged
abbrev pub exchanges_link : Action → Bool
exchanges_link (LinkRow group lane place change before next) = true
exchanges_link (FailLink group lane before expected found) = true
exchanges_link _ = false

-- ---- how many a hand made ----

-- the count after an action: one more, where the action is the hand's own and of this kind
abbrev pub count_after : (Action → Bool) → Bool → Action → ℕ → ℕ
count_after kind mine action count = cond (mine && kind action) (count + 1) count

-- how many actions of this kind the hand made
abbrev pub own_count : (Action → Bool) → ℕ → Execution → ℕ
own_count kind hand t = own (count_after kind) 0 hand t

-- how many exchanges of a version lock the hand made
abbrev pub lock_exchanges : ℕ → Execution → ℕ
lock_exchanges hand t = own_count exchanges_lock hand t

-- how many exchanges of the head of the free stack
abbrev pub head_exchanges : ℕ → Execution → ℕ
head_exchanges hand t = own_count exchanges_head hand t

-- how many exchanges of a link
abbrev pub link_exchanges : ℕ → Execution → ℕ
link_exchanges hand t = own_count exchanges_link hand t

-- ---- how many a call makes at most ----

-- numbers of exchanges, by what is exchanged
pub record ExchangeCounts : Type 0 where
  pub locks : ℕ
  pub heads : ℕ
  pub links : ℕ

-- the hand itself made no more exchanges in the call than these
pub record MakesFewExchanges (most : ExchangeCounts) (h k : Hand) : Type 0 where
  pub locks : lock_exchanges k.number (known k) ≤ lock_exchanges h.number (known h) + most.locks
  pub heads : head_exchanges k.number (known k) ≤ head_exchanges h.number (known h) + most.heads
  pub links : link_exchanges k.number (known k) ≤ link_exchanges h.number (known h) + most.links

-- no exchange
abbrev pub no_exchange : ExchangeCounts
no_exchange = record { locks = 0; heads = 0; links = 0 }

-- one exchange of a version lock
abbrev pub one_lock : ExchangeCounts
one_lock = record { locks = 1; heads = 0; links = 0 }

-- one exchange of the head of the free stack, which takes a row
abbrev pub one_head : ExchangeCounts
one_head = record { locks = 0; heads = 1; links = 0 }

-- one exchange of a link
abbrev pub one_link : ExchangeCounts
one_link = record { locks = 0; heads = 0; links = 1 }

-- one exchange of the head and one of a link, which take a row and link it
abbrev pub one_head_and_link : ExchangeCounts
one_head_and_link = record { locks = 0; heads = 1; links = 1 }

-- one exchange of each
abbrev pub one_of_each : ExchangeCounts
one_of_each = record { locks = 1; heads = 1; links = 1 }
