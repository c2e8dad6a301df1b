-- Where a caller stands after a load on its way, and what a next word tells it.
use Rattle.std.proofs.Common.{◌≡◌, ℕ, ◌+◌, ◌<◌, inl, true, false, ◌++◌, refl, ◌∙◌}
use Rattle.word_layout.specs.Shape.{group_total}
use Rattle.index_machine.specs.declared.events.Action.{Action}
use Rattle.index_machine.specs.declared.events.Action.TheVariants.{LoadNext}
use Rattle.index_machine.specs.Reaching.{stands_in, stands_in_after}
use Rattle.index_machine.specs.Sections.{IsNoCrossing}
use Rattle.index_machine.specs.Words.{shape}
use Rattle.index_machine.proofs.Executions.{choice-same, own_step}
use Rattle.index_machine.proofs.Holders.{TakesLock}
use Rattle.machine_chain.proofs.Walking.{buffers_walkable}
use Rattle.index_rule.specs.declared.board.Board.{Board}
use Rattle.index_rule.specs.declared.hand.Hand.{Hand}
use Rattle.index_rule.specs.Buffers.{CanWalk}
use Rattle.index_rule.specs.Calls.{CanCall}
use Rattle.index_rule.specs.Hands.{Makes, known, opening_of}
use Rattle.index_rule.proofs.RecordStepping.{now, still_inside, still_stands, valid_moment}
use Rattle.index_rule.proofs.Standing.{stays_inside}
use Rattle.index_rule.proofs.Stepping.{others_only, still_holds_no_lock, valid_after, valid_known}
use Rattle.root_table.specs.Standing.{LeadsIntoTable, StandsIn}

-- ---- one load ----

module _ (b : Board) (h k : Hand) (d : Action) (none : IsNoCrossing d) (free : TakesLock d → ⊥)
    (m : Makes b h d k) where
  -- the hand can go on with its call
  pub call_on : CanCall b h → CanCall b k
  call_on can =
      record {
        of = m.of;
        reading = still_inside b h k d can.of m none can.reading;
        holds_none = still_holds_no_lock b h k d can.of m free can.holds_none;
      }

  -- and still stands where it did
  pub stands_on : (g : ℕ) → StandsIn b g h → StandsIn b g k
  stands_on g there =
      record {
        call = call_on there.call;
        stands = still_stands b h k d there.call.of m none g there.stands;
        in_table = there.in_table;
      }

-- a caller can walk through the buffer of a group where it stands
pub walks_there : (b : Board) (g : ℕ) (h k : Hand) (d : Action) → StandsIn b g k → CanCall b h →
    Makes b h d k → CanWalk (opening_of b) k.number g (known k)
walks_there b g h k d there before m =
    inl (
      there.call.reading,
      there.stands,
      buffers_walkable (opening_of b) (known k) (valid_known b h k d before.of m) k.number g
          there.call.reading.caller there.stands,
    )

-- ---- a next word ----

module _ (b : Board) (h m : Hand) (g next : ℕ) (there : StandsIn b g h)
    (leads : LeadsIntoTable (opening_of b) h.number g (known h))
    (loads : Makes b h (LoadNext g (next + 1)) m) where
  -- what it names is a group of the table
  pub next_exists : next < group_total (shape (opening_of b))
  next_exists =
      leads loads.acts.0 (valid_moment b h m (LoadNext g (next + 1)) there.call.of loads)
      (stays_inside h.number loads.acts.0 (others_only b h m (LoadNext g (next + 1)) there.call.of loads))
      next (valid_after b h m (LoadNext g (next + 1)) there.call.of loads).0.found_word

  -- where the caller stands from then on
  pub stands_next : StandsIn b next m
  stands_next =
      record {
        call = call_on b h m (LoadNext g (next + 1)) tt (λ z. z) loads there.call;
        stands = now b h m (LoadNext g (next + 1)) there.call.of loads
            (λ z t. stands_in z next t ≡ true)
            (own_step (stands_in_after next) false h.number (LoadNext g (next + 1))
            (loads.acts.0 ++ known h)
            ∙ choice-same (next + 1) (next + 1) true (stands_in h.number next (loads.acts.0 ++ known h)) refl);
        in_table = next_exists;
      }
