-- What a caller can do in a group to which it came for a key, and what the keeper of a board with one group knows
-- before it makes a step of a rebuild.
use Rattle.std.proofs.Common.{◌≡◌, ℕ, ◌+◌, ◌≤◌, ⊎_elim, Some, length, inl, inr, [], ◌∷◌, ◌++◌, ap, sym, ◌∙◌, subst, arith}
use Rattle.std.proofs.Math.Logic.{∥∥₁_elim}
use Rattle.std.proofs.Props.{props}
use Rattle.word_layout.specs.Parts.{greatest_key, part_with}
use Rattle.word_layout.specs.Shape.{first_group_of, part_of_group}
use Rattle.word_layout.proofs.PartGroups.{first_group-part, part_with-within}
use Rattle.index_machine.specs.declared.events.Action.TheVariants.{LoadRoot}
use Rattle.index_machine.specs.Execution.{Execution, Without}
use Rattle.index_machine.specs.Keepers.{IsGroupKeeper, IsPart, IsPartKeeper}
use Rattle.index_machine.specs.KeyRanges.{group_of, predecessor}
use Rattle.index_machine.specs.OpeningRows.{opening_count, opening_group}
use Rattle.index_machine.specs.Words.{limits, shape}
use Rattle.machine_chain.proofs.Walking.{buffers_walkable}
use Rattle.machine_chain.specs.Walks.{AnswersFor}
use Rattle.index_rule.specs.declared.board.Board.{Board}
use Rattle.index_rule.specs.declared.hand.Hand.{Hand}
use Rattle.index_rule.specs.Calls.{CanCall}
use Rattle.index_rule.specs.Hands.{IsHandOf, Makes, known, opening_of}
use Rattle.index_rule.proofs.Stepping.{known_is, others_only, valid_after}
use Rattle.root_table.specs.Standing.{StandsIn}
use Rattle.sorted_group.specs.Standing.{CanSearch, IsOfBuffer}
use Rattle.resting_table.specs.NoRebuild.{HasNoRebuild}
use Rattle.resting_table.proofs.NoRebuildLaws.{groups_as_opened}
use Rattle.xindex_core.proofs.Idle.{nothing_rebuilt}
use Rattle.index_tests.specs.Boards.{HasOneGroup, IsInside}
use Rattle.index_tests.proofs.OneGroups.{HasOneGroupEach, group_of_part}

-- ---- a caller in a group ----

-- a caller inside its read section may make a call
pub can_call : (b : Board) (number : ℕ) (h : Hand) → IsInside b number h → CanCall b h
can_call b number h inside =
    record {
      of = inside.of;
      reading = record { caller = inside.may_leave.caller; inside = inside.may_leave.inside };
      holds_none = inside.may_leave.holds_none;
    }

-- where a caller stands it can search
pub searches : (b : Board) (g : ℕ) (h : Hand) → StandsIn b g h → CanSearch b g h
searches b g h there =
    record {
      call = there.call;
      stands = there.stands;
      walkable = ∥∥₁_elim (h.following (opening_of b) there.call.of.opened) (hlevel props)
          (λ follows. buffers_walkable (opening_of b) (known h) follows.valid h.number g
          there.call.reading.caller there.stands);
      in_table = there.in_table;
    }

-- and may leave from there
pub may_leave : (b : Board) (number g : ℕ) (h : Hand) → h.number ≡ number → CanSearch b g h → IsInside b number h
may_leave b number g h numbered can =
    record {
      of = can.call.of;
      numbered = numbered;
      may_leave = record {
        caller = can.call.reading.caller;
        inside = can.call.reading.inside;
        holds_none = can.call.holds_none;
      };
    }

-- a key for which a group answers, or did, belongs into its buffer
pub belongs : (b : Board) (g k : ℕ) (h : Hand) → AnswersFor (opening_of b) k g (known h) →
    IsOfBuffer (opening_of b) g k (known h)
belongs b g k h answers =
    inl (⊎_elim (λ (z : group_of (opening_of b) k (known h) ≡ g). inl (inl z))
    (λ (z : predecessor (opening_of b) k (known h) ≡ Some g). inr z) answers)

-- ---- the keeper of a board with one group ----

-- then each part has one
one_group_each : (b : Board) → HasOneGroup b → HasOneGroupEach (opening_of b)
one_group_each b has part is_part =
    let none : length (shape (opening_of b)).bounds ≡ 0 = ap length has.one_part in
    let first : part ≡ 0 = omega (arith, is_part, none) in
    ap (opening_count (opening_of b)) first ∙ has.one

-- and group 0 has each key at the opening
opening_group-zero : (b : Board) (k : ℕ) → HasOneGroup b → k ≤ greatest_key → opening_group (opening_of b) k ≡ 0
opening_group-zero b k has most =
    let s = shape (opening_of b) in
    let none : length s.bounds ≡ 0 = ap length has.one_part in
    let first : part_with s.bounds k ≡ 0 = omega (arith, part_with-within s.bounds k) in
    group_of_part (opening_of b) (one_group_each b has) k most
    ∙ (ap (first_group_of s) first ∙ omega arith)

-- the keeper of part 0 is that of group 0
pub keeps_zero : (b : Board) (h : Hand) → IsPartKeeper (opening_of b) h.number 0 →
    IsGroupKeeper (opening_of b) h.number 0
keeps_zero b h is =
    let s = shape (opening_of b) in
    let least = (opening_of b).layout.kept.least_groups in
    let first : first_group_of s 0 ≡ 0 = omega arith in
    let part : part_of_group s 0 ≡ 0 =
    ap (part_of_group s) (sym first) ∙ first_group-part s 0 (omega arith)
    in
    omega arith

-- a new keeper that loaded the root word knows that group 0 answers for each key still
pub of_group_zero : (b : Board) (h m : Hand) (word k : ℕ) → HasOneGroup b →
    IsPartKeeper (opening_of b) h.number 0 → known h ≡ [] → IsHandOf b h → Makes b h (LoadRoot 0 word) m →
    k ≤ greatest_key → group_of (opening_of b) k (known m) ≡ 0
of_group_zero b h m word k one keeper new of loads most =
    let o = opening_of b in
    let d = LoadRoot 0 word in
    let newer : Execution = loads.acts.0 in
    let none : length (shape o).bounds ≡ 0 = ap length one.one_part in
    let idle : (part : ℕ) → IsPart o part → Without ((limits o).callers + part) newer =
    λ part is_part. subst (λ (hand : ℕ). Without hand newer) (omega (arith, is_part, none, keeper))
    (others_only b h m d of loads) in
    let idle_all : (part : ℕ) → IsPart o part → Without ((limits o).callers + part) (newer ++ known h) =
    λ part is_part. without_all ((limits o).callers + part) newer (known h) new (idle part is_part) in
    let before : HasNoRebuild (newer ++ known h) =
    nothing_rebuilt o (newer ++ known h) (valid_after b h m d of loads).1 idle_all in
    let whole : HasNoRebuild (known m) = subst HasNoRebuild (sym (known_is b h m d of loads)) (tt, before) in
    ((groups_as_opened o (known m) whole).0 k).0 ∙ opening_group-zero b k one most
  where
    without_all : (hand : ℕ) (n t : Execution) → t ≡ [] → Without hand n → Without hand (n ++ t)
    without_all hand [] t none out = subst (Without hand) (sym none) tt
    without_all hand (e ∷ n) t none out = (out.0, without_all hand n t none out.1)
