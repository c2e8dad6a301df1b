-- Two tables that open with several groups in a part.
use Rattle.std.proofs.Common.{ℕ, zero, suc, ◌+◌, ◌*◌, ◌^◌, ◌<◌, ◌≤◌, [], ◌∷◌, refl, arith}
use Rattle.std.specs.List.{All, AllByRecursion}
use Rattle.std.specs.List.Sorted.{IsStrictlyIncreasing}
use Rattle.map_model.specs.Map.{IsRising, Map}
use Rattle.word_layout.specs.declared.layout.Layout.{Layout}
use Rattle.word_layout.specs.Layout.{shape_of}
use Rattle.word_layout.specs.Parts.{AreBounds, greatest_key}
use Rattle.index_machine.specs.declared.opening.Opening.{Opening}
use Rattle.index_machine.specs.OpeningPlan.{planned_count}
use Rattle.worked_executions.proofs.OnePart.{one_part_cut}
use Rattle.worked_executions.specs.SeveralGroups.{SeveralGroupsAreOpened, limits_with, thirteen_rows}

-- ---- the rows ----

-- so many rows, whose keys rise by ten
abbrev tens : (many from : ℕ) → Map
tens zero from = []
tens (suc many) from = (from, 7) ∷ tens many (from + 10)

above : (many from k : ℕ) → k < from → AllByRecursion (λ (q : ℕ × ℕ). k < q.0) (tens many from)
above zero from k less = tt
above (suc many) from k less = (less, above many (from + 10) k (omega arith))

rising : (many from : ℕ) → IsRising (tens many from)
rising zero from = tt
rising (suc many) from = (above many (from + 10) from (omega arith), rising many (from + 10))

small : (many from : ℕ) → from + 10 * many < 2 ^ 64 → AllByRecursion (λ (q : ℕ × ℕ). q.0 < 2 ^ 64) (tens many from)
small zero from less = tt
small (suc many) from less = (omega arith, small many (from + 10) (omega arith))

-- ---- one part ----

abbrev one_part_layout : Layout
one_part_layout =
    record {
      limits = limits_with 4;
      parts = [];
      group_words = 56;
      slots_from = 3;
      groups_from = 11;
      rows_from = 235;
      kept = record {
        least_callers = omega arith;
        most_callers = omega arith;
        least_records = omega arith;
        most_records = omega arith;
        least_groups = omega arith;
        most_groups = omega arith;
        least_group_size = omega arith;
        most_group_size = omega arith;
        least_slots = omega arith;
        most_slots = omega arith;
        least_due = omega arith;
        most_due = omega arith;
        least_help = omega arith;
        most_help = omega arith;
        least_chain = omega arith;
        most_chain = omega arith;
        most_first_version = omega arith;
        most_words = omega arith;
      };
      cut = one_part_cut;
      group_width = refl;
      slots_behind_epochs = refl;
      groups_behind_slots = refl;
      rows_behind_groups = refl;
    }

one_part_fits : (part : ℕ) → part < 1 → planned_count (shape_of one_part_layout) thirteen_rows part ≤ 4
one_part_fits zero is_part = omega arith
one_part_fits (suc part) is_part = absurd (omega (arith, is_part))

abbrev one_part : Opening
one_part =
    record {
      layout = one_part_layout;
      rows = thirteen_rows;
      rising = rising 13 10;
      fits = one_part_fits;
      keys = small 13 10 (omega arith);
    }

-- ---- two parts ----

cut_at_1000 : AreBounds (1000 ∷ [])
cut_at_1000 = record { few = omega arith; rising = rises; keys = keys }
  where
    rises : IsStrictlyIncreasing (0 ∷ 1000 ∷ [])
    rises zero h = omega arith
    rises (suc k) h = absurd (omega (arith, h))

    keys : All (λ (bound : ℕ). bound ≤ greatest_key) (1000 ∷ [])
    keys zero d h = omega arith
    keys (suc k) d h = absurd (omega (arith, h))

abbrev two_part_layout : Layout
two_part_layout =
    record {
      limits = limits_with 3;
      parts = 1000 ∷ [];
      group_words = 56;
      slots_from = 4;
      groups_from = 20;
      rows_from = 356;
      kept = record {
        least_callers = omega arith;
        most_callers = omega arith;
        least_records = omega arith;
        most_records = omega arith;
        least_groups = omega arith;
        most_groups = omega arith;
        least_group_size = omega arith;
        most_group_size = omega arith;
        least_slots = omega arith;
        most_slots = omega arith;
        least_due = omega arith;
        most_due = omega arith;
        least_help = omega arith;
        most_help = omega arith;
        least_chain = omega arith;
        most_chain = omega arith;
        most_first_version = omega arith;
        most_words = omega arith;
      };
      cut = cut_at_1000;
      group_width = refl;
      slots_behind_epochs = refl;
      groups_behind_slots = refl;
      rows_behind_groups = refl;
    }

two_parts_fit : (part : ℕ) → part < 2 → planned_count (shape_of two_part_layout) thirteen_rows part ≤ 3
two_parts_fit zero is_part = omega arith
two_parts_fit (suc zero) is_part = omega arith
two_parts_fit (suc (suc part)) is_part = absurd (omega (arith, is_part))

abbrev two_parts : Opening
two_parts =
    record {
      layout = two_part_layout;
      rows = thirteen_rows;
      rising = rising 13 10;
      fits = two_parts_fit;
      keys = small 13 10 (omega arith);
    }

-- ---- both ----

pub several_groups : SeveralGroupsAreOpened
several_groups = (
  record {
    opening = one_part;
    shaped = refl;
    rows = refl;
    has = record {
      pivots = refl;
      keys = refl;
      owners = refl;
      next_words = refl;
      root_word = refl;
      slot_pivots = refl;
      slots = refl;
    };
  },
  record {
    opening = two_parts;
    shaped = refl;
    rows = refl;
    has = record {
      counts = refl;
      owners = refl;
      next_words = refl;
      root_words = refl;
      slot_pivots = refl;
      slots = refl;
    };
  },
)
