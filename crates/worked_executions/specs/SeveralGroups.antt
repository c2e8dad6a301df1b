-- Tables that open with several groups in a part, and with two slots for them.
use Rattle.std.specs.Prelude.{◌≡◌, ℕ, ◌+◌, List, [], ◌∷◌, map}
use Rattle.map_model.specs.Map.{Map}
use Rattle.rebuild_plan.specs.Keys.{thirteen_keys}
use Rattle.word_layout.specs.declared.limits.Limits.{Limits}
use Rattle.word_layout.specs.Parts.{greatest_key}
use Rattle.word_layout.specs.Shape.{Shape}
use Rattle.index_machine.specs.declared.opening.Opening.{Opening}
use Rattle.index_machine.specs.OpeningRoots.{opening_root, opening_slot, opening_slot_pivot}
use Rattle.index_machine.specs.OpeningRows.{opening_count, opening_group, opening_keys, opening_next, opening_pivots}
use Rattle.index_machine.specs.Words.{shape}

-- the limits of a table whose parts have so many group rows, and two slots
abbrev pub limits_with : ℕ → Limits
limits_with groups =
    record {
      callers = 1;
      records = 2;
      groups = groups;
      group_size = 8;
      slots = 2;
      due = 1;
      help = 1;
      chain = 1;
      first_version = 0;
    }

-- its rows: those of thirteen keys, each with the value 7
abbrev pub thirteen_rows : Map
thirteen_rows = map (λ (k : ℕ). (k, 7)) thirteen_keys

-- ---- one part ----

abbrev pub four_in_one_part : Shape
four_in_one_part = record { limits = limits_with 4; bounds = [] }

abbrev pub four_groups : List ℕ
four_groups = 0 ∷ 1 ∷ 2 ∷ 3 ∷ []

-- each of three groups has up to five rows, and the fourth group row is not in use
pub record HasThreeGroups (o : Opening) : Type 0 where
  pub pivots : opening_pivots o 0 ≡ 0 ∷ 60 ∷ 110 ∷ []
  pub keys : map (opening_keys o) four_groups ≡
      (10 ∷ 20 ∷ 30 ∷ 40 ∷ 50 ∷ [])
      ∷ (60 ∷ 70 ∷ 80 ∷ 90 ∷ 100 ∷ [])
      ∷ (110 ∷ 120 ∷ 130 ∷ [])
      ∷ []
      ∷ []
  pub owners : map (opening_group o) (0 ∷ 59 ∷ 60 ∷ 109 ∷ 110 ∷ greatest_key ∷ (greatest_key + 1) ∷ []) ≡
      0 ∷ 0 ∷ 1 ∷ 1 ∷ 2 ∷ 2 ∷ 4 ∷ []
  pub next_words : map (opening_next o) four_groups ≡ 2 ∷ 3 ∷ 0 ∷ 0 ∷ []
  pub root_word : opening_root o 0 ≡ 4
  pub slot_pivots : map (opening_slot_pivot o 0 0) (0 ∷ 1 ∷ []) ≡ 0 ∷ 110 ∷ []
  pub slots : map (opening_slot o 0 0) (0 ∷ 1 ∷ []) ≡ 0 ∷ 2 ∷ []

-- ---- two parts ----

-- part 1 begins at the key 1000
abbrev pub three_in_each_part : Shape
three_in_each_part = record { limits = limits_with 3; bounds = 1000 ∷ [] }

abbrev pub both_parts : List ℕ
both_parts = 0 ∷ 1 ∷ []

-- part 0 uses all its group rows, so the one group of part 1, which has no rows, is right behind them
pub record HasASeam (o : Opening) : Type 0 where
  pub counts : map (opening_count o) both_parts ≡ 3 ∷ 1 ∷ []
  pub owners : map (opening_group o) (999 ∷ 1000 ∷ []) ≡ 2 ∷ 3 ∷ []
  pub next_words : map (opening_next o) (2 ∷ 3 ∷ []) ≡ 0 ∷ 0 ∷ []
  pub root_words : map (opening_root o) both_parts ≡ 4 ∷ 2 ∷ []
  pub slot_pivots : map (opening_slot_pivot o 1 0) (0 ∷ 1 ∷ []) ≡ 1000 ∷ 0 ∷ []
  pub slots : map (opening_slot o 1 0) (0 ∷ 1 ∷ []) ≡ 3 ∷ 0 ∷ []

-- ---- both open ----

-- some table of the shape opens with the rows, and this is of it
pub record Opens (s : Shape) (Has : Opening → Type 0) : Type 0 where
  pub opening : Opening
  pub shaped : shape opening ≡ s
  pub rows : opening.rows ≡ thirteen_rows
  pub has : Has opening

abbrev pub SeveralGroupsAreOpened : Type 0
SeveralGroupsAreOpened = Opens four_in_one_part HasThreeGroups × Opens three_in_each_part HasASeam
