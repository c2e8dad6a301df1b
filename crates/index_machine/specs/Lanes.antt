-- The lanes of a buffer: how many it has, and which keys are in each.
--
-- The fact to remember: both are settled when the group is begun, by the words that its header has then, and
-- not by what is written there once the group is out of use.
use Rattle.std.specs.Prelude.{◌≡◌, ◌⊎◌, ℕ, ◌+◌, ◌<◌, ◌≤◌, cond, ◌==◌, [], ◌∷◌}
use Rattle.word_layout.specs.Headers.{most_lanes}
use Rattle.word_layout.specs.Words.{Header}
use Rattle.word_layout.specs.declared.headers.HeaderWord.{HeaderWord}
use Rattle.word_layout.specs.declared.headers.HeaderWord.TheVariants as header
use Rattle.index_machine.specs.declared.events.Action.{Action}
use Rattle.index_machine.specs.declared.events.Action.TheVariants.{NewGroup}
use Rattle.index_machine.specs.declared.opening.Opening.{Opening}
use Rattle.index_machine.specs.Execution.{Execution}
use Rattle.index_machine.specs.Words.{word, opening_word}

-- ---- what a group is begun with ----

-- what a header word of a group held when the group was begun, after an action, where it was this before
-- and the word holds this now
abbrev pub begun_after : ℕ → ℕ → Action → ℕ → ℕ
begun_after group now (NewGroup g low high first) w = cond (g == group) now w
begun_after group now _ w = w

-- what the header word held just before the group was begun last
abbrev pub begun_word : Opening → ℕ → HeaderWord → Execution → ℕ
begun_word o group which [] = opening_word o (Header group which)
begun_word o group which (e ∷ t) =
    begun_after group (word o t (Header group which)) e.action (begun_word o group which t)

-- how many lanes the group's buffer has
abbrev pub lanes : Opening → ℕ → Execution → ℕ
lanes o group t = begun_word o group header.Lanes t

-- the least key of a lane
abbrev pub cut : Opening → ℕ → ℕ → Execution → ℕ
cut o group lane t = begun_word o group (header.Cut lane) t

-- ---- which keys are in a lane ----

-- the group has this lane, and the key is in it: not below the lane's cut, and below the next one's if
-- there is one
pub record HasLane (o : Opening) (group lane k : ℕ) (t : Execution) : Type 0 where
  pub is_lane : lane < lanes o group t
  pub from : cut o group lane t ≤ k
  pub end : (lane + 1 ≡ lanes o group t) ⊎ (k < cut o group (lane + 1) t)

-- ---- a new group's lanes ----

-- the lanes in the header of a group that is to be begun: one to eight, each empty; the first begins with the
-- group, and their cuts rise within its keys; the words of lanes that are not there are 0
pub record HasNewLanes (o : Opening) (group low high : ℕ) (t : Execution) : Type 0 where
  pub some : 1 ≤ word o t (Header group header.Lanes)
  pub few : word o t (Header group header.Lanes) ≤ most_lanes
  pub first : word o t (Header group (header.Cut 0)) ≡ low
  pub rising : (i : ℕ) → i + 1 < word o t (Header group header.Lanes) →
      word o t (Header group (header.Cut i)) < word o t (Header group (header.Cut (i + 1)))
  pub last : (i : ℕ) → i < word o t (Header group header.Lanes) →
      word o t (Header group (header.Cut i)) ≤ high
  pub absent : (i : ℕ) → word o t (Header group header.Lanes) ≤ i → i < most_lanes →
      word o t (Header group (header.Cut i)) ≡ 0
  pub empty : (i : ℕ) → i < most_lanes → word o t (Header group (header.Head i)) ≡ 0
