-- A reader of the keys of a group's array.
use Rattle.std.specs.Prelude.{◌≡◌, ℕ, List, refl}
use Rattle.std.proofs.Common.{◌∙◌}
use Rattle.index_rule.specs.declared.board.Board.{Board}
use Rattle.index_rule.specs.declared.hand.Hand.{Hand}
use Rattle.index_rule.specs.Hands.{known, opening_of}
use Rattle.sorted_group.specs.Arrays.{first_keys}
use Rattle.sorted_group.specs.KeyLoads.{ReadsOn, reads_joined, reads_none}
use Rattle.sorted_group.specs.declared.group_keys.GroupKeys.{GroupKeys}

-- the keys that the reader has
abbrev pub keys_of : GroupKeys → List ℕ
keys_of keys = first_keys keys.len (opening_of keys.board.now) keys.group (known keys.hand.now)

-- the reader has the first keys of this group's array, so many, and was made with this hand
pub record IsNewReader (b : Board) (h : Hand) (group len : ℕ) (keys : GroupKeys) : Type 0 where
  pub board_is : keys.board.now ≡ b
  pub group_is : keys.group ≡ group
  pub len_is : keys.len ≡ len
  pub hand_is : keys.hand.now ≡ h
  pub made_is : keys.made.value ≡ h

-- reads alone lead from the one reader to the other, which has the same hand, board and group
pub record ReadsTo (earlier later : GroupKeys) : Type 0 where
  pub hand : later.hand.ghost_name ≡ earlier.hand.ghost_name
  pub board : later.board.now ≡ earlier.board.now
  pub group : later.group ≡ earlier.group
  pub loads : ReadsOn earlier.board.now earlier.group earlier.hand.now later.hand.now

-- no read is needed to stay
pub reads_to_itself : (keys : GroupKeys) → ReadsTo keys keys
reads_to_itself keys = record {
  hand = refl;
  board = refl;
  group = refl;
  loads = reads_none keys.board.now keys.group keys.hand.now;
}

-- and reads behind reads are reads
pub reads_to_on : (first then last : GroupKeys) → ReadsTo first then → ReadsTo then last →
    ReadsTo first last
reads_to_on first then last old new = record {
  hand = new.hand ∙ old.hand;
  board = new.board ∙ old.board;
  group = new.group ∙ old.group;
  loads = reads_joined first.board.now then.board.now first.group then.group first.hand.now
      then.hand.now last.hand.now old.board old.group old.loads new.loads;
}
