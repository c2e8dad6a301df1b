-- The load of a key of a group's array: that it can be made, and what was found.
use Rattle.std.proofs.Common.{◌≡◌, ℕ, ◌<◌, inl, inr, ⊎_elim, true, Some, length, [], ◌∷◌, ◌++◌}
use Rattle.std.proofs.Common.{sym, ap, ◌∙◌, arith}
use Rattle.std.proofs.Math.Logic.{∥∥₁_elim}
use Rattle.std.proofs.Props.{props}
use Rattle.std.specs.Prelude.{slice_index}
use Rattle.word_layout.specs.Addresses.{array_address}
use Rattle.word_layout.specs.Shape.{group_total}
use Rattle.index_machine.specs.declared.events.Action.{Action}
use Rattle.index_machine.specs.declared.events.Action.TheVariants.{LoadKey}
use Rattle.index_machine.specs.declared.opening.Opening.{Opening}
use Rattle.index_machine.specs.Conditions.{Valid}
use Rattle.index_machine.specs.Execution.{Execution, Without}
use Rattle.index_machine.specs.Keepers.{IsGroupKeeper}
use Rattle.index_machine.specs.Reaching.{stands_in}
use Rattle.index_machine.specs.RecordConditions.{MayWalk}
use Rattle.index_machine.specs.Rows.{InArray, role, role_key}
use Rattle.index_machine.specs.Sections.{IsReading}
use Rattle.index_machine.specs.Words.{limits, shape}
use Rattle.index_machine.proofs.Placing.{placed}
use Rattle.machine_arrays.proofs.Changes.{keeper_alone, left_until}
use Rattle.machine_arrays.proofs.Keys.{list_fits, list_whole}
use Rattle.machine_arrays.proofs.Sizes.{while_standing}
use Rattle.machine_arrays.specs.Arrays.{HasKeyAt, array_keys}
use Rattle.machine_arrays.specs.Sizes.{ArrayIsLeft}
use Rattle.index_rule.specs.declared.board.Board.{Board}
use Rattle.index_rule.specs.declared.hand.Hand.{Hand}
use Rattle.index_rule.specs.Chains.{KeepsKeys}
use Rattle.index_rule.specs.Hands.{IsHandOf, Makes, known, opening_of}
use Rattle.index_rule.specs.Records.{CanSee}
use Rattle.index_rule.proofs.RecordStepping.{goes_on_inside, since}
use Rattle.index_rule.proofs.Standing.{at_role, stays_inside}
use Rattle.index_rule.proofs.Stepping.{known_is, others_only, valid_after}

-- ---- the place ----

module _ (b : Board) (h : Hand) (g i : ℕ) (of : IsHandOf b h)
    (below : i < length (array_keys (opening_of b) g (known h))) where
  abbrev pub listed : ℕ
  listed = slice_index (array_keys (opening_of b) g (known h)) i

  -- the key of the list stands there
  pub stands_there : HasKeyAt (opening_of b) g i listed (known h)
  stands_there =
      ∥∥₁_elim (h.following (opening_of b) of.opened) (hlevel props)
      (λ follows. (list_whole (opening_of b) (known h) follows.valid g).stands i below)

  pub group_there : g < group_total (shape (opening_of b))
  group_there =
      ∥∥₁_elim (h.following (opening_of b) of.opened) (hlevel props)
      (λ follows.
      ((placed (opening_of b) (known h) follows.valid).arrayed g listed
      (array_address (shape (opening_of b)) g i) stands_there).group_exists)

  pub place_there : i < (limits (opening_of b)).group_size
  place_there =
      ∥∥₁_elim (h.following (opening_of b) of.opened) (hlevel props)
      (λ follows.
      let fits = list_fits (opening_of b) (known h) follows.valid g in omega (arith, fits, below))

  -- the hand can see it
  pub sees_place : MayWalk (opening_of b) h.number g (known h) →
      CanSee (opening_of b) h.number (array_address (shape (opening_of b)) g i) (known h)
  sees_place walks =
      ⊎_elim
      (λ (z : IsReading (opening_of b) h.number (known h) × (stands_in h.number g (known h) ≡ true)).
      inl (record { reading = z.0; there = inl (g, listed, stands_there, z.1) }))
      (λ (z : IsGroupKeeper (opening_of b) h.number g). inr (g, listed, inl stands_there, z)) walks

-- ---- the key ----

-- others leave the array to the keeper of the group's part
keeper_leaves : (o : Opening) (c g : ℕ) (n t : Execution) → Valid o (n ++ t) → Without c n →
    IsGroupKeeper o c g → ArrayIsLeft g n
keeper_leaves o c g [] t valid out keeper = tt
keeper_leaves o c g (e ∷ n) t valid out keeper = (
  (λ changes. out.0 (keeper_alone o (n ++ t) e.by g e.action valid.0 changes ∙ sym keeper)),
  keeper_leaves o c g n t valid.1 out.1 keeper,
)

key_of : (p : ℕ) (o : Opening) (t : Execution) (g j found : ℕ) → role o p t ≡ InArray g j →
    role_key (role o p t) ≡ Some found → found ≡ j
key_of p o t g j found placed says =
    let e : Some j ≡ Some found = sym (ap role_key placed) ∙ says in cc

module _ (b : Board) (h k : Hand) (g i found : ℕ) (of : IsHandOf b h)
    (below : i < length (array_keys (opening_of b) g (known h)))
    (m : Makes b h (LoadKey (array_address (shape (opening_of b)) g i) found) k) where
  abbrev load : Action
  load = LoadKey (array_address (shape (opening_of b)) g i) found

  -- it still stands there at the moment of the load
  still_there : MayWalk (opening_of b) h.number g (known h) →
      HasKeyAt (opening_of b) g i (listed b h g i of below) (m.acts.0 ++ known h)
  still_there walks =
      let o = opening_of b in
      let p : ℕ = array_address (shape o) g i in
      let valid = (valid_after b h k load of m).1 in
      let out = others_only b h k load of m in
      let there = stands_there b h g i of below in
      ⊎_elim
      (λ (z : IsReading o h.number (known h) × (stands_in h.number g (known h) ≡ true)).
      at_role o h.number p m.acts.0 (known h) valid (stays_inside h.number m.acts.0 out)
      (record { reading = z.0; there = inl (g, listed b h g i of below, there, z.1) })
      ∙ there)
      (λ (z : IsGroupKeeper o h.number g).
      (left_until o g m.acts.0 (known h) valid (keeper_leaves o h.number g m.acts.0 (known h) valid out z)).kept
      (listed b h g i of below) p there)
      walks

  -- so the key of the list was found
  pub key_told : MayWalk (opening_of b) h.number g (known h) →
      found ≡ slice_index (array_keys (opening_of b) g (known h)) i
  key_told walks =
      key_of (array_address (shape (opening_of b)) g i) (opening_of b) (m.acts.0 ++ known h) g
      (listed b h g i of below) found (still_there walks) (valid_after b h k load of m).0.says

  -- and the list stays where the caller stands for a key
  pub keeps_keys : KeepsKeys (opening_of b) h.number g (known h) (known k)
  keeps_keys j s =
      ap (array_keys (opening_of b) g) (known_is b h k load of m)
      ∙ (while_standing (opening_of b) h.number g j s.caller (since b h k load of m) (known h)
      (valid_after b h k load of m) (goes_on_inside b h k load of m tt) s.stands s.answers).keys
