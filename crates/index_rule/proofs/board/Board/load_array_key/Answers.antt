use Rattle.std.proofs.Common.{◌≡◌, ℕ, ◌<◌, ap, ◌∙◌, subst, sym}
use Rattle.word_layout.specs.Addresses.{array_address}
use Rattle.word_layout.specs.declared.layout.Layout.{Layout}
use Rattle.word_layout.specs.Layout.{limits_of, shape_of}
use Rattle.word_layout.specs.Shape.{group_total}
use Rattle.index_machine.specs.declared.events.Action.TheVariants.{LoadKey}
use Rattle.index_machine.specs.Words.{shape}
use Rattle.index_rule.specs.declared.board.Board.{Board}
use Rattle.index_rule.specs.Hands.{Makes, known, opening_of}
use Rattle.index_rule.specs.Records.{CanSee}
use Rattle.index_rule.proofs.ArrayStepping.{group_there, keeps_keys, key_told, place_there, sees_place}
use Rattle.index_rule.proofs.board.Board.load_array_key.Goals as goal

-- the place is named by the layout that the board was opened with
opened_place : (b : Board) (group index place : ℕ) → place ≡ array_address (shape_of b.layout) group index →
    place ≡ array_address (shape (opening_of b)) group index
opened_place b group index place at =
    at ∙ ap (λ (l : Layout). array_address (shape_of l) group index) (sym b.laid)

pub array-requires-clause-is_group : goal.array-requires-clause-is_group
array-requires-clause-is_group c =
    subst (λ (l : Layout). c.args.group < group_total (shape_of l)) c.args.self.now.laid
    (group_there c.args.self.now c.args.hand.now c.args.group c.args.index c.requires.hand c.requires.index)

pub array-requires-clause-is_place : goal.array-requires-clause-is_place
array-requires-clause-is_place c =
    subst (λ (l : Layout). c.args.index < (limits_of l).group_size) c.args.self.now.laid
    (place_there c.args.self.now c.args.hand.now c.args.group c.args.index c.requires.hand c.requires.index)

pub load_key-requires-clause-may : goal.load_key-requires-clause-may
load_key-requires-clause-may c =
    let b = c.args.self.now in
    let h = c.args.hand.now in
    subst (λ (p : ℕ). CanSee (opening_of b) h.number p (known h))
    (sym (opened_place b c.args.group c.args.index c.array.result c.array.ensures.address))
    (sees_place b h c.args.group c.args.index c.requires.hand c.requires.index c.requires.may)

pub returns-clause-key : goal.returns-clause-key
returns-clause-key c =
    let b = c.args.self.now in
    let h = c.args.hand.now in
    key_told b h c.load_key.new.hand c.args.group c.args.index c.load_key.result c.requires.hand
    c.requires.index
    (subst (λ (p : ℕ). Makes b h (LoadKey p c.load_key.result) c.load_key.new.hand)
    (opened_place b c.args.group c.args.index c.array.result c.array.ensures.address) c.load_key.ensures)
    c.requires.may

pub returns-clause-keeps : goal.returns-clause-keeps
returns-clause-keeps c =
    let b = c.args.self.now in
    let h = c.args.hand.now in
    keeps_keys b h c.load_key.new.hand c.args.group c.args.index c.load_key.result c.requires.hand
    c.requires.index
    (subst (λ (p : ℕ). Makes b h (LoadKey p c.load_key.result) c.load_key.new.hand)
    (opened_place b c.args.group c.args.index c.array.result c.array.ensures.address) c.load_key.ensures)
