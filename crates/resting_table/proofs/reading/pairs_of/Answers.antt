use Rattle.std.proofs.Common.{◌≡◌, ℕ, [], sym, ap, ◌∙◌, arith}
use Rattle.std.specs.Prelude.{nat_lt}
use Rattle.std.proofs.lemmas.Bool.{le-ltb}
use Rattle.map_model.specs.Map.{Map}
use Rattle.word_layout.specs.Layout.{bounds_of, shape_of}
use Rattle.word_layout.specs.Parts.{part_count}
use Rattle.word_layout.specs.Shape.{first_group_of, group_total}
use Rattle.word_layout.specs.declared.layout.Layout.{Layout}
use Rattle.index_machine.specs.declared.opening.Opening.{Opening}
use Rattle.index_machine.specs.OpeningRows.{opening_group}
use Rattle.resting_table.specs.Resting.{map_left, pairs_before}
use Rattle.resting_table.proofs.PairsBelow.{none_pass}
use Rattle.resting_table.proofs.RestingWords.{all_groups}
use Rattle.resting_table.proofs.reading.pairs_of.Goals as goal

-- of no group there are none
none_before : (o : Opening) (first : ℕ) (m : Map) → first ≡ 0 → pairs_before o first m ≡ []
none_before o first m is =
    none_pass (λ (k : ℕ). nat_lt (opening_group o k) first) m
    (λ k x e. le-ltb (opening_group o k) first (omega arith))

pub loop-part-init : goal.loop-part-init
loop-part-init c =
    record {
      room = c.requires.room;
      tell = λ o t rest.
          c.requires.none
          ∙ sym (none_before o (first_group_of (shape_of c.args.layout.now) 0) (map_left o t) (omega arith));
    }

pub returns : goal.returns
returns c =
    λ o t rest.
    let l = c.args.layout.now in
    let over = c.loop-part-test.false in
    let upto = c.loop-part.auto.part-end in
    let count = c.count-part-end.ensures.count ∙ ap part_count c.parts.ensures.parts in
    let all : first_group_of (shape_of l) c.loop-part.part ≡ group_total (shape_of l) =
    let is : c.loop-part.part ≡ part_count (bounds_of l) = omega arith in
    ap (first_group_of (shape_of l)) is
    in
    c.loop-part.invariant.tell o t rest
    ∙ all_groups l c.args.words.now o t rest (first_group_of (shape_of l) c.loop-part.part)
    (all ∙ ap (λ (z : Layout). group_total (shape_of z)) (sym rest.layout))
