use Rattle.std.proofs.Common.{arith, ◌<◌, ◌≤◌, sym, ◌∙◌}
use Rattle.word_layout.specs.Layout.{shape_of}
use Rattle.index_rule.specs.Offsets.{cold_from}
use Rattle.index_rule.proofs.Offsets.{lie_apart, offset_of-cold, offset_of-hot}
use Rattle.index_rule.proofs.memory.offset_of.Goals as goal

pub returns-then-address-cold_from : goal.returns-then-address-cold_from
returns-then-address-cold_from c =
    let s = shape_of c.args.layout.now in
    let test = c.if-address-cold_from.true in
    let hot : c.args.address < cold_from s = omega (arith, c.cold_from.ensures) in
    record {
      offset = c.hot_offset.ensures ∙ sym (offset_of-hot s c.args.address hot);
      apart = lie_apart s;
    }

pub returns-else-address-cold_from : goal.returns-else-address-cold_from
returns-else-address-cold_from c =
    let s = shape_of c.args.layout.now in
    let test = c.if-address-cold_from.false in
    let cold : cold_from s ≤ c.args.address = omega (arith, c.cold_from.ensures) in
    record {
      offset = omega (arith, c.shift_of.ensures, offset_of-cold s c.args.address cold);
      apart = lie_apart s;
    }
