use Rattle.std.proofs.Common.{◌≤◌, ◌≡◌, arith, rules, subst}
use Rattle.word_layout.specs.Parts.{AreBounds, greatest_key, part_with}
use Rattle.word_layout.proofs.KeySpace.{has_key_alone}
use Rattle.word_layout.proofs.parts.Parts.part_of.Goals as goal

pub returns-clause-alone : goal.returns-clause-alone
returns-clause-alone c =
    let are : AreBounds c.args.self.now = subst AreBounds c.self.view_is c.self.invariant.are_bounds in
    let small : c.args.key ≤ greatest_key = omega arith in
    let counted : c.count.result ≡ part_with c.args.self.now c.args.key = search rules in
    rw counted (has_key_alone c.args.self.now c.args.key are small)
