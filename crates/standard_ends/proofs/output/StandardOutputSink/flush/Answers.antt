use Rattle.std.proofs.Common.{◌≡◌, ◌-◌, ◌≤◌, [], length, take, drop, refl, subst, sym, ap, ◌∙◌, arith}
use Rattle.std.proofs.KnownBytes.{Appends-nil}
use Rattle.std.specs.Io.KnownBytes.{Appends}
use Rattle.std.proofs.lemmas.List.{drop_all, take_rest}
use Rattle.standard_ends.proofs.Giving.{gives_more}
use Rattle.standard_ends.proofs.output.StandardOutputSink.flush.Goals as goal

-- nothing waited
pub returns-then-is_empty-clause-stream : goal.returns-then-is_empty-clause-stream
returns-then-is_empty-clause-stream g c =
    let gathered = c.self.inside.gathered.items in
    let short : length gathered ≤ c.self.inside.given = grind (arith, c.is_empty.ensures, c.if-is_empty.true) in
    let none : c.args.self.now.waiting ≡ [] =
    ap (λ s. s.waiting) (sym c.self.view_is) ∙ drop_all c.self.inside.given gathered short in
    (subst (Appends c.args.self.now.bytes c.args.self.now.bytes) (sym none) (Appends-nil c.args.self.now.bytes), none)

-- a front of what waited was given
pub returns-in-Err-clause-stream : goal.returns-in-Err-clause-stream
returns-in-Err-clause-stream g c =
    let gathered = c.self.inside.gathered.items in
    let given = c.self.inside.given in
    let rest : take (length gathered - given) (drop given gathered) ≡ drop given gathered = take_rest gathered given in
    let gave = rw (c.deref.ensures.value, rest) at c.send-count.ensures.given in
    gives_more _ _ _ gathered given c.send-count.result.0 c.self.view_is refl refl gave
