-- The kind and the words are appended beside each other.
use Rattle.std.proofs.Common.{◌≡◌, List, [], ◌∷◌, ◌++◌, ◌∙◌, ap}
use Rattle.trace_text.specs.declared.keeping.Kind.{Kind}
use Rattle.trace_text.proofs.KeptLaws.{joins}
use Rattle.trace_text.proofs.keeping.Trace.keep.Goals as goal

pub invariant_of-self-2 : goal.invariant_of-self-2
invariant_of-self-2 c =
    let was = joins c.self.inside.kinds.items (c.args.kind ∷ []) c.self.inside.words.items c.args.words.now c.self.invariant c.requires in
    let kinds : c.push.new.self.items ≡ c.self.inside.kinds.items ++ c.args.kind ∷ [] =
    (rw c.unwrap.ensures at c.push.ensures.items) ∙ ap (λ (l : List Kind). l ++ c.args.kind ∷ []) c.in_ok-reserve.ensures.items in
    rw (kinds, c.in_ok-extend_from_slice.ensures.items) was.kept

pub returns-clause-ok : goal.returns-clause-ok
returns-clause-ok c =
    let was = joins c.self.inside.kinds.items (c.args.kind ∷ []) c.self.inside.words.items c.args.words.now c.self.invariant c.requires in
    let kinds : c.push.new.self.items ≡ c.self.inside.kinds.items ++ c.args.kind ∷ [] =
    (rw c.unwrap.ensures at c.push.ensures.items) ∙ ap (λ (l : List Kind). l ++ c.args.kind ∷ []) c.in_ok-reserve.ensures.items in
    rw (kinds, c.in_ok-extend_from_slice.ensures.items, ← c.self.view_is) was.lines
