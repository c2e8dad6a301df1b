-- The kind and the words are appended beside each other.
use Rattle.std.proofs.Common.{◌≡◌, [], ◌∷◌, ◌++◌, ap, length, arith}
use Rattle.trace_text.specs.KeptReplies.{Kept}
use Rattle.trace_text.proofs.ReplyLaws.{as_many, few_words, joins}
use Rattle.trace_text.proofs.replying.Replies.keep.Goals as goal

pub unwrap-requires : goal.unwrap-requires
unwrap-requires c =
    let many = as_many c.self.inside.kinds.items c.self.inside.words.items c.self.invariant.kept in
    let same = ap (λ (k : Kept). length k.replies) c.self.view_is in
    let room = ap (λ (k : Kept). k.room) c.self.view_is in
    let low = c.requires.room in
    let high = c.self.invariant.for_kinds in
    let len = c.self.inside.kinds.ok.0 in
    c.push.ensures.succeeds (omega arith)

pub unwrap-requires-2 : goal.unwrap-requires-2
unwrap-requires-2 c =
    let many = as_many c.self.inside.kinds.items c.self.inside.words.items c.self.invariant.kept in
    let few = few_words c.self.inside.kinds.items c.self.inside.words.items c.self.invariant.kept in
    let one = few_words (c.args.kind ∷ []) c.args.words.now c.requires.kept in
    let same = ap (λ (k : Kept). length k.replies) c.self.view_is in
    let room = ap (λ (k : Kept). k.room) c.self.view_is in
    let low = c.requires.room in
    let high = c.self.invariant.for_words in
    let len = c.self.inside.words.ok.0 in
    c.extend_from_slice.ensures.succeeds (omega arith)

pub invariant_of-self : goal.invariant_of-self
invariant_of-self c =
    let was = joins c.self.inside.kinds.items (c.args.kind ∷ []) c.self.inside.words.items c.args.words.now c.self.invariant.kept c.requires.kept in
    let kinds : c.push.new.self.items ≡ c.self.inside.kinds.items ++ c.args.kind ∷ [] =
    rw c.unwrap.ensures at c.push.ensures.items in
    let words : c.extend_from_slice.new.self.items ≡ c.self.inside.words.items ++ c.args.words.now =
    rw c.unwrap-2.ensures at c.extend_from_slice.ensures.items in
    let for_kinds = c.self.invariant.for_kinds in
    let more_kinds = c.push.ensures.capacity in
    let for_words = c.self.invariant.for_words in
    let more_words = c.extend_from_slice.ensures.capacity in
    record { kept = rw (kinds, words) was.kept; for_kinds = omega arith; for_words = omega arith }

pub returns-clause-replies : goal.returns-clause-replies
returns-clause-replies c =
    let was = joins c.self.inside.kinds.items (c.args.kind ∷ []) c.self.inside.words.items c.args.words.now c.self.invariant.kept c.requires.kept in
    let kinds : c.push.new.self.items ≡ c.self.inside.kinds.items ++ c.args.kind ∷ [] =
    rw c.unwrap.ensures at c.push.ensures.items in
    let words : c.extend_from_slice.new.self.items ≡ c.self.inside.words.items ++ c.args.words.now =
    rw c.unwrap-2.ensures at c.extend_from_slice.ensures.items in
    rw (kinds, words, ← c.self.view_is) was.replies
