use Rattle.std.proofs.Common.{◌≡◌, ℕ, ◌+◌, ◌-◌, List, ◌++◌, length, take, min, sym, ap, ◌∙◌, arith}
use Rattle.std.proofs.lemmas.List.{length-take-le, take_min}
use Rattle.std.proofs.lemmas.Slice.{take-put_mid}
use Rattle.wire_commands.specs.Feed.{room}
use Rattle.wire_commands.proofs.FeedLaws.{take_behind}
use Rattle.wire_commands.proofs.feed.Feed.keep.Goals as goal

-- the bytes stand behind those that were kept, as many as there is room for
pub returns : goal.returns
returns c =
    let kept = c.self.inside.kept in
    let len = c.self.inside.len in
    let bytes = c.args.bytes.now in
    let copied = c.copy_from_slice.ensures.after in
    let count = c.min-count.result in
    let end = len + count in
    let old : List ℕ = take len kept in
    let old_len : length old ≡ len = length-take-le len kept (omega (arith, c.self.invariant, c.self.told)) in
    let count_is : count ≡ min (room - len) (length bytes) = omega (arith, c.min-count.ensures) in
    let front : take count bytes ≡ take (room - length old) bytes =
    ap (λ k. take k bytes) count_is ∙ take_min (room - len) bytes ∙ ap (λ k. take k bytes) (omega (arith, old_len)) in
    take-put_mid len (end - len) kept c.copy_from_slice.new.self end (omega (arith, ap length copied)) (omega arith)
    ∙ ap (λ (l : List ℕ). old ++ l) (copied ∙ front)
    ∙ sym (take_behind room old bytes (omega (arith, old_len, c.self.invariant)))
    ∙ ap (λ (l : List ℕ). take room (l ++ bytes)) c.self.view_is
