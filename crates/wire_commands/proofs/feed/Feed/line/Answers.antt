use Rattle.std.proofs.Common.{◌≡◌, ◌≢◌, ℕ, ◌+◌, ◌-◌, ◌<◌, List, ◌∷◌, ◌++◌, length, take, drop, sym, ap, subst, ◌∙◌, arith}
use Rattle.std.proofs.lemmas.List.{take_all, take_rest, drop-drop, drop_more, take-append-drop}
use Rattle.wire_commands.specs.Stream.{HasNoNewline}
use Rattle.wire_commands.proofs.Spans.{take_all_have}
use Rattle.wire_commands.proofs.FeedLaws.{stands_for_bytes}
use Rattle.wire_commands.proofs.feed.Feed.line.Goals as goal

-- no newline comes
pub returns-in-empty : goal.returns-in-empty
returns-in-empty c =
    let bytes = c.args.bytes.now in
    let n = c.line_len.result in
    let all : take n bytes ≡ bytes = take_all n bytes (omega (arith, c.in-empty.len_below, c.split_at.ensures.back_len)) in
    record {
      whole = subst HasNoNewline all (take_all_have (λ b. b ≢ 10) bytes 0 n c.line_len.ensures.within c.line_len.ensures.none);
      grows = λ line stands. rw (c.keep.ensures, c.split_at.ensures.front, all)
          (stands_for_bytes c.args.self.now line bytes stands);
    }

-- the newline comes
pub returns-in-len1-up : goal.returns-in-len1-up
returns-in-len1-up c =
    let bytes = c.args.bytes.now in
    let n = c.line_len.result in
    let rest = c.split_at.result.1.now in
    let inside : n < length bytes = omega (arith, c.in-len1-up.len_at_least, c.split_at.ensures.back_len) in
    let more : take (length rest - 1) (drop 1 rest) ≡ drop (n + 1) bytes =
    take_rest rest 1 ∙ ap (drop 1) c.split_at.ensures.back ∙ drop-drop 1 n bytes in
    let cut : bytes ≡ take n bytes ++ 10 ∷ drop (n + 1) bytes =
    sym (take-append-drop n bytes) ∙ ap (λ (l : List ℕ). take n bytes ++ l) (drop_more bytes n 0 inside)
    ∙ ap (λ (b : ℕ). take n bytes ++ b ∷ drop (n + 1) bytes) (c.line_len.ensures.newline inside) in (
      record {
        front = c.split_at.result.0.now;
        cut = rw (more, c.split_at.ensures.front) cut;
        whole = rw c.split_at.ensures.front (take_all_have (λ b. b ≢ 10) bytes 0 n c.line_len.ensures.within c.line_len.ensures.none);
        reads = c.finish_with.ensures.reads;
      },
      c.finish_with.ensures.begins,
    )
