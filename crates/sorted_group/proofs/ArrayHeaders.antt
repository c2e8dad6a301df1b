-- The words for the size and for the error of the line of an array are loaded.
use Rattle.std.proofs.Common.{◌≡◌, ℕ, ◌≤◌, inl, inr, ⊎_elim, Some, length, sym, ap, ◌∙◌, arith}
use Rattle.std.proofs.Common.{List, refl}
use Rattle.std.proofs.Math.Logic.{∥∥₁_elim}
use Rattle.std.proofs.Props.{props}
use Rattle.line_window.specs.Line.{error_of}
use Rattle.line_window.proofs.Guesses.{error_of-within}
use Rattle.word_layout.specs.declared.headers.HeaderWord.{HeaderWord}
use Rattle.word_layout.specs.declared.headers.HeaderWord.TheVariants.{LineError, Size}
use Rattle.index_machine.specs.declared.events.Action.TheVariants.{LoadHeader}
use Rattle.index_machine.specs.Execution.{Execution}
use Rattle.index_machine.specs.Keepers.{IsGroupKeeper}
use Rattle.index_machine.specs.KeyRanges.{group_of, predecessor}
use Rattle.index_machine.specs.RebuildConditions.{IsSized}
use Rattle.index_machine.proofs.Executions.{valid_before}
use Rattle.machine_arrays.specs.Arrays.{array_keys}
use Rattle.machine_arrays.proofs.Changes.{same_sized}
use Rattle.machine_arrays.proofs.Keys.{list_fits}
use Rattle.machine_arrays.proofs.Sizes.{of_keys}
use Rattle.machine_buffers.proofs.Walks as walks
use Rattle.index_rule.specs.declared.board.Board.{Board}
use Rattle.index_rule.specs.declared.hand.Hand.{Hand}
use Rattle.index_rule.specs.Buffers.{CanWalk}
use Rattle.index_rule.specs.Hands.{Makes, known, opening_of}
use Rattle.index_rule.proofs.RecordStepping.{moment}
use Rattle.index_rule.proofs.Stepping.{valid_after, valid_known}
use Rattle.sorted_group.specs.Arrays.{CanLocate, IsAnswered}
use Rattle.sorted_group.proofs.ArrayLoads.{array_moment, array_on, locates_read, sized_there}

-- a caller that is answered in a group can walk through its buffer
pub can_load : (b : Board) (g : ℕ) (h : Hand) → CanLocate b g h →
    CanWalk (opening_of b) h.number g (known h)
can_load b g h can = ⊎_elim
    (λ (z : IsAnswered (opening_of b) h.number g (known h)). inl (
      z.reading,
      z.stands,
      ∥∥₁_elim (h.following (opening_of b) can.of.opened) (hlevel props) (λ follows. ⊎_elim
          (λ (w : group_of (opening_of b) z.key (known h) ≡ g).
          walks.of_keys (opening_of b) (known h) follows.valid g (inl (z.key, w)))
          (λ (w : predecessor (opening_of b) z.key (known h) ≡ Some g).
          walks.before (opening_of b) (known h) follows.valid h.number g z.key z.reading.caller z.stands w)
          z.answers),
    ))
    (λ (z : IsGroupKeeper (opening_of b) h.number g × IsSized (opening_of b) g (known h)). inr z.0)
    can.may

module _ (b : Board) (g found : ℕ) (which : HeaderWord) (h k : Hand) (can : CanLocate b g h)
    (m : Makes b h (LoadHeader g which found) k) where
  abbrev then : Execution
  then = moment b h k (LoadHeader g which found) can.of m

  sized_then : IsSized (opening_of b) g then
  sized_then =
      let o = opening_of b in
      let valid = valid_after b h k (LoadHeader g which found) can.of m in
      same_sized o g (known h) then
      (array_moment b g h k (LoadHeader g which found) refl can.of m
      (locates_read o h.number g (known h) can.may))
      (sized_there o h.number g (known h) (valid_before o m.acts.0 (known h) valid.1) can.may)

  same_then : array_keys (opening_of b) g then ≡ array_keys (opening_of b) g (known k)
  same_then =
      let o = opening_of b in
      let reads = locates_read o h.number g (known h) can.may in
      (array_moment b g h k (LoadHeader g which found) refl can.of m reads).keys
      ∙ sym (array_on b g h k (LoadHeader g which found) refl can.of m reads).keys

  -- the keys are few
  pub few_keys : length (array_keys (opening_of b) g (known k)) ≤ 1024
  few_keys =
      let o = opening_of b in
      let fits = list_fits o (known k) (valid_known b h k (LoadHeader g which found) can.of m) g in
      let most = o.layout.kept.most_group_size in
      omega arith

-- the size is the number of the keys
pub size_is : (b : Board) (g found : ℕ) (h k : Hand) → CanLocate b g h →
    Makes b h (LoadHeader g Size found) k → found ≡ length (array_keys (opening_of b) g (known k))
size_is b g found h k can m =
    let o = opening_of b in
    let valid = valid_after b h k (LoadHeader g Size found) can.of m in
    sym valid.0.found_word
    ∙ (((of_keys o (then b g found Size h k can m) valid.1 g).0 (sized_then b g found Size h k can m)).0
    ∙ ap length (same_then b g found Size h k can m))

-- and the error that of their line
pub error_is : (b : Board) (g found : ℕ) (h k : Hand) → CanLocate b g h →
    Makes b h (LoadHeader g LineError found) k →
    found ≡ error_of (array_keys (opening_of b) g (known k))
error_is b g found h k can m =
    let o = opening_of b in
    let valid = valid_after b h k (LoadHeader g LineError found) can.of m in
    sym valid.0.found_word
    ∙ (((of_keys o (then b g found LineError h k can m) valid.1 g).0
    (sized_then b g found LineError h k can m)).1
    ∙ ap error_of (same_then b g found LineError h k can m))

-- and small
pub few_off : (keys : List ℕ) → length keys ≤ 1024 → error_of keys ≤ 1024
few_off keys few = let near = error_of-within keys in omega arith
