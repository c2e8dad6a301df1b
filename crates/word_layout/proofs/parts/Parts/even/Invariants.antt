use Rattle.std.proofs.Common.{◌≡◌, ◌*◌, ◌<◌, ℕ}
use Rattle.word_layout.specs.Parts.{AreBounds, part_count, first_key_of}
use Rattle.word_layout.proofs.parts.Parts.even.Given as goal

abbrev pub invariant-loop-part : goal.invariant-loop-part
invariant-loop-part l =
    record {
      many : part_count l.even ≡ l.part;
      are_bounds : AreBounds l.even;
      begins : (part : ℕ) → part < l.part → first_key_of l.even part ≡ part * l.share;
    }
