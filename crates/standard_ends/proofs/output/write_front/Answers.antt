use Rattle.std.proofs.Common.{◌≡◌, ◌-◌, length, take, drop, arith, length-drop}
use Rattle.std.proofs.KnownBytes.{Appends-trans}
use Rattle.std.proofs.Math.Seq.{take-add}
use Rattle.std.proofs.lemmas.Slice.{between_to_end}
use Rattle.standard_ends.proofs.output.write_front.Goals as goal

-- one more write goes on behind those before it
pub loop-count-preserved : goal.loop-count-preserved
loop-count-preserved g c =
    let bytes = c.args.bytes.now in
    let n = c.loop-count.count in
    let rest : take (length bytes - n) (drop n bytes) ≡ drop n bytes =
    between_to_end bytes n (length bytes) (omega arith) in
    let bound = rw rest at c.in-Ok.ensures.bound in
    let gave = rw rest at c.in-Ok.ensures.bytes in
    record {
      within = omega (arith, bound, length-drop n bytes);
      given = rw (take-add n c.in-Ok.more bytes)
          (Appends-trans _ _ _ (take n bytes) (take c.in-Ok.more (drop n bytes)) c.loop-count.invariant.given gave);
    }
