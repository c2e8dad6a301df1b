use Rattle.std.proofs.Common.{◌+◌, ◌-◌, ◌++◌, length, take, ap, ◌∙◌, arith}
use Rattle.std.proofs.lemmas.Slice.{take-put_mid, drop-put_mid}
use Rattle.wire_commands.proofs.reply.append.Goals as goal

pub returns-clause-front : goal.returns-clause-front
returns-clause-front c =
    let old = c.args.into.now in
    let start = c.args.start in
    let end = start + length c.args.text.now in
    let copied = c.copy_from_slice.ensures.after in
    take-put_mid start (end - start) old c.copy_from_slice.new.self end (omega (arith, ap length copied)) (omega arith)
    ∙ ap (λ text. take start old ++ text) copied

pub returns-clause-rest : goal.returns-clause-rest
returns-clause-rest c =
    let start = c.args.start in
    let end = start + length c.args.text.now in
    drop-put_mid start (end - start) c.args.into.now c.copy_from_slice.new.self end (omega arith) (omega arith)
    (omega (arith, ap length c.copy_from_slice.ensures.after))
