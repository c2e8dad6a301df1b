use Rattle.std.proofs.Common.{◌≡◌, [], ◌∷◌, ◌++◌, ◌+◌, length, take, decimal, ◌∙◌, ap, arith}
use Rattle.wire_commands.proofs.ReplyLaws.{writes_three}
use Rattle.wire_commands.proofs.reply.write_number.Goals as goal

pub returns-clause-line : goal.returns-clause-line
returns-clause-line c =
    let digits : c.as_bytes.result.now ≡ decimal c.args.number = c.as_bytes.ensures.value
    ∙ c.format.ensures.text in
    writes_three c.args.into.now c.append-end.new.into c.append-end-2.new.into c.append.new.into
    c.args.word.now (decimal c.args.number) (10 ∷ []) c.append-end.result c.append-end-2.result
    c.append.result
    c.append-end.ensures.front c.append-end.ensures.rest (omega (arith, c.append-end.ensures.end))
    (c.append-end-2.ensures.front
    ∙ ap (λ l. take c.append-end.result c.append-end.new.into ++ l) digits)
    c.append-end-2.ensures.rest
    (c.append-end-2.ensures.end ∙ ap (λ l. c.append-end.result + length l) digits)
    c.append.ensures.front c.append.ensures.rest c.append.ensures.end
