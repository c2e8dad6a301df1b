use Rattle.std.proofs.Common.{◌≡◌, List, map, ap, sym, subst, ◌∙◌}
use Rattle.std.specs.List.{filter}
use Rattle.std.proofs.lemmas.Result.{IfOk-weaker}
use Rattle.trace_text.specs.declared.lines.Line.{Line}
use Rattle.trace_text.specs.Traces.{IsTrace, is_told}
use Rattle.ycsb_mix.specs.declared.mixes.Step.{Step}
use Rattle.ycsb_mix.specs.Mix.{said_by, steps_of, text_of}
use Rattle.ycsb_mix.proofs.LineLaws.{mix_is_trace}
use Rattle.ycsb_mix.proofs.lines.mix_lines.Goals as goal

pub returns : goal.returns
returns c =
    let steps : c.deref.result.now ≡ steps_of c.args.mix c.args.load c.args.ops c.args.callers c.args.seed =
    c.deref.ensures.value ∙ c.in_ok-steps.ensures in
    let trace = mix_is_trace c.args.mix c.args.load c.args.ops c.args.callers c.args.seed
    c.requires.no_scans c.requires.loads_few c.requires.few c.requires.has_few_callers in
    let text = text_of c.args.mix c.args.load c.args.ops c.args.callers c.args.seed in
    IfOk-weaker c.trace_of.result (λ (told : List Line). told ≡ filter is_told (map said_by c.deref.result.now)) (IsTrace c.args.callers text)
    (λ told said. subst (IsTrace c.args.callers text)
    (sym (said ∙ ap (λ (s : List Step). filter is_told (map said_by s)) steps)) trace)
    c.trace_of.ensures
