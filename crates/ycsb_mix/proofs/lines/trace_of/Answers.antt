use Rattle.std.proofs.Common.{◌≡◌, ℕ, ◌+◌, ◌<◌, List, [], ◌∷◌, ◌++◌, get_or, length, map, take, sym, ap, ◌∙◌}
use Rattle.std.specs.List.{filter}
use Rattle.std.proofs.lemmas.List.{map-append, take_more}
use Rattle.std.proofs.lemmas.List.Elements.{filter-append}
use Rattle.trace_text.specs.declared.lines.Line.{Line}
use Rattle.trace_text.specs.Traces.{is_told}
use Rattle.ycsb_mix.specs.declared.mixes.Step.{Step}
use Rattle.ycsb_mix.specs.declared.mixes.Step.TheVariants.{Phase}
use Rattle.ycsb_mix.specs.Mix.{said_by}
use Rattle.ycsb_mix.proofs.lines.trace_of.Goals as goal

-- what one more step says
told_more : (steps : List Step) (i : ℕ) → i < length steps
    → filter is_told (map said_by (take i steps)) ++ filter is_told (said_by (get_or steps i Phase) ∷ [])
    ≡ filter is_told (map said_by (take (i + 1) steps))
told_more steps i within =
    sym (filter-append is_told (map said_by (take i steps)) (said_by (get_or steps i Phase) ∷ []))
    ∙ ap (filter is_told) (sym (map-append said_by (take i steps) (get_or steps i Phase ∷ [])))
    ∙ ap (λ (s : List Step). filter is_told (map said_by s)) (sym (take_more steps i Phase within))

pub loop-step-preserved : goal.loop-step-preserved
loop-step-preserved c =
    c.in_ok-push.ensures.ok
    ∙ ap (λ (t : List Line). t ++ filter is_told (c.said_by.result ∷ [])) c.loop-step.invariant
    ∙ (rw c.said_by.ensures.said (told_more c.args.steps.now c.loop-step.step-index c.loop-step-test.true))
