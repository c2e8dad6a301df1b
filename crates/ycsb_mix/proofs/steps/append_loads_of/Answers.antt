use Rattle.std.proofs.Common.{◌≡◌, ◌+◌, ◌∷◌, ◌++◌, [], List, ℕ, ap, ◌∙◌, arith}
use Rattle.ycsb_mix.specs.declared.mixes.Step.{Step}
use Rattle.ycsb_mix.specs.declared.mixes.Step.TheVariants as step
use Rattle.ycsb_mix.specs.Mix.{key_of, load_calls}
use Rattle.ycsb_mix.proofs.Strides.{stride_start}
use Rattle.ycsb_mix.proofs.StepLaws.{written_none, written_mark, written_more, written_all}
use Rattle.ycsb_mix.proofs.steps.append_loads_of.Goals as goal

pub returns-then-caller-load : goal.returns-then-caller-load
returns-then-caller-load c =
    written_none load_calls c.args.callers c.args.caller c.args.load c.args.steps.now.items
    (stride_start c.args.callers c.args.caller c.requires.below) (omega arith) c.requires.below

pub loop-number-init : goal.loop-number-init
loop-number-init c = record {
  done = [];
  written = written_mark load_calls c.args.callers c.args.caller c.args.steps.now.items c.push.new.self.items c.requires.below c.in_ok-push.ensures.items;
  near = omega arith;
}

pub loop-number-preserved : goal.loop-number-preserved
loop-number-preserved c =
    let l = c.loop-number in
    let call : ℕ → ℕ → List Step = λ key value. step.Put key value ∷ [] in
    let added : c.push-in-loop-number.new.self.items ≡ l.steps.items ++ load_calls l.number =
    c.in_ok-push-2.ensures.items
    ∙ ap (λ k. l.steps.items ++ call k (c.from-value.result + 1)) c.key_of-key.ensures
    ∙ ap (λ v. l.steps.items ++ call (key_of l.number) (v + 1)) c.from-value.ensures in
    record {
      done = l.invariant.done ++ l.number ∷ [];
      written = written_more load_calls c.args.callers c.args.caller l.number l.invariant.done c.args.steps.now.items l.steps.items c.push-in-loop-number.new.self.items
          l.invariant.written (omega arith) added (λ e. absurd (cc e));
      near = omega arith;
    }

pub returns : goal.returns
returns c =
    let l = c.loop-number in
    written_all load_calls c.args.callers c.args.caller l.number c.args.load l.invariant.done c.args.steps.now.items l.steps.items
    l.invariant.written (omega arith) (omega arith) l.invariant.near
