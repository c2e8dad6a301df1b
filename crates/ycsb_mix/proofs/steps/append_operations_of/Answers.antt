use Rattle.std.proofs.Common.{◌≡◌, ◌∷◌, ◌++◌, [], length, get_or, ap, ◌∙◌, arith}
use Rattle.std.proofs.lemmas.List.{get_or_default}
use Rattle.ycsb_mix.specs.declared.drawing.Draw.{Draw}
use Rattle.ycsb_mix.specs.declared.drawing.Kind.TheVariants.{Get}
use Rattle.ycsb_mix.specs.Mix.{draw_at, inserted_by, operation_calls}
use Rattle.ycsb_mix.proofs.Strides.{stride_start}
use Rattle.ycsb_mix.proofs.StepLaws.{calls_by-some, written_none, written_mark, written_more, written_all, operation_written, own_more}
use Rattle.ycsb_mix.proofs.steps.append_operations_of.Goals as goal

pub returns-then-caller-draws : goal.returns-then-caller-draws
returns-then-caller-draws c =
    written_none (operation_calls c.args.load c.args.callers c.args.draws.now) c.args.callers c.args.caller (length c.args.draws.now) c.args.steps.now.items
    (stride_start c.args.callers c.args.caller c.requires.below) (omega arith) c.requires.below

pub loop-j-init : goal.loop-j-init
loop-j-init c = record {
  done = [];
  written = written_mark (operation_calls c.args.load c.args.callers c.args.draws.now) c.args.callers c.args.caller c.args.steps.now.items c.push.new.self.items c.requires.below c.in_ok-push.ensures.items;
  own = c.new-own.ensures.items;
  near = omega arith;
}

pub loop-j-preserved : goal.loop-j-preserved
loop-j-preserved c =
    let l = c.loop-j in
    let draws = c.args.draws.now in
    let draw : Draw = get_or draws l.j (record { kind = Get; rank = 0; count = 0 }) in
    let at : draw ≡ draw_at draws l.j = get_or_default draws l.j _ _ (omega arith) in
    let done = l.invariant.done in
    let own : c.deref.result.now ≡ inserted_by c.args.load draws done = c.deref.ensures.value ∙ l.invariant.own in
    let calls = operation_calls c.args.load c.args.callers draws in
    let added : c.append_calls.new.steps.items ≡ l.steps.items ++ calls l.j =
    c.in_ok-append_calls.ensures
    ∙ ap (λ x. l.steps.items ++ x) (operation_written c.args.load c.args.callers c.args.caller l.j draws done c.deref.result.now draw l.invariant.written.stride (omega arith) own at) in
    record {
      done = done ++ l.j ∷ [];
      written = written_more calls c.args.callers c.args.caller l.j done c.args.steps.now.items l.steps.items c.append_calls.new.steps.items
          l.invariant.written (omega arith) added (calls_by-some _ _ _ _ _ _);
      own = own_more c.args.load l.j draws done l.own.items c.keep_own.new.own.items draw l.invariant.own at c.in_ok-keep_own.ensures;
      near = omega arith;
    }

pub returns : goal.returns
returns c =
    let l = c.loop-j in
    written_all (operation_calls c.args.load c.args.callers c.args.draws.now) c.args.callers c.args.caller l.j (length c.args.draws.now) l.invariant.done c.args.steps.now.items l.steps.items
    l.invariant.written (omega arith) (omega arith) l.invariant.near
