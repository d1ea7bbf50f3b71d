use Rattle.std.proofs.Common.{refl, sym, ◌∙◌}
use Rattle.strace_logs.proofs.WishLaws.{with_otherwise, with_runtime_if}
use Rattle.strace_logs.proofs.wish.put_pair.Goals as goal

pub returns-then-eq-2 : goal.returns-then-eq-2
returns-then-eq-2 c = λ before asks is_some.
    with_runtime_if before c.args.wish.now asks _ c.args.word.now c.args.value.now c.called-wish.result
    (sym c.eq-2.ensures ∙ c.if-eq-2.true) c.called-wish.ensures (sym c.is_some.ensures ∙ is_some) refl refl refl

pub returns-in-Some : goal.returns-in-Some
returns-in-Some c = λ before asks _.
    with_otherwise before c.args.wish.now asks _ c.args.word.now c.args.value.now c.in-Some.otherwise
    c.requires (sym c.eq.ensures ∙ c.if-eq.false) (sym c.eq-2.ensures ∙ c.if-eq-2.false) c.in-Some.ensures refl refl refl
