use Rattle.std.proofs.Common.{◌∙◌, ap, sym, subst}
use Rattle.std.specs.Prelude.{Some, slice_get}
use Rattle.std.proofs.lemmas.Option.{slice_get-get_or}
use Rattle.rule_compile.specs.inner.Left.{AreSame}
use Rattle.rule_compile.proofs.blocks.Blocks.stands_for.Goals as goal

pub returns : goal.returns
returns c same =
    let xs = c.deref.result.now in
    let own = c.in-Some.block.now in
    let at = c.in-Some.ensures.lookup in
    record {
      block = own;
      is =
          ap (λ bs. slice_get bs c.args.place) (sym c.deref.ensures.value)
          ∙ slice_get-get_or xs c.args.place own at.3.0 ∙ ap Some (sym at.1);
      same = subst (λ os. AreSame os c.args.rules.now) c.deref-2.ensures.value (c.are_alike.ensures same);
      alike = c.is_like.ensures.0 c.if-not-is_like.false;
    }
