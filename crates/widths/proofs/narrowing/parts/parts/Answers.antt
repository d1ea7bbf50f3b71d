use Rattle.std.proofs.Common.{[], ◌∷◌, ◌++◌, List, ◌∙◌, ap, arith}
use Rattle.profile.specs.declared.conditions.Cond.{Cond}
use Rattle.widths.proofs.StepLaws.{parts_whole}
use Rattle.widths.proofs.narrowing.parts.parts.Goals as goal

pub returns : goal.returns
returns c =
    parts_whole c.args.bits (omega (arith, c.if-bits-le-WIDEST.false)) c.args.cond.now c.push.new.self.items
    (c.in_ok-push.ensures.items ∙ ap (λ (l : List Cond). l ++ c.args.cond.now ∷ []) c.new-list.ensures.items)
