use Rattle.widths.specs.Parts.{AreOfPatterns, AreParts}
use Rattle.widths.proofs.LowBitLaws.{if_ok}
use Rattle.widths.proofs.StepLaws.{parts_low}
use Rattle.widths.proofs.narrowing.parts.cut_parts.Goals as goal

pub returns : goal.returns
returns c =
    if_ok (λ l. AreOfPatterns c.args.cond.now.index c.deref.result.now l.items) (λ l. AreParts c.args.bits c.args.cond.now l.items)
    (λ l of. parts_low c.args.bits c.requires c.args.cond.now c.in_ok-list.list.items c.deref.result.now l.items c.in_ok-list.ensures
    c.deref.ensures.value of) c.of_patterns.result c.of_patterns.ensures
