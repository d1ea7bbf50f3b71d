use Rattle.std.proofs.Common.{Err, ap, map}
use Rattle.flatten.proofs.StackLaws.{flat_if}
use Rattle.flatten.proofs.SizeLaws.{says, unsaid}
use Rattle.flatten.proofs.flattened.flatten.Goals as goal

pub returns-in-Ok-clause-flat : goal.returns-in-Ok-clause-flat
returns-in-Ok-clause-flat c =
    flat_if _ c.in-Ok.program.items c.deref.result.now c.accepted.result c.in-Ok.ensures.right c.deref.ensures.value c.accepted.ensures.same
    c.accepted.ensures.filter

pub returns-in-Ok-clause-fault : goal.returns-in-Ok-clause-fault
returns-in-Ok-clause-fault c = unsaid (map (λ f. f.items) c.args.filters.now) c.accepted.result c.accepted.ensures.fault c.accepted.ensures.short

pub returns-in-Err-clause-fault : goal.returns-in-Err-clause-fault
returns-in-Err-clause-fault c = says (map (λ f. f.items) c.args.filters.now) c.in-Err.why c.in-Err.ensures.fault (λ e. c.in-Err.ensures.long (ap Err e))
