use Rattle.differ.specs.Left.{AreNeverUnlike}
use Rattle.differ.specs.declared.direction.Direction.TheVariants.{Any}
use Rattle.together.proofs.ProductLaws.{agrees}
use Rattle.together.proofs.walked.walked_with.Goals as goal

pub returns-in-Ok-None : goal.returns-in-Ok-None
returns-in-Ok-None c =
    let never : AreNeverUnlike Any c.bits_of-bits.result 0 c.bits_of-bits.result c.args.one c.in_ok-other.other =
    rw c.in-Ok-None.field-0-is at c.in-Ok-None.ensures.none in
    agrees c.args.way c.args.profiles.now c.args.joined.now c.args.call.now c.args.one c.in_ok-other.other c.bits_of-bits.result c.bits_of-bits.ensures.is
    c.requires c.in_ok-other.ensures never
