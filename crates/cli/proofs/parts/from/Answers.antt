use Rattle.cli.proofs.PartLaws.{from_is}
use Rattle.cli.proofs.parts.from.Goals as goal

pub returns : goal.returns
returns c = from_is c.args.arguments.now c.args.place c.min.result c.min.ensures
