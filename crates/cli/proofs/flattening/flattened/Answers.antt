use Rattle.std.proofs.Common.{map}
use Rattle.cli.proofs.DispatchLaws.{now_of}
use Rattle.cli.proofs.FormLaws.{unread_memory}
use Rattle.cli.proofs.flattening.flattened.Goals as goal

pub returns-in-Ok : goal.returns-in-Ok
returns-in-Ok g c = unread_memory (g.F.Files.folder c.args.files.now) (map now_of c.args.filters.now)
