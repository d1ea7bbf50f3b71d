use Rattle.std.proofs.Common.{ap, ◌∙◌}
use Rattle.byte_order.specs.Turned.{read_as}
use Rattle.cli.proofs.OrderLaws.{enough_read}
use Rattle.cli.proofs.files.read_filter.Goals as goal

pub returns-in-Ok-read_as-clause-ok : goal.returns-in-Ok-read_as-clause-ok
returns-in-Ok-read_as-clause-ok g c =
    enough_read c.args.native (g.F.Files.folder c.args.files.now) c.args.name.now c.in-Ok.file.items c.in-Ok-read_as.filter.items c.in-Ok.ensures.ok
    (c.in-Ok-read_as.ensures ∙ ap (read_as c.args.native) c.deref.ensures.value)
