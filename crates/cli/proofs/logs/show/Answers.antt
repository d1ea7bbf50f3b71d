use Rattle.cli.proofs.LogLaws.{shown_more}
use Rattle.cli.proofs.logs.show.Goals as goal

pub returns-in-Ok-read_log-clause-ok : goal.returns-in-Ok-read_log-clause-ok
returns-in-Ok-read_log-clause-ok g c = λ texts have.
    shown_more (g.F.Files.folder c.args.files.now) c.args.name.now _ _ c.in-Ok.ensures.ok c.args.native texts c.read_log.new.self
    (c.in-Ok-read_log.ensures texts have)
