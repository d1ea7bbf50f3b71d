use Rattle.std.specs.Prelude.{Some, None}
use Rattle.json_lines.specs.Kinds.{table}
use Rattle.json_lines.proofs.Tables.{texts_found}
use Rattle.json_lines.proofs.table.texts_called.Goals as goal

pub returns-in-Some : goal.returns-in-Some
returns-in-Some c = texts_found c.args.name.now c.table.result.now table (Some c.in-Some.entry) c.table.ensures c.in-Some.ensures

pub returns-in-None : goal.returns-in-None
returns-in-None c = texts_found c.args.name.now c.table.result.now table None c.table.ensures c.in-None.ensures
