use Rattle.explain.proofs.FieldLaws.{behind_found}
use Rattle.explain.proofs.audited.named.rest_behind.Goals as goal

pub returns : goal.returns
returns c = behind_found c.args.key.now c.args.text.now c.strip_prefix.result c.strip_prefix.ensures.cases
